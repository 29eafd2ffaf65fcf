use Rattle.std.proofs.Common.{take, ◌∙◌, ap, sym}
use Rattle.change_plan.specs.declared.change.Change.TheVariants.{AddIndex}
use Rattle.change_plan.specs.Schedule.{schedule_of}
use Rattle.change_plan.proofs.numbers.schedule_of.Goals as goal

pub returns-in_ok-schedule-in-AddIndex : goal.returns-in_ok-schedule-in-AddIndex
returns-in_ok-schedule-in-AddIndex c =
    c.in_ok-schedule-in-AddIndex.ensures
    ∙ ap (λ columns. schedule_of c.args.schema.now c.args.all.now (take c.args.place c.args.all.now) (AddIndex c.in-AddIndex.table c.in-AddIndex.name columns)) c.as_slice-columns.ensures
    ∙ sym (ap (schedule_of c.args.schema.now c.args.all.now (take c.args.place c.args.all.now)) c.in-AddIndex.is)
