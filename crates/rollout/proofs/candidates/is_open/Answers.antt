use Rattle.std.proofs.Common.{◌∙◌, sym, ap}
use Rattle.std.specs.Option.{option_copied}
use Rattle.schema_version.specs.Version.{element_at}
use Rattle.world.specs.State.{facts_of}
use Rattle.rollout.proofs.Searches.{open_decides}
use Rattle.rollout.proofs.candidates.is_open.Goals as goal

pub returns-in-Some-progress : goal.returns-in-Some-progress
returns-in-Some-progress c =
    open_decides (facts_of c.args.world.now) c.args.number c.in-Some-progress.field-0-1 c.in-Some-progress.field-0-0 c.in-Some-progress.ended c.in-Some.field-0.now
    (ap (λ v. element_at v c.args.number) (sym (c.get.ensures ∙ c.newest.ensures)) ∙ sym c.element.ensures ∙ ap option_copied c.in-Some.is) (sym c.in-Some-progress.is ∙ c.progress.ensures)
