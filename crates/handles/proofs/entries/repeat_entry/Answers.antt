use Rattle.std.proofs.Common.{ℤ, arith}
use Rattle.std.proofs.lemmas.Int.{to_z-of_z}
use Rattle.typed_calls.specs.Statuses.{not_next}
use Rattle.handles.specs.Entries.{RepeatsWorld}
use Rattle.handles.proofs.Steps.{as_given, within}
use Rattle.handles.proofs.entries.repeat_entry.Goals as goal

pub returns : goal.returns
returns c =
    within not_next (λ world s world'. RepeatsWorld world c.args.entry.now s world') c.args.bounded.now c.args.entry.now.moment c.is_too_far.result _ c.repeat_in.new.world
    c.is_too_far.ensures c.if-is_too_far.false
    (as_given (λ (s : ℤ). RepeatsWorld c.args.bounded.now.world c.args.entry.now s c.repeat_in.new.world) _ c.repeat_in.result (grind (arith, to_z-of_z)) c.repeat_in.ensures)
