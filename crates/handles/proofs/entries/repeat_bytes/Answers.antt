use Rattle.std.proofs.Common.{ℤ, arith, inr}
use Rattle.std.proofs.lemmas.Int.{to_z-of_z}
use Rattle.handles.specs.Entries.{RepeatsBytes}
use Rattle.handles.proofs.Steps.{as_given}
use Rattle.handles.proofs.entries.repeat_bytes.Goals as goal

pub returns-in-Ok : goal.returns-in-Ok
returns-in-Ok c =
    as_given (λ (s : ℤ). RepeatsBytes c.args.bounded.now c.args.bytes.now s c.repeat_entry.new.bounded) _ c.repeat_entry.result (grind (arith, to_z-of_z))
    (inr (inr (c.in-Ok.entry, c.in-Ok.ensures.read.1, c.in-Ok.ensures.read.0, c.repeat_entry.ensures)))
