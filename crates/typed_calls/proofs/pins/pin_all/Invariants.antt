use Rattle.std.proofs.Common.{◌≡◌, drop}
use Rattle.typed_calls.specs.Pins.{pinned_all}
use Rattle.typed_calls.proofs.pins.pin_all.Given as goal

abbrev pub invariant-loop-key : goal.invariant-loop-key
invariant-loop-key l = pinned_all l.view (drop l.key-index l.entries) ≡ pinned_all l.initial.view l.entries
