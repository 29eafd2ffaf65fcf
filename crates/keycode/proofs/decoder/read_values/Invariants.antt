use Rattle.std.proofs.Common.{◌≡◌, ◌-◌, []}
use Rattle.keycode.specs.Read.{values_at}
use Rattle.keycode.proofs.decoder.read_values.Given as goal

abbrev pub invariant-loop : goal.invariant-loop
invariant-loop l = values_at l.values.items (l.count - l.counter) l.rest ≡ values_at [] l.count l.bytes
