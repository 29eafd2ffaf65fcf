use Rattle.std.proofs.Common.{◌≡◌, ◌-◌, []}
use Rattle.entry_code.specs.inner.At.{items_at}
use Rattle.entry_code.proofs.lists.read_items.Given as goal

abbrev pub invariant-loop : goal.invariant-loop
invariant-loop g l = items_at g.T.Encoded.at l.items.items (l.count - l.counter) l.rest ≡ items_at g.T.Encoded.at [] l.count l.bytes
