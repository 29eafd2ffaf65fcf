use Rattle.std.proofs.Common.{◌≡◌, ◌-◌, []}
use Rattle.entry_code.specs.inner.At.{items_at, value_at}
use Rattle.page_code.proofs.values.read_items.Given as goal

abbrev pub invariant-loop : goal.invariant-loop
invariant-loop l = items_at value_at l.items.items (l.count - l.counter) l.rest ≡ items_at value_at [] l.count l.bytes
