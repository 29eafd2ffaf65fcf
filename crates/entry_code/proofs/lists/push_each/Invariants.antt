use Rattle.std.proofs.Common.{◌≡◌, ◌++◌, take}
use Rattle.std.specs.List.{AllByRecursion, flat_map}
use Rattle.entry_code.proofs.lists.push_each.Given as goal

abbrev pub invariant-loop-item : goal.invariant-loop-item
invariant-loop-item g l = record {
  spelled : l.out.items ≡ l.fn.out.items ++ flat_map g.T.Encoded.code (take l.item-index l.items);
  known : AllByRecursion g.T.Encoded.known (take l.item-index l.items);
}
