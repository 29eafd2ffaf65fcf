use Rattle.std.proofs.Common.{◌≡◌, drop, take}
use Rattle.std.specs.List.{AllByRecursion}
use Rattle.keycode.specs.Valid.{IsValue}
use Rattle.row_write.specs.inner.Checks.{suits_all}
use Rattle.row_write.proofs.check.suits_all.Given as goal

abbrev pub invariant-loop-number : goal.invariant-loop-number
invariant-loop-number l = record {
  rest : suits_all l.elements l.table (drop l.number-index l.cells) ≡ suits_all l.elements l.table l.cells;
  known : AllByRecursion (λ c. IsValue c.1) (take l.number-index l.cells);
}
