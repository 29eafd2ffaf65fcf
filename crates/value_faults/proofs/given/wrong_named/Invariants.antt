use Rattle.std.proofs.Common.{◌≡◌, drop, take}
use Rattle.std.specs.List.{AllByRecursion}
use Rattle.keycode.specs.Valid.{IsValue}
use Rattle.value_faults.specs.Faults.{wrong_named}
use Rattle.value_faults.proofs.given.wrong_named.Given as goal

abbrev pub invariant-loop-number : goal.invariant-loop-number
invariant-loop-number l = record {
  rest : wrong_named l.elements l.table (drop l.number-index l.cells) ≡ wrong_named l.elements l.table l.cells;
  known : AllByRecursion (λ c. IsValue c.1) (take l.number-index l.cells);
}
