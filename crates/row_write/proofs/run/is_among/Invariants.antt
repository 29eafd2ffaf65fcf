use Rattle.std.proofs.Common.{◌≡◌, drop}
use Rattle.std.specs.List.{AllByRecursion}
use Rattle.row_map.specs.Rows.{Bytes}
use Rattle.row_write.proofs.run.is_among.Given as goal

abbrev pub invariant-loop-other : goal.invariant-loop-other
invariant-loop-other l = AllByRecursion (λ (other : Bytes). ¬ (other ≡ l.key)) (drop l.other-index l.keys) → AllByRecursion (λ (other : Bytes). ¬ (other ≡ l.key)) l.keys
