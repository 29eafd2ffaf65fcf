use Rattle.std.proofs.Common.{◌≡◌, take}
use Rattle.std.specs.Prelude.{count_by}
use Rattle.audit.specs.Audit.{lacks}
use Rattle.page_check.proofs.judge.count_lacking.Given as goal

abbrev pub invariant-loop-element : goal.invariant-loop-element
invariant-loop-element g l = l.count ≡ count_by (lacks l.schema (g.V.PairView.pairs l.view) l.table l.row) (take l.element-index l.elements)
