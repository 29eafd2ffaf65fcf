use Rattle.std.proofs.Common.{take}
use Rattle.schema_version.specs.declared.element.ElementDef.{ElementDef}
use Rattle.layer_due.specs.Due.{IsWanting}
use Rattle.layer_due.proofs.Searches.{AllIn}
use Rattle.layer_due.proofs.search.find_wanting.Given as goal

abbrev pub invariant-loop-element : goal.invariant-loop-element
invariant-loop-element l = AllIn (λ (e : ElementDef). ¬ (IsWanting l.records e.number)) (take l.element-index l.element-items)
