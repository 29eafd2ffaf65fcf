use Rattle.std.proofs.Common.{◌≡◌, ◌++◌, take, option_map}
use Rattle.std.specs.List.{filter_map}
use Rattle.schema_version.specs.declared.element.ElementDef.{ElementDef}
use Rattle.page_check.specs.Needs.{besides, given_range}
use Rattle.page_check.proofs.needs.push_given.Given as goal

abbrev pub invariant-loop-element : goal.invariant-loop-element
invariant-loop-element l = l.out.items ≡ l.initial.out.items ++ filter_map (λ (element : ElementDef). besides l.low (option_map (λ b. b.now) l.to) (given_range l.schema l.table l.row element)) (take l.element-index l.elements)
