use Rattle.std.proofs.Common.{◌≡◌, drop}
use Rattle.std.specs.List.{list_all}
use Rattle.row_query.specs.Answer.{meets}
use Rattle.row_query.specs.inner.Found.{value_in}
use Rattle.row_page.proofs.conditions.meets_all.Given as goal

abbrev pub invariant-loop-condition : goal.invariant-loop-condition
invariant-loop-condition l = list_all (meets l.key (value_in l.cells)) (drop l.condition-index l.conditions) ≡ list_all (meets l.key (value_in l.cells)) l.conditions
