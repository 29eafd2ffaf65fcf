use Rattle.std.proofs.Common.{sym, ap, ◌∙◌}
use Rattle.std.specs.FinMap as map
use Rattle.row_map.specs.Rows.{Pairs}
use Rattle.saved_world.specs.Follows.{last_key}
use Rattle.saved_world.proofs.Puts.{entries_empty}
use Rattle.saved_world.proofs.loading.Loading.begin.Goals as goal

pub invariant_of-result : goal.invariant_of-result
invariant_of-result c = sym (ap (λ (m : Pairs). last_key (map.entries m)) c.new.ensures ∙ ap last_key entries_empty)

pub returns-clause-empty : goal.returns-clause-empty
returns-clause-empty c = ap (λ (m : Pairs). map.entries m) c.new.ensures ∙ entries_empty
