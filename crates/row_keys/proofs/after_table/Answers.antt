use Rattle.std.proofs.Common.{subst, List, ℕ, [], ◌∷◌, get_or, option_map}
use Rattle.row_keys.specs.inner.After.{IsAfter}
use Rattle.row_keys.proofs.after_table.Goals as goal

pub returns : goal.returns
returns c = subst (λ (t : List ℕ). IsAfter (82 ∷ get_or t 0 0 ∷ get_or t 1 0 ∷ get_or t 2 0 ∷ get_or t 3 0 ∷ []) c.args.key.now (option_map (λ s. s.now) c.after.result)) c.to_be_bytes-t.ensures c.after.ensures
