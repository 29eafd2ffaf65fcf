-- Cited by the definitions of Kept.
-- An empty core holds what the core keeps.
use Rattle.std.specs.Prelude.{ℕ}
use Rattle.std.specs.FinMap.{empty}
use Rattle.element_state.specs.Schemas.{Schema}
use Rattle.element_state.specs.Core.{Core}

-- one version, no rows and no pairs
abbrev pub opened : {K : Type 0} → Schema K → ℕ → Core K
opened s next = record { before = s; newest = s; next = next; progress = empty; pairs = empty; rows = empty }
