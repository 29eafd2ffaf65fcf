-- Cited by the definitions of Kept.
-- A piece of a fill or a clear keeps what the core keeps, from the laws alone.
use Rattle.std.specs.Prelude.{ℕ}
use Rattle.std.specs.FinMap.{insert}
use Rattle.row_map.specs.Rows.{Pairs}
use Rattle.element_state.specs.Schemas.{Kinds}
use Rattle.element_state.specs.Core.{CoreProgress, Core}

module _ {K : Type 0} (ks : Kinds K) where
  -- the core after a piece of n's reorganisation
  abbrev pub moved : Core K → ℕ → CoreProgress → Pairs → Core K
  moved w n p P = record w { progress = insert w.progress n p; pairs = P }
