-- Cited by the definitions of Kept, reorganise/Laws.
-- The pieces of fills and clears as they are: what they write are the items between two cursors, and nothing there is left out.
use Rattle.std.specs.Prelude.{ℕ, zero, suc, List, [], ◌∷◌}
use Rattle.row_map.specs.Rows.{Bytes, RowKey, Cells, Rows}
use Rattle.element_state.specs.Elements.{Meaning}
use Rattle.element_state.specs.Items.{row_items}
use Rattle.element_state.specs.Schemas.{Kinds}
use Rattle.element_state.specs.Core.{PassedSpan}

-- one cursor is moved
abbrev pub with_cursor : ℕ → Bytes → List PassedSpan → List PassedSpan
with_cursor place to [] = []
with_cursor zero to (s ∷ ss) = record s { cursor = to } ∷ ss
with_cursor (suc place) to (s ∷ ss) = s ∷ with_cursor place to ss

-- the cursor of a piece
abbrev pub cursor_at : ℕ → List PassedSpan → Bytes
cursor_at place [] = []
cursor_at zero (s ∷ ss) = s.cursor
cursor_at (suc place) (s ∷ ss) = cursor_at place ss

module _ {K : Type 0} (ks : Kinds K) where
  -- the rows that a piece of a fill goes through
  abbrev pub fill_items : Meaning → Rows → Bytes → Bytes → List (RowKey × Cells)
  fill_items m rows from to = row_items m.serves rows from to
