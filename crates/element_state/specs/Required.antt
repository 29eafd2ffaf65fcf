-- Cited by the definitions of Kinds, RequiredLaws, reorganise/Laws.
-- A required column: each row has a value in it, its own or the default.
use Rattle.std.specs.Prelude.{ℕ, Bool, true, List, [], ◌∷◌, Option, Some, None, cond, unwrap_or}
use Rattle.std.specs.FinMap.{get}
use Rattle.std.specs.Ordering.{eq_by_cmp}
use Rattle.keycode.specs.declared.value.Value.{Value}
use Rattle.keycode.specs.Order.{value_cmp}
use Rattle.keycode.specs.Code.{code}
use Rattle.row_map.specs.Rows.{Bytes, RowKey, Cells}
use Rattle.row_map.specs.Writes.{Writes}
use Rattle.schema_version.specs.declared.element.ElementState.{ElementState}
use Rattle.schema_version.specs.declared.element.ElementState.TheVariants.{Absent, DeleteOnly, WriteOnly, Public}
use Rattle.element_state.specs.Elements.{Change, Meaning}
use Rattle.element_state.specs.Index.{index_exact, index_edge}
use Rattle.element_state.specs.Column.{column_pair, column_deletes}
use Rattle.element_state.specs.Tables.{within}

-- the value of a row: its own, or the default
abbrev pub required_value : ℕ → Value → Cells → Value
required_value n fallback r = unwrap_or (get r n) fallback

-- the value of its pair of a row
abbrev pub required_code : ℕ → Value → Cells → Bytes
required_code n fallback r = code (required_value n fallback r)

abbrev pub same_value : Value → Value → Bool
same_value v w = eq_by_cmp value_cmp v w

-- WriteOnly: an insert puts the default's pair, since no operation that may not name the column gives it a value; a delete removes the pair
abbrev pub required_hidden : ℕ → Value → RowKey → Option Cells → Option Cells → Writes
required_hidden n fallback k None (Some r) = (column_pair n k, Some (code fallback)) ∷ []
required_hidden n fallback k (Some o) None = (column_pair n k, None) ∷ []
required_hidden n fallback k _ _ = []

-- Public: an insert puts the pair of the row's value, an update where the two rows' values differ, a delete removes the pair
abbrev pub required_public : ℕ → Value → RowKey → Option Cells → Option Cells → Writes
required_public n fallback k None None = []
required_public n fallback k None (Some r) = (column_pair n k, Some (required_code n fallback r)) ∷ []
required_public n fallback k (Some o) None = (column_pair n k, None) ∷ []
required_public n fallback k (Some o) (Some r) = cond (same_value (required_value n fallback o) (required_value n fallback r)) [] ((column_pair n k, Some (required_code n fallback r)) ∷ [])

-- what an operation writes for a required column in each state. In delete-only a delete alone writes, as for any column
abbrev pub required_writes : ℕ → Value → ElementState → Change → Writes
required_writes n fallback Absent c = []
required_writes n fallback DeleteOnly c = column_deletes n c.key c.old c.new
required_writes n fallback WriteOnly c = required_hidden n fallback c.key c.old c.new
required_writes n fallback Public c = required_public n fallback c.key c.old c.new

-- its writes depend on the row's value alone, and only if it is public
abbrev pub required_sees : ℕ → Value → ElementState → Cells → List Value
required_sees n fallback Public r = required_value n fallback r ∷ []
required_sees n fallback _ r = []

-- what a required column means for the rows of any table. It keeps up with the rows where an index does, and moves as an index
abbrev pub required_meaning : ℕ → Value → Meaning
required_meaning n fallback = record {
  number = n;
  serves = λ t. true;
  pair_key = λ k r. column_pair n k;
  pair_value = λ k r. Some (required_code n fallback r);
  exact = index_exact;
  filled = true;
  edge = index_edge;
  writes = required_writes n fallback;
  sees = required_sees n fallback;
}

-- what a required column of a table means
abbrev pub required_of : ℕ → ℕ → Value → Meaning
required_of table n fallback = within table (required_meaning n fallback)
