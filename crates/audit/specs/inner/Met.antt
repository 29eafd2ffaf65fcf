-- Cited by private functions alone: remember, is_last, is_there, is_column and 3 more.
-- The row that was met last on a walk over the pairs of a store.
use Rattle.std.specs.Prelude.{◌≡◌, ℕ, ◌==◌, Bool, true, false, ◌&&◌, List, Option, Some, None}
use Rattle.std.specs.FinMap as map
use Rattle.std.specs.List.{AllByRecursion}
use Rattle.std.specs.Ordering.{is_eq}
use Rattle.keycode.specs.declared.value.Value.{Value}
use Rattle.keycode.specs.Order.{values_cmp}
use Rattle.row_map.specs.declared.key.KeyOf.{KeyOf}
use Rattle.row_map.specs.declared.key.KeyOf.TheVariants.{Exists}
use Rattle.row_map.specs.Rows.{Pairs}
use Rattle.audit.specs.declared.met.MetRow.{MetRow}
use Rattle.audit.specs.Audit.{Pair}
use Rattle.audit.specs.Encoded.{is_row}

-- each is a pair of the store
abbrev pub ArePresent : Pairs → List Pair → Type 0
ArePresent pairs = AllByRecursion (λ (pair : Pair). map.get pairs pair.0 ≡ Some pair.1)

-- the row that was met last has its `exists` pair
abbrev pub IsThere : Pairs → Option MetRow → Type 0
IsThere pairs None = Unit {0}
IsThere pairs (Some row) = is_row pairs row.table row.key ≡ true

-- the row that was met last after a pair with this key
abbrev pub after : Option KeyOf → Option MetRow → Option MetRow
after (Some (Exists table primary)) before = Some (record { table = table; key = primary })
after _ before = before

-- whether the row that was met last is this one
abbrev pub is_named : Option MetRow → ℕ → List Value → Bool
is_named None table primary = false
is_named (Some row) table primary = (row.table == table) && is_eq (values_cmp row.key primary)
