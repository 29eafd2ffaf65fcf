-- Cited by the contracts of read_only_value, read_typed_value, read_cell.
-- The one value that bytes encode, as the pair of a column has it.
use Rattle.std.specs.Prelude.{◌≡◌, ℕ, List, [], ◌∷◌, Option, Some, None, Result, Ok, Err, IsTrue, if◌then◌else◌}
use Rattle.std.specs.FinMap as map
use Rattle.keycode.specs.declared.fault.KeyFault.{KeyFault}
use Rattle.keycode.specs.declared.value.Value.{Value}
use Rattle.keycode.specs.Code.{code}
use Rattle.keycode.specs.Read.{value_at}
use Rattle.keycode.specs.Valid.{IsStorable}
use Rattle.row_map.specs.declared.shape.ColumnType.{ColumnType}
use Rattle.row_map.specs.Keys.{row_code}
use Rattle.row_map.specs.Rows.{Bytes, Pairs}
use Rattle.row_map.specs.Shape.{has_type}

-- the bytes are the code of this value
pub record IsEncoding (bytes : Bytes) (value : Value) : Type 0 where
  pub encoded : bytes ≡ code value
  pub storable : IsStorable value

-- the bytes are the code of this value, which is of the type
pub record IsTypedEncoding (type : ColumnType) (bytes : Bytes) (value : Value) : Type 0 where
  pub encoded : bytes ≡ code value
  pub typed : IsTrue (has_type type value)
  pub storable : IsStorable value

-- the value that was read, where no bytes are left
abbrev pub alone : Result (Value × Bytes) KeyFault → Option Value
alone (Ok (value, [])) = Some value
alone (Ok (value, b ∷ bytes)) = None
alone (Err fault) = None

-- the value that bytes encode, where they encode just one
abbrev pub only_value : Bytes → Option Value
only_value bytes = alone (value_at bytes)

-- a value that is of the type
abbrev pub of_type : ColumnType → Option Value → Option Value
of_type type None = None
of_type type (Some value) = if has_type type value then Some value else None

-- the value that bytes encode, where they encode just one, which is of the type
abbrev pub typed_value : ColumnType → Bytes → Option Value
typed_value type bytes = of_type type (only_value bytes)

-- the one value that a pair encodes, if the pair is there
abbrev pub value_from : Option Bytes → Option Value
value_from None = None
value_from (Some bytes) = only_value bytes

-- the value of a row in a column, as the pairs have it
abbrev pub cell_in : Pairs → ℕ → List Value → ℕ → Option Value
cell_in pairs table key column = value_from (map.get pairs (row_code table key column))
