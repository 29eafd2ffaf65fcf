-- Cited by private functions alone, and by the invariant of Schema: word, push_word, push_name, type_byte and 13 more.
-- A version as a string of bytes: two versions of the same bytes are the same.
use Rattle.std.specs.Prelude.{ℕ, ◌/◌, ◌%◌, List, [], ◌∷◌, ◌++◌}
use Rattle.std.specs.List.{flat_map}
use mathlib.Core.List.{map as each}
use Rattle.keycode.specs.Code.{code}
use Rattle.row_map.specs.declared.shape.ColumnType.{ColumnType}
use Rattle.row_map.specs.declared.shape.ColumnType.TheVariants.{Int, Text, Bool}
use Rattle.schema_version.specs.declared.element.ElementState.{ElementState}
use Rattle.schema_version.specs.declared.element.ElementState.TheVariants.{Absent, DeleteOnly, WriteOnly, Public}
use Rattle.schema_version.specs.declared.element.Way.{Way}
use Rattle.schema_version.specs.declared.element.Way.TheVariants.{Adding, Dropping}
use Rattle.schema_version.specs.declared.element.Kind.{Kind}
use Rattle.schema_version.specs.declared.element.Kind.TheVariants.{Index, Optional, Required}
use Rattle.schema_version.specs.declared.element.ElementDef.{ElementDef}
use Rattle.schema_version.specs.Version.{Version, Table, live}

-- four bytes, the highest first, which is not cut: no two numbers have the same
abbrev pub word : ℕ → List ℕ
word n = n / 256 / 256 / 256 ∷ n / 256 / 256 % 256 ∷ n / 256 % 256 ∷ n % 256 ∷ []

abbrev pub byte : ℕ → List ℕ
byte b = b ∷ []

abbrev pub after_one : {X : Type 0} → (X → List ℕ) → X → List ℕ
after_one code x = 1 ∷ code x

-- each item after a 1, and a 0 after the last
abbrev pub items_bytes : {X : Type 0} → (X → List ℕ) → List X → List ℕ
items_bytes code items = flat_map (after_one code) items ++ 0 ∷ []

abbrev pub name_bytes : List ℕ → List ℕ
name_bytes name = items_bytes byte name

abbrev pub type_byte : ColumnType → ℕ
type_byte Int = 0
type_byte Text = 1
type_byte Bool = 2

abbrev pub column_bytes : List ℕ × ColumnType → List ℕ
column_bytes column = name_bytes column.0 ++ byte (type_byte column.1)

abbrev pub key_bytes : List (List ℕ × ColumnType) → List ℕ
key_bytes key = items_bytes column_bytes key

abbrev pub kind_bytes : Kind → List ℕ
kind_bytes (Index columns) = 0 ∷ items_bytes word columns
kind_bytes (Optional type) = 1 ∷ byte (type_byte type)
kind_bytes (Required type fallback) = 2 ∷ type_byte type ∷ code fallback

abbrev pub state_byte : ElementState → ℕ
state_byte Absent = 0
state_byte DeleteOnly = 1
state_byte WriteOnly = 2
state_byte Public = 3

abbrev pub way_byte : Way → ℕ
way_byte Adding = 0
way_byte Dropping = 1

abbrev pub element_bytes : ElementDef → List ℕ
element_bytes e = word e.number ++ word e.table ++ name_bytes e.name ++ kind_bytes e.kind ++ state_byte e.state ∷ way_byte e.way ∷ []

abbrev pub parts_bytes : List (List ℕ) → List (List (List ℕ × ColumnType)) → List ElementDef → ℕ → List ℕ
parts_bytes names keys elements next = word next ++ items_bytes name_bytes names ++ items_bytes key_bytes keys ++ items_bytes element_bytes elements

abbrev pub encoding : Version → List ℕ
encoding version = parts_bytes (each (λ (t : Table). t.name) version.tables) (each (λ (t : Table). t.key) version.tables) (live version) version.next
