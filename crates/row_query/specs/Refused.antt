-- Cited by the contracts of answer, lemma_one_refusal.
-- Why a query is refused.
use Rattle.std.specs.Prelude.{◌≡◌, ◌≢◌, ℕ, List, ◌∷◌, ◌++◌, Option, Some, None, IsTrue, IsNone, ◌⊎◌}
use Rattle.std.specs.List.{AllByRecursion}
use Rattle.std.specs.Cmp.Lexicographic.{pointwise}
use mathlib.Core.List.{map as each}
use Rattle.collections.specs.Refusal.{IsFirst, IsClear}
use Rattle.keycode.specs.declared.value.Value.{Value}
use Rattle.keycode.specs.declared.value.Value.TheVariants.{Null}
use Rattle.row_map.specs.declared.shape.ColumnType.{ColumnType}
use Rattle.schema_version.specs.declared.element.ElementState.TheVariants.{Public}
use Rattle.schema_version.specs.declared.element.ElementDef.{ElementDef}
use Rattle.schema_version.specs.Version.{Version, Table, table_at, element_at, type_of_kind}
use Rattle.schema_version.specs.Shape.{key_types}
use Rattle.row_query.specs.declared.query.Cond.{Cond}
use Rattle.row_query.specs.declared.query.Cond.TheVariants.{Key, Equal, Between}
use Rattle.row_query.specs.declared.query.Query.{Query}
use Rattle.row_query.specs.declared.fault.QueryFault.{QueryFault}
use Rattle.row_query.specs.declared.fault.QueryFault.TheVariants.{NoTable, NotPublic, WrongType, Memory}
use Rattle.row_query.specs.Kinds.{has_kind}

-- the number names a public column of the table, optional or required, of this type
pub record IsColumn (version : Version) (table number : ℕ) (type : ColumnType) : Type 0 where
  pub element : ElementDef
  pub known : element_at version number ≡ Some element
  pub home : element.table ≡ table
  pub column : type_of_kind element.kind ≡ Some type
  pub public : element.state ≡ Public

-- it names none
abbrev pub IsHidden : Version → ℕ → ℕ → Type 0
IsHidden version table number = (type : ColumnType) → ¬ (IsColumn version table number type)

-- a part of a query: a named column, or a condition
pub data Part : Type 0 where
  Named : ℕ → Part
  Where : Cond → Part

-- the named columns in their order, and then the conditions in theirs
abbrev pub parts : Query → List Part
parts query = each Named query.columns ++ each Where query.conditions

-- a value of each key column's kind and no more, hence no Null
abbrev pub IsTypedKey : Table → List Value → Type 0
IsTypedKey table key = IsTrue (pointwise has_kind (key_types table.key) key)

-- the column is public and its kind is another than the value's. Null has none
abbrev pub IsMistyped : Version → ℕ → ℕ → Value → Type 0
IsMistyped version table column value = (type : ColumnType) × IsColumn version table column type × (¬ (IsTrue (has_kind type value)))

-- a bound that is given and isn't of the column's kind
abbrev pub IsBadBound : Version → ℕ → ℕ → Option Value → Type 0
IsBadBound version table column None = ⊥
IsBadBound version table column (Some bound) = IsMistyped version table column bound

-- what is wrong with a part
abbrev pub PartFault : Version → ℕ → Table → Part → QueryFault → Type 0
PartFault version number table (Named column) (NotPublic other) = (other ≡ column) × IsHidden version number column
PartFault version number table (Where (Equal column value)) (NotPublic other) = (other ≡ column) × IsHidden version number column
PartFault version number table (Where (Between column low high)) (NotPublic other) = (other ≡ column) × IsHidden version number column
PartFault version number table (Where (Key key)) WrongType = ¬ (IsTypedKey table key)
PartFault version number table (Where (Equal column value)) WrongType = (value ≢ Null) × IsMistyped version number column value
PartFault version number table (Where (Between column low high)) WrongType = IsBadBound version number column low ⊎ IsBadBound version number column high
PartFault version number table part fault = ⊥

abbrev pub rank : QueryFault → ℕ
rank NoTable = 1
rank (NotPublic column) = 2
rank WrongType = 3
rank Memory = 4

-- the parts in their order: the first with a fault decides, by its lowest
abbrev pub IsFirstPartFault : Version → ℕ → Table → List Part → QueryFault → Type 0
IsFirstPartFault version number table all fault =
    (before after : List Part) × (part : Part) × (all ≡ before ++ part ∷ after)
    × IsFirst rank (PartFault version number table part) fault
    × AllByRecursion (λ earlier. IsClear (PartFault version number table earlier)) before

-- why a query is refused: its table isn't there; else the fault of its first faulty part
abbrev pub IsRefused : Version → Query → QueryFault → Type 0
IsRefused version query NoTable = IsNone (table_at version query.table)
IsRefused version query fault = (table : Table) × (table_at version query.table ≡ Some table) × IsFirstPartFault version query.table table (parts query) fault

-- its table is there, and no part of it has a fault
pub record IsSound (version : Version) (query : Query) : Type 0 where
  pub table : Table
  pub known : table_at version query.table ≡ Some table
  pub clear : AllByRecursion (λ part. IsClear (PartFault version query.table table part)) (parts query)
