-- Cited by the contracts of declaration_fault, lemma_one_fault.
-- What may be wrong with tables as they are declared, and which of it comes first.
use Rattle.std.specs.Prelude.{◌≡◌, ℕ, ◌<◌, ◌⊎◌, List, [], ◌∷◌, length, Option, Some, None, slice_get}
use mathlib.Core.List.{map as each}
use Rattle.collections.specs.Refusal.{IsClear}
use Rattle.schema_version.specs.declared.table.TableDef.{TableDef}
use Rattle.schema_version.specs.Names.{IsName, max_tables, max_key_columns, max_columns, max_indexes, max_listed}
use Rattle.schema_version.specs.Declare.{names_of}
use Rattle.table_faults.specs.declared.fault.TableCause.{TableCause}
use Rattle.table_faults.specs.declared.fault.TableCause.TheVariants.{NoTable, TooManyTables, TableName, TableTwice, KeyLength, TooManyColumns, TooManyIndexes, Name, NameTwice, ListLength, ListedTwice, NotAColumn}
use Rattle.table_faults.specs.declared.fault.TableFault.{TableFault}

-- ---- names and counts; places count from 0

-- the name stands at this place
abbrev pub StandsAt : List (List ℕ) → ℕ → List ℕ → Type 0
StandsAt names place name = slice_get names place ≡ Some name

-- what stands at this place is no name
abbrev pub IsNoName : List (List ℕ) → ℕ → Type 0
IsNoName names place = (name : List ℕ) × StandsAt names place name × ¬ (IsName name)

-- what stands at this place stands at a later one too
abbrev pub StandsAgain : List (List ℕ) → ℕ → Type 0
StandsAgain names place = (name : List ℕ) × (later : ℕ) × StandsAt names place name × (place < later) × StandsAt names later name

-- what stands at this place is at no place of those
abbrev pub IsForeign : List (List ℕ) → List (List ℕ) → ℕ → Type 0
IsForeign those names place = (name : List ℕ) × StandsAt names place name × ((other : ℕ) → ¬ (StandsAt those other name))

-- there is none, or there are more than this
abbrev pub IsNoneOrOver : ℕ → ℕ → Type 0
IsNoneOrOver most count = (count ≡ 0) ⊎ (most < count)

-- ---- what may be wrong

-- the index of this number lists these
abbrev pub Lists : TableDef → ℕ → List (List ℕ) → Type 0
Lists table index listed = slice_get (each (λ i. i.1) table.indexes) index ≡ Some listed

-- of a table on its own
abbrev pub IsWrong : TableDef → TableCause → Type 0
IsWrong table TableName = ¬ (IsName table.name)
IsWrong table KeyLength = IsNoneOrOver max_key_columns (length table.key)
IsWrong table TooManyColumns = max_columns < length table.columns
IsWrong table TooManyIndexes = max_indexes < length table.indexes
IsWrong table (Name place) = IsNoName (names_of table) place
IsWrong table (NameTwice place) = StandsAgain (names_of table) place
IsWrong table (ListLength index) = (listed : List (List ℕ)) × Lists table index listed × IsNoneOrOver max_listed (length listed)
IsWrong table (ListedTwice index place) = (listed : List (List ℕ)) × Lists table index listed × StandsAgain listed place
IsWrong table (NotAColumn index place) = (listed : List (List ℕ)) × Lists table index listed × IsForeign (each (λ c. c.0) table.columns) listed place
IsWrong table cause = ⊥

-- of the table of this number; where the number of the tables is wrong, no table of them is meant
abbrev pub IsWrongAt : List TableDef → ℕ → TableCause → Type 0
IsWrongAt tables number NoTable = (number ≡ 0) × (length tables ≡ 0)
IsWrongAt tables number TooManyTables = (number ≡ max_tables) × (max_tables < length tables)
IsWrongAt tables number TableTwice = StandsAgain (each (λ (t : TableDef). t.name) tables) number
IsWrongAt tables number cause = (table : TableDef) × (slice_get tables number ≡ Some table) × IsWrong table cause

-- the tables have this fault, whatever others they have
abbrev pub IsFault : List TableDef → TableFault → Type 0
IsFault tables fault = IsWrongAt tables fault.table fault.cause

-- ---- their order

-- the first numbers that differ decide; what is only the begin of another comes before it
abbrev pub IsBelow : List ℕ → List ℕ → Type 0
IsBelow one [] = ⊥
IsBelow [] (y ∷ ys) = Unit {0}
IsBelow (x ∷ xs) (y ∷ ys) = (x < y) ⊎ ((x ≡ y) × IsBelow xs ys)

-- in a table by kind; but names, wrong or standing again, are one kind, place by place, and so are indexes,
-- one by one: first its length, and then what it lists, place by place
abbrev pub rank_in_table : TableCause → List ℕ
rank_in_table TableName = 0 ∷ []
rank_in_table TableTwice = 1 ∷ []
rank_in_table KeyLength = 2 ∷ []
rank_in_table TooManyColumns = 3 ∷ []
rank_in_table TooManyIndexes = 4 ∷ []
rank_in_table (Name place) = 5 ∷ place ∷ 0 ∷ []
rank_in_table (NameTwice place) = 5 ∷ place ∷ 1 ∷ []
rank_in_table (ListLength index) = 6 ∷ index ∷ 0 ∷ []
rank_in_table (ListedTwice index place) = 6 ∷ index ∷ 1 ∷ place ∷ 0 ∷ []
rank_in_table (NotAColumn index place) = 6 ∷ index ∷ 1 ∷ place ∷ 1 ∷ []
rank_in_table cause = []

-- the number of the tables comes before what is wrong with one of them
abbrev pub rank_of_kind : TableCause → ℕ
rank_of_kind NoTable = 0
rank_of_kind TooManyTables = 1
rank_of_kind cause = 2

-- table by table
abbrev pub rank : TableFault → List ℕ
rank fault = rank_of_kind fault.cause ∷ fault.table ∷ rank_in_table fault.cause

-- it is a fault of the tables, and none that comes before it is
abbrev pub IsFirstFault : List TableDef → TableFault → Type 0
IsFirstFault tables fault = IsFault tables fault × ((other : TableFault) → IsBelow (rank other) (rank fault) → ¬ (IsFault tables other))

-- the first fault; none if there is no fault at all
abbrev pub IsFinding : List TableDef → Option TableFault → Type 0
IsFinding tables (Some fault) = IsFirstFault tables fault
IsFinding tables None = IsClear (IsFault tables)
