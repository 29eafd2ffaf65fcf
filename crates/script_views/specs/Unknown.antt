-- Cited by the contracts of missing_table, missing_element, push_nearest and of the functions below them, and by the definitions of Check.
-- What is said of names that a version does not have.
use Rattle.std.specs.Prelude.{◌≡◌, ◌<◌, ◌++◌, ◌⊎◌, ℕ, List, Option, Some, None, codes}
use Rattle.schema_version.specs.Version.{Version}
use Rattle.script_session.specs.Names.{table_number, element_number}

abbrev pub StartsWith : List ℕ → List ℕ → Type 0
StartsWith front text = (rest : List ℕ) × (text ≡ front ++ rest)

-- there is no table of this name, and the text says so
abbrev pub SaysNoTable : Version → List ℕ → List ℕ → Type 0
SaysNoTable version table text = (table_number version table ≡ 0) × StartsWith (codes "there is no table " ++ table) text

-- the text says that the table has no column or index of this name, or that it is a column of the primary key
abbrev pub NamesNoElement : List ℕ → List ℕ → List ℕ → Type 0
NamesNoElement table name text =
    StartsWith (table ++ codes " has no column or index " ++ name) text ⊎ StartsWith (name ++ codes " is a key column of " ++ table) text

-- there is such a table, and the text says of the other name what it is not
abbrev pub SaysNoElement : Version → List ℕ → List ℕ → List ℕ → Type 0
SaysNoElement version table name text = (0 < table_number version table) × NamesNoElement table name text

-- the table or the element is not there, and the text says which
abbrev pub SaysUnknown : Version → List ℕ → List ℕ → List ℕ → Type 0
SaysUnknown version table name text = SaysNoTable version table text ⊎ SaysNoElement version table name text

abbrev pub MissingTable : Version → List ℕ → Option (List ℕ) → Type 0
MissingTable version table None = 0 < table_number version table
MissingTable version table (Some text) = SaysNoTable version table text

abbrev pub MissingElement : Version → List ℕ → List ℕ → Option (List ℕ) → Type 0
MissingElement version table name None = (table_number version table ≡ 0) ⊎ (0 < element_number version (table_number version table) name)
MissingElement version table name (Some text) = (element_number version (table_number version table) name ≡ 0) × SaysNoElement version table name text
