-- Cited by the contracts of plan.
-- Why a batch of changes can't be planned.
use Rattle.std.specs.Prelude.{◌≡◌, ◌≢◌, ℕ, ◌+◌, ◌≤◌, List, ◌∷◌, ◌++◌, length, count_by, Bool, true, false, ◌&&◌, ◌==◌, Option, Some, None, IsTrue, IsNone, IsSome, Contains, ◌⊎◌, ◌<◌}
use Rattle.std.specs.List.{list_any}
use Rattle.collections.specs.Refusal.{IsFirst}
use Rattle.schema_version.specs.declared.element.ElementState.TheVariants.{Public}
use Rattle.schema_version.specs.declared.element.ElementDef.{ElementDef}
use Rattle.schema_version.specs.Version.{Version, table_at, element_at, is_index, is_like, indexed_columns, IsKeyName, count_live}
use Rattle.schema_version.specs.Names as names
use Rattle.schema_version.specs.Names.{IsName, max_listed, max_elements}
use Rattle.schema_version.specs.Moves.{IsFairKind, max_like}
use Rattle.change_plan.specs.declared.change.Change.{Change}
use Rattle.change_plan.specs.declared.change.Change.TheVariants.{AddIndex, DropIndex, AddColumn, DropColumn, Abandon}
use Rattle.change_plan.specs.declared.fault.PlanFault.{PlanFault}
use Rattle.change_plan.specs.declared.fault.PlanFault.TheVariants.{Unknown, NameTaken, StillIndexed, InChange, Limit, Memory}
use Rattle.change_plan.specs.Batches.{named, named_index, named_column, named_entering, adds, adds_column, drops, drops_index, drops_column}

abbrev pub rank : PlanFault → ℕ
rank Unknown = 1
rank NameTaken = 2
rank StillIndexed = 3
rank InChange = 4
rank Limit = 5
rank Memory = 6

-- the named element is there and isn't public
abbrev pub IsInChange : Option ElementDef → Type 0
IsInChange None = ⊥
IsInChange (Some element) = element.state ≢ Public

-- a key column or a live element of the table has the name, or an earlier change adds it
abbrev pub IsTaken : Version → List Change → ℕ → List ℕ → Type 0
IsTaken old earlier table name =
    IsKeyName old table name
    ⊎ IsSome (named old table name)
    ⊎ IsTrue (list_any (adds table name) earlier)

-- a live index lists the column, and the batch doesn't drop it
abbrev pub IsStillListed : Version → List Change → ElementDef → Type 0
IsStillListed old all column =
    (number : ℕ) × (index : ElementDef) × (element_at old number ≡ Some index) × Contains (indexed_columns index.kind) column.number × (list_any (drops_index index.table index.name) all ≡ false)

-- an index that the batch adds lists the column of this name
abbrev pub AddsIndexOn : ℕ → List ℕ → Change → Type 0
AddsIndexOn table name (AddIndex other own columns) = (other ≡ table) × Contains columns name
AddsIndexOn table name _ = ⊥

abbrev pub IsListed : Version → List Change → ℕ → List ℕ → Option ElementDef → Type 0
IsListed old all table name None = ⊥
IsListed old all table name (Some column) = IsStillListed old all column ⊎ ((change : Change) × Contains all change × AddsIndexOn table name change)

abbrev pub adds_like : ℕ → Bool → Change → Bool
adds_like table index (AddIndex other own columns) = (other == table) && index
adds_like table index (AddColumn other own kind) = (other == table) && is_like index kind
adds_like table index change = false

abbrev pub is_addition : Change → Bool
is_addition (AddIndex table name columns) = true
is_addition (AddColumn table name kind) = true
is_addition change = false

-- the counts of live elements with all that the batch adds, and of all elements ever
abbrev pub IsOver : Version → List Change → ℕ → Bool → Type 0
IsOver old all table index =
    (max_like index < count_live old table index + count_by (adds_like table index) all)
    ⊎ (max_elements + 1 < old.next + count_by is_addition all)

abbrev pub IsColumnList : List (List ℕ) → Type 0
IsColumnList columns = (1 ≤ length columns) × (length columns ≤ max_listed) × IsTrue (names.is_distinct columns)

-- why this change, after these earlier ones of the batch, can't be planned
abbrev pub ChangeFault : Version → List Change → List Change → Change → PlanFault → Type 0
ChangeFault old all earlier (AddIndex table name columns) Unknown =
    IsNone (table_at old table)
    ⊎ ((column : List ℕ) × Contains columns column × IsNone (named_column old table column) × (list_any (adds_column table column) all ≡ false))
ChangeFault old all earlier (AddIndex table name columns) NameTaken = IsTaken old earlier table name
ChangeFault old all earlier (AddIndex table name columns) StillIndexed = (column : List ℕ) × Contains columns column × IsTrue (list_any (drops_column old table column) all)
ChangeFault old all earlier (AddIndex table name columns) InChange = (column : List ℕ) × Contains columns column × IsInChange (named_column old table column)
ChangeFault old all earlier (AddIndex table name columns) Limit = (¬ (IsName name)) ⊎ (¬ (IsColumnList columns)) ⊎ IsOver old all table true
ChangeFault old all earlier (DropIndex table name) Unknown = IsNone (named_index old table name) ⊎ IsTrue (list_any (drops table name) earlier)
ChangeFault old all earlier (DropIndex table name) InChange = IsInChange (named_index old table name)
ChangeFault old all earlier (AddColumn table name kind) Unknown = IsNone (table_at old table) ⊎ IsTrue (is_index kind)
ChangeFault old all earlier (AddColumn table name kind) NameTaken = IsTaken old earlier table name
ChangeFault old all earlier (AddColumn table name kind) Limit = (¬ (IsName name)) ⊎ (¬ (IsFairKind kind)) ⊎ IsOver old all table false
ChangeFault old all earlier (DropColumn table name) Unknown = IsNone (named_column old table name) ⊎ IsTrue (list_any (drops table name) earlier)
ChangeFault old all earlier (DropColumn table name) StillIndexed = IsListed old all table name (named_column old table name)
ChangeFault old all earlier (DropColumn table name) InChange = IsInChange (named_column old table name)
ChangeFault old all earlier (Abandon table name) Unknown = IsNone (named_entering old table name) ⊎ IsTrue (list_any (drops table name) earlier)
ChangeFault old all earlier (Abandon table name) StillIndexed = IsListed old all table name (named_column old table name)
ChangeFault old all earlier change fault = ⊥

-- every change can be planned
abbrev pub IsPlannable : Version → List Change → Type 0
IsPlannable old all = (earlier later : List Change) (change : Change) (fault : PlanFault) → all ≡ earlier ++ change ∷ later → ¬ (ChangeFault old all earlier change fault)

-- the first change that can't be planned decides, by its lowest number
pub record IsRefused (old : Version) (all : List Change) (fault : PlanFault) : Type 0 where
  pub earlier : List Change
  pub change : Change
  pub later : List Change
  pub split : all ≡ earlier ++ change ∷ later
  pub first : (before after : List Change) (other : Change) (why : PlanFault) → earlier ≡ before ++ other ∷ after → ¬ (ChangeFault old all before other why)
  pub lowest : IsFirst rank (ChangeFault old all earlier change) fault
