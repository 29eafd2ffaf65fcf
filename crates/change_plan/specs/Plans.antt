-- Cited by the contracts of plan, script_replies::steps_text.
-- Plans that bring a batch of changes about, and the least of them.
use Rattle.std.specs.Prelude.{◌≡◌, ℕ, ◌≤◌, List, [], ◌∷◌, length, Option, Some, None, flat_map, Contains, IsPermutation}
use Rattle.std.specs.List.{AllZip, AllByRecursion}
use Rattle.schema_version.specs.declared.element.ElementState.{ElementState}
use Rattle.schema_version.specs.declared.element.ElementState.TheVariants.{Public}
use Rattle.schema_version.specs.declared.element.Kind.TheVariants.{Index}
use Rattle.schema_version.specs.declared.element.ElementDef.{ElementDef}
use Rattle.schema_version.specs.declared.element.Work.{Work}
use Rattle.schema_version.specs.declared.element.Work.TheVariants as work
use Rattle.schema_version.specs.declared.step.Move.{Move}
use Rattle.schema_version.specs.declared.step.Move.TheVariants.{Enter, Go, Turn}
use Rattle.schema_version.specs.Version.{Version, element_at, type_of_kind}
use Rattle.schema_version.specs.Edges.{needed_work}
use Rattle.schema_version.specs.Moves.{IsAllowed, after_step}
use Rattle.change_plan.specs.declared.change.Change.{Change}
use Rattle.change_plan.specs.declared.change.Change.TheVariants.{AddIndex, DropIndex, AddColumn, DropColumn, Abandon}
use Rattle.change_plan.specs.declared.least_plan.Reorg.{Reorg}
use Rattle.change_plan.specs.declared.least_plan.Reorg.TheVariants.{Fill, Clear}
use Rattle.change_plan.specs.declared.least_plan.PlanStep.{PlanStep}

-- the reorganisation of an element of this number, where a move needs one
abbrev pub reorgs : ℕ → Option Work → List Reorg
reorgs number None = []
reorgs number (Some work.Fill) = Fill number ∷ []
reorgs number (Some work.Clear) = Clear number ∷ []

abbrev pub work_of : Option ElementDef → ElementState → List Reorg
work_of None to = []
work_of (Some element) to = reorgs element.number (needed_work element.kind to)

-- the fill or the clear that must end before a move
abbrev pub work_before : Version → Move → List Reorg
work_before version (Enter fresh to) = []
work_before version (Go number to) = work_of (element_at version number) to
work_before version (Turn number) = []

-- the version that a plan's steps give
abbrev pub after_plan : Version → List PlanStep → Version
after_plan version [] = version
after_plan version (first ∷ rest) = after_plan (after_step version first.step) rest

-- the work that a step's moves need and no more, in any order
abbrev pub IsWorkBefore : Version → List Move → List Reorg → Type 0
IsWorkBefore version moves before = IsPermutation (flat_map (work_before version) moves) before

-- each step is allowed after those before it, and just the work that it needs stands before it
abbrev pub AreAllowed : Version → List PlanStep → Type 0
AreAllowed version [] = Unit {0}
AreAllowed version (first ∷ rest) = IsAllowed version first.step × IsWorkBefore version first.step first.before × AreAllowed (after_step version first.step) rest

-- the change drops this element, or abandons it
abbrev pub Drops : ElementDef → Change → Type 0
Drops element (DropIndex table name) = (columns : _) × (element.table ≡ table) × (element.name ≡ name) × (element.kind ≡ Index columns)
Drops element (DropColumn table name) = (type : _) × (element.table ≡ table) × (element.name ≡ name) × (type_of_kind element.kind ≡ Some type)
Drops element (Abandon table name) = (element.table ≡ table) × (element.name ≡ name)
Drops element _ = ⊥

-- this number is the table's column of this name
abbrev pub IsColumnNamed : Version → ℕ → List ℕ → ℕ → Type 0
IsColumnNamed version table name number = (element : ElementDef) × (type : _) × (element_at version number ≡ Some element) × (element.table ≡ table) × (element.name ≡ name) × (type_of_kind element.kind ≡ Some type)

-- the element is what the change adds, in the version where the changes have ended
abbrev pub Adds : Version → ElementDef → Change → Type 0
Adds version element (AddIndex table name columns) =
    (numbers : List ℕ) × (element.table ≡ table) × (element.name ≡ name) × (element.kind ≡ Index numbers) × AllZip (IsColumnNamed version table) columns numbers
Adds version element (AddColumn table name kind) = (element.table ≡ table) × (element.name ≡ name) × (element.kind ≡ kind)
Adds version element _ = ⊥

abbrev pub IsAddition : Change → Type 0
IsAddition (AddIndex table name columns) = Unit {0}
IsAddition (AddColumn table name kind) = Unit {0}
IsAddition _ = ⊥

-- the old live elements without the dropped ones, as they were, and the added ones public
pub record IsTarget (old : Version) (changes : List Change) (new : Version) : Type 0 where
  pub tables : new.tables ≡ old.tables
  -- what isn't dropped stays
  pub kept : (number : ℕ) (element : ElementDef) → element_at old number ≡ Some element → ((change : Change) → Contains changes change → ¬ (Drops element change)) → element_at new number ≡ Some element
  -- what is dropped has gone
  pub dropped : (number : ℕ) (element : ElementDef) (change : Change) → element_at old number ≡ Some element → Contains changes change → Drops element change → element_at new number ≡ None
  -- what is added is there, and public
  pub added : AllByRecursion (λ change. IsAddition change → (number : ℕ) × (element : ElementDef) × (element_at old number ≡ None) × (element_at new number ≡ Some element) × (element.state ≡ Public) × Adds new element change) changes
  -- nothing else has come
  pub only : (number : ℕ) (element : ElementDef) → element_at old number ≡ None → element_at new number ≡ Some element → (change : Change) × Contains changes change × (element.state ≡ Public) × Adds new element change

-- a plan that may be carried out, and that ends where the changes want
pub record IsLawful (old : Version) (changes : List Change) (plan : List PlanStep) : Type 0 where
  pub allowed : AreAllowed old plan
  pub target : IsTarget old changes (after_plan old plan)

-- no lawful plan has fewer steps
pub record IsLeast (old : Version) (changes : List Change) (plan : List PlanStep) : Type 0 where
  pub lawful : IsLawful old changes plan
  pub least : (other : List PlanStep) → IsLawful old changes other → length plan ≤ length other
