-- Cited by the contracts of due.
-- What is due, by the control records that were found and the steps that are left of a plan.
use Rattle.std.specs.Prelude.{◌≡◌, ◌≢◌, ℕ, ◌<◌, List, [], ◌∷◌, Some, None, true, false, Contains, slice_get, take}
use Rattle.row_map.specs.Rows.{Bytes}
use Rattle.schema_version.specs.declared.element.ElementDef.{ElementDef}
use Rattle.schema_version.specs.declared.element.Work.{Work}
use Rattle.schema_version.specs.declared.step.Move.{Move}
use Rattle.schema_version.specs.declared.step.Move.TheVariants.{Enter, Go, Turn}
use Rattle.schema_version.specs.Edges.{wanted_work}
use Rattle.schema_version.specs.Version.{element_at}
use Rattle.drafts.specs.Publish.{found_in, IsReady}
use Rattle.drafts.specs.declared.record.Reorg.{Reorg}
use Rattle.layer_due.specs.Records.{Records, cursor_in, open_piece}
use Rattle.layer_due.specs.declared.act.Act.{Act}
use Rattle.layer_due.specs.declared.act.Act.TheVariants as act
use Rattle.layer_due.specs.declared.act.DueFault.{DueFault}
use Rattle.layer_due.specs.declared.act.DueFault.TheVariants as fault

-- a live element wants a fill or a clear, and none of it has begun
pub record IsWanting (records : Records) (number : ℕ) : Type 0 where
  pub element : ElementDef
  pub there : element_at records.newest.schema number ≡ Some element
  pub work : Work
  pub wants : wanted_work element ≡ Some work
  pub new : found_in records.reorgs number ≡ None

abbrev pub NoneWants : Records → Type 0
NoneWants records = (number : ℕ) → ¬ (IsWanting records number)

-- what the move needs has begun, and nothing of its element's reorganisation is left
abbrev pub HasEnded : Records → Move → Type 0
HasEnded records (Enter fresh to) = Unit {0}
HasEnded records (Go number to) = open_piece records number ≡ None
HasEnded records (Turn number) = Unit {0}

abbrev pub AreReady : Records → List Move → Type 0
AreReady records [] = Unit {0}
AreReady records (move ∷ step) = (IsReady records.newest.schema (found_in records.reorgs) move × HasEnded records move) × AreReady records step

-- a step is left, and the first may be published
abbrev pub IsNextReady : Records → List (List Move) → Type 0
IsNextReady records [] = ⊥
IsNextReady records (step ∷ steps) = AreReady records step

abbrev pub NoneOpen : Records → Type 0
NoneOpen records = (number : ℕ) → open_piece records number ≡ None

-- a begin comes first, and before it the close that it waits for; then the step that is ready; then a piece
abbrev pub IsDue : Records → List (List Move) → Act → Type 0
IsDue records steps (act.Begin number) = IsWanting records number × (records.previous_is_open ≡ false)
IsDue records steps act.Close = ((number : ℕ) × IsWanting records number) × (records.previous_is_open ≡ true)
IsDue records steps act.Publish = NoneWants records × IsNextReady records steps
IsDue records steps (act.Work number piece) = NoneWants records × (¬ (IsNextReady records steps)) × (open_piece records number ≡ Some piece) × ((key : Bytes) × (cursor_in records.cursors number piece ≡ Some key))
IsDue records steps act.Nothing = NoneWants records × (steps ≡ []) × NoneOpen records

-- why nothing can be done
abbrev pub IsStuck : Records → List (List Move) → DueFault → Type 0
IsStuck records steps (fault.NoCursor number piece) = NoneWants records × (¬ (IsNextReady records steps)) × (open_piece records number ≡ Some piece) × (cursor_in records.cursors number piece ≡ None)
IsStuck records steps fault.NotReady = NoneWants records × (¬ (IsNextReady records steps)) × (steps ≢ []) × NoneOpen records

-- ---- which element comes first

-- no element of a lower number wants a fill or a clear that has not begun
abbrev pub IsFirstWanting : Records → ℕ → Type 0
IsFirstWanting records number = (other : ℕ) → other < number → ¬ (IsWanting records other)

-- of the reorganisations, in the order in which they were found, all before one of this element have ended
pub record IsFirstOpen (records : Records) (number : ℕ) : Type 0 where
  pub place : ℕ
  pub reorg : Reorg
  pub there : slice_get records.reorgs place ≡ Some reorg
  pub own : reorg.element.number ≡ number
  pub ended : (earlier : Reorg) → Contains (take place records.reorgs) earlier → open_piece records earlier.element.number ≡ None

-- of all acts that are due the one that is given: the begin of the element of the lowest number, or a piece of the first reorganisation that is open
abbrev pub ComesFirst : Records → Act → Type 0
ComesFirst records (act.Begin number) = IsFirstWanting records number
ComesFirst records act.Close = Unit {0}
ComesFirst records act.Publish = Unit {0}
ComesFirst records (act.Work number piece) = IsFirstOpen records number
ComesFirst records act.Nothing = Unit {0}

-- the piece that would be given has no cursor
abbrev pub FailsFirst : Records → DueFault → Type 0
FailsFirst records (fault.NoCursor number piece) = IsFirstOpen records number
FailsFirst records fault.NotReady = Unit {0}
