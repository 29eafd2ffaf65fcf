-- Cited by the contracts of draft_begin, draft_divide.
-- What an element wants, and what the begin of it compares and writes.
use Rattle.std.specs.Prelude.{◌≡◌, ℕ, ◌+◌, List, [], ◌∷◌, ◌++◌, Option, Some, None}
use Rattle.row_map.specs.Rows.{Bytes}
use Rattle.schema_version.specs.declared.element.ElementDef.{ElementDef}
use Rattle.schema_version.specs.declared.element.Work.{Work}
use Rattle.drafts.specs.declared.record.Control.{Control}
use Rattle.drafts.specs.declared.begin.BeginFault.{BeginFault}
use Rattle.drafts.specs.declared.begin.BeginFault.TheVariants.{NotWanted, Memory}
use Rattle.drafts.specs.Store.{Record, OfReorg, OfCursor, Key, version_key, reorg_key, cursor_key}
use Rattle.drafts.specs.Calls.{Newest, newest_reads, Beginning, begin_draft, IsBeginning}
use Rattle.drafts.specs.Made.{IsControlOf}

-- ---- what is wanted

abbrev pub beginning : Newest → ElementDef → Work → Beginning
beginning newest element work = record { newest = newest; element = element; work = work }

-- the element of this number wants this work
pub record IsWanted (newest : Newest) (number : ℕ) (element : ElementDef) (work : Work) : Type 0 where
  pub made : IsBeginning (beginning newest element work)
  pub number_is : element.number ≡ number

abbrev pub WantsWork : Newest → ℕ → Type 0
WantsWork newest number = (element : ElementDef) × (work : Work) × IsWanted newest number element work

abbrev pub WantsNothing : Newest → ℕ → Type 0
WantsNothing newest number = (element : ElementDef) (work : Work) → ¬ (IsWanted newest number element work)

-- ---- what is compared and written

-- that the version before is closed, and the element has no reorganisation
abbrev pub begin_reads : Newest → ℕ → List (Key × Option Record)
begin_reads newest number = newest_reads newest ++ (version_key newest.before, None) ∷ (reorg_key number, None) ∷ []

-- the cursors of pieces from this one on, each at its piece's lower bound
abbrev pub starts_at : ℕ → ℕ → List (Bytes × Bytes) → List (Key × Option Record)
starts_at element piece [] = []
starts_at element piece (bound ∷ bounds) = (cursor_key element piece, Some (OfCursor bound.0)) ∷ starts_at element (piece + 1) bounds

abbrev pub begin_writes : ElementDef → Work → List (Bytes × Bytes) → List (Key × Option Record)
begin_writes element work bounds =
    (reorg_key element.number, Some (OfReorg (record { element = element; work = work; bounds = bounds }))) ∷ starts_at element.number 0 bounds

-- ---- the call

-- the begin of what the element of this number wants
pub record IsBegunBy (newest : Newest) (number : ℕ) (control : Control) : Type 0 where
  pub element : ElementDef
  pub work : Work
  pub wanted : IsWanted newest number element work
  pub control_is : IsControlOf (begin_draft (beginning newest element work)) control

-- out of memory comes only if something is wanted
abbrev pub BeginRefusal : Newest → ℕ → BeginFault → Type 0
BeginRefusal newest number NotWanted = WantsNothing newest number
BeginRefusal newest number Memory = WantsWork newest number
