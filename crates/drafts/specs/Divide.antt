-- Cited by the contracts of draft_divide.
-- A reorganisation in pieces that begin at given keys.
use Rattle.std.specs.Prelude.{◌≡◌, ℕ, ◌+◌, ◌<◌, ◌≤◌, List, [], ◌∷◌, length, ◌⊎◌}
use Rattle.std.specs.declared.cmp.Ordering.TheVariants.{Less}
use Rattle.keycode.specs.Order.{bytes_cmp}
use Rattle.row_map.specs.Rows.{Bytes}
use Rattle.schema_version.specs.declared.element.ElementDef.{ElementDef}
use Rattle.schema_version.specs.declared.element.Work.{Work}
use Rattle.reorganise.specs.declared.work.Span.{Span}
use Rattle.reorganise.specs.ScanRanges.{scan_range_of, start, end, IsItemKey}
use Rattle.drafts.specs.declared.record.Control.{Control}
use Rattle.drafts.specs.declared.divide.DivideFault.{DivideFault}
use Rattle.drafts.specs.declared.divide.DivideFault.TheVariants.{NotWanted, TooManyPieces, BadKey, Memory}
use Rattle.drafts.specs.Calls.{Newest, Division, divide_draft, IsDivision}
use Rattle.drafts.specs.Begin.{IsWanted, WantsWork, WantsNothing}
use Rattle.drafts.specs.Made.{IsControlOf}

-- ---- the pieces

-- pieces that share the range from `low` to `high` and begin at these keys, but for the first one, each with its cursor at its lower bound
abbrev pub spans_from : Bytes → List Bytes → Bytes → List Span
spans_from low [] high = record { low = low; high = high; cursor = low } ∷ []
spans_from low (key ∷ keys) high = record { low = low; high = key; cursor = low } ∷ spans_from key keys high

abbrev pub bounds_from : Bytes → List Bytes → Bytes → List (Bytes × Bytes)
bounds_from low [] high = (low, high) ∷ []
bounds_from low (key ∷ keys) high = (low, key) ∷ bounds_from key keys high

-- the begin of the work in pieces that begin at these keys
abbrev pub division : Newest → ElementDef → Work → List Bytes → Division
division newest element work keys =
    record { newest = newest; progress = record { element = element; kind = work; pieces = spans_from (start (scan_range_of element work)) keys (end (scan_range_of element work)) } }

-- ---- the keys

abbrev pub max_keys : ℕ
max_keys = 63

-- a piece of the work may begin at the key, after one that begins at `low`: it is the key of a row, or of a pair of the index that is
-- cleared, whether or not it is there
pub record MayBegin (element : ElementDef) (work : Work) (low key : Bytes) : Type 0 where
  pub item : IsItemKey (scan_range_of element work) key
  pub above : bytes_cmp low key ≡ Less
  pub below : bytes_cmp key (end (scan_range_of element work)) ≡ Less

abbrev pub MayAllBegin : ElementDef → Work → Bytes → List Bytes → Type 0
MayAllBegin element work low [] = Unit {0}
MayAllBegin element work low (key ∷ keys) = MayBegin element work low key × MayAllBegin element work key keys

-- the first key at which no piece may begin is at this place, and the list's first one at `place`
abbrev pub IsFirstUnfit : ElementDef → Work → Bytes → ℕ → List Bytes → ℕ → Type 0
IsFirstUnfit element work low place [] at = ⊥
IsFirstUnfit element work low place (key ∷ keys) at =
    ((at ≡ place) × (¬ (MayBegin element work low key))) ⊎ (MayBegin element work low key × IsFirstUnfit element work key (place + 1) keys at)

-- ---- the call

-- the begin of what the element of this number wants, in pieces that begin at these keys
pub record IsDividedBy (newest : Newest) (number : ℕ) (keys : List Bytes) (control : Control) : Type 0 where
  pub element : ElementDef
  pub work : Work
  pub wanted : IsWanted newest number element work
  pub made : IsDivision (division newest element work keys)
  pub control_is : IsControlOf (divide_draft (division newest element work keys)) control

-- the first of the wanted work's keys at which no piece may begin
pub record IsBadKey (newest : Newest) (number : ℕ) (keys : List Bytes) (at : ℕ) : Type 0 where
  pub element : ElementDef
  pub work : Work
  pub wanted : IsWanted newest number element work
  pub first : IsFirstUnfit element work (start (scan_range_of element work)) 0 keys at

-- each comes only if none before it is due; out of memory may come in place of a bad key
abbrev pub DivideRefusal : Newest → ℕ → List Bytes → DivideFault → Type 0
DivideRefusal newest number keys NotWanted = WantsNothing newest number
DivideRefusal newest number keys TooManyPieces = WantsWork newest number × (max_keys < length keys)
DivideRefusal newest number keys (BadKey at) = (length keys ≤ max_keys) × IsBadKey newest number keys at
DivideRefusal newest number keys Memory = WantsWork newest number × (length keys ≤ max_keys)
