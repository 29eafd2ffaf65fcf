-- Cited by private functions alone: is_passed, are_passed, is_begun, is_in_pieces and 3 more.
-- Begun reorganisations: what their elements want, in pieces that share the range, and done where they have passed.
use Rattle.std.specs.Prelude.{◌≡◌, ◌==◌, ◌&&◌, Bool, true, false, not, Option, Some, None, List}
use Rattle.std.specs.List.{AllByRecursion}
use Rattle.row_map.specs.declared.key.KeyOf.{KeyOf}
use Rattle.row_map.specs.declared.key.KeyOf.TheVariants.{Exists}
use Rattle.row_map.specs.Rows.{Pairs}
use Rattle.row_map.specs.Walk.{key_range}
use Rattle.schema_version.specs.declared.element.ElementDef.{ElementDef}
use Rattle.schema_version.specs.declared.element.ElementState.{ElementState}
use Rattle.schema_version.specs.declared.element.ElementState.TheVariants.{Absent, DeleteOnly, WriteOnly, Public}
use Rattle.schema_version.specs.declared.element.Work.{Work}
use Rattle.schema_version.specs.declared.element.Work.TheVariants.{Fill, Clear}
use Rattle.schema_version.specs.Version.{Version, state_of}
use Rattle.element_state.specs.Elements.{element_of}
use Rattle.reorganise.specs.declared.work.Progress.{Progress}
use Rattle.reorganise.specs.declared.work.Span.{Span}
use Rattle.replay.specs.Kept.{IsBegun, AreOfDifferentElements}
use Rattle.checkpoint_check.specs.inner.Pieces.{IsWithin}
use Rattle.audit.specs.Audit.{Pair, is_absent}
use Rattle.audit.specs.Encoded.{key_read}
use Rattle.checkpoint_check.specs.inner.Judged.{own_pair, stored_row}

-- the states in which an element is filled, or else cleared
abbrev pub may_run : Work → ElementState → Bool
may_run Fill Absent = false
may_run Fill DeleteOnly = false
may_run Fill WriteOnly = true
may_run Fill Public = true
may_run Clear Absent = true
may_run Clear DeleteOnly = true
may_run Clear WriteOnly = false
may_run Clear Public = false

-- a row of the table has its pair
abbrev pub is_filled_by : Version → Pairs → ElementDef → Option KeyOf → Bool
is_filled_by newest pairs element (Some (Exists table primary)) = not ((table == element.table) && is_absent pairs (own_pair newest element (stored_row newest pairs table primary)))
is_filled_by newest pairs element _ = true

-- the pair is not the element's
abbrev pub is_cleared_by : ElementDef → Option KeyOf → Bool
is_cleared_by element None = true
is_cleared_by element (Some key) = not (element_of key == element.number)

abbrev pub is_passed_by : Version → Pairs → ElementDef → Work → Option KeyOf → Bool
is_passed_by newest pairs element Fill read = is_filled_by newest pairs element read
is_passed_by newest pairs element Clear read = is_cleared_by element read

abbrev pub is_passed : Version → Pairs → ElementDef → Work → Pair → Bool
is_passed newest pairs element work pair = is_passed_by newest pairs element work (key_read pair.0)

abbrev pub ArePassed : Version → Pairs → ElementDef → Work → List Pair → Type 0
ArePassed newest pairs element work = AllByRecursion (λ pair. is_passed newest pairs element work pair ≡ true)

-- what a piece has passed is done
abbrev pub IsPieceDone : Version → Pairs → ElementDef → Work → Span → Type 0
IsPieceDone newest pairs element work span = ArePassed newest pairs element work (key_range pairs span.low span.cursor)

pub record IsTested (before newest : Version) (pairs : Pairs) (progress : Progress) : Type 0 where
  pub begun : IsBegun newest progress
  pub within : IsWithin progress
  pub runs_before : may_run progress.kind (state_of before progress.element.number) ≡ true
  pub runs_newest : may_run progress.kind (state_of newest progress.element.number) ≡ true
  pub done : AllByRecursion (IsPieceDone newest pairs progress.element progress.kind) progress.pieces

-- each of them, and no two of one element
pub record AreTested (before newest : Version) (pairs : Pairs) (begun : List Progress) : Type 0 where
  pub tested : AllByRecursion (IsTested before newest pairs) begun
  pub different : AreOfDifferentElements begun
