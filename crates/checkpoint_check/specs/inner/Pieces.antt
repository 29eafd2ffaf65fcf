-- Cited by private functions alone: names_row, names_entry, names_item, is_reached, are_reached, is_in_pieces, is_wanted.
-- What the newest version and the pieces say of a begun reorganisation.
use Rattle.std.specs.Prelude.{◌≡◌, ◌≤◌, ◌==◌, ℕ, Bool, false, length, Option, Some}
use Rattle.std.specs.List.{AllByRecursion}
use Rattle.row_map.specs.declared.key.KeyOf.{KeyOf}
use Rattle.row_map.specs.declared.key.KeyOf.TheVariants.{Exists, Index}
use Rattle.schema_version.specs.declared.element.ElementDef.{ElementDef}
use Rattle.schema_version.specs.declared.element.Kind.{Kind}
use Rattle.schema_version.specs.declared.element.Kind.TheVariants.{Index as IndexKind, Optional, Required}
use Rattle.schema_version.specs.declared.element.Work.{Work}
use Rattle.schema_version.specs.declared.element.Work.TheVariants.{Fill, Clear}
use Rattle.schema_version.specs.Edges.{wanted_work}
use Rattle.schema_version.specs.Version.{Version, element_at}
use Rattle.reorganise.specs.declared.work.Progress.{Progress}
use Rattle.reorganise.specs.declared.work.Span.{Span}
use Rattle.replay.specs.Kept.{IsInPiece, IsReached}

-- whether a key is that of a row of the table
abbrev pub names_row : ℕ → Option KeyOf → Bool
names_row table (Some (Exists of primary)) = of == table
names_row table _ = false

-- whether a key is that of a pair of the index
abbrev pub names_entry : ℕ → Option KeyOf → Bool
names_entry number (Some (Index of values)) = of == number
names_entry number _ = false

abbrev pub names_cleared : Kind → ElementDef → Option KeyOf → Bool
names_cleared (IndexKind columns) element read = names_entry element.number read
names_cleared (Optional type) element read = names_row element.table read
names_cleared (Required type fallback) element read = names_row element.table read

-- whether a key is that of an item of a fill or a clear
abbrev pub names_item : ElementDef → Work → Option KeyOf → Bool
names_item element Fill read = names_row element.table read
names_item element Clear read = names_cleared element.kind element read

pub record IsReachedWithin (span : Span) : Type 0 where
  pub within : IsInPiece span
  pub reached : IsReached span

pub record IsWithin (progress : Progress) : Type 0 where
  pub few : length progress.pieces ≤ 64
  pub cursors : AllByRecursion IsReachedWithin progress.pieces

pub record IsWanted (newest : Version) (progress : Progress) : Type 0 where
  pub element : element_at newest progress.element.number ≡ Some progress.element
  pub wanted_so : wanted_work progress.element ≡ Some progress.kind
