-- Cited by the contracts of Progress::move_cursor, Progress::span_of.
-- How a reorganisation goes on, and which of its pieces was read.
use Rattle.std.specs.Prelude.{◌≡◌, ℕ, Some, slice_get}
use Rattle.row_map.specs.Rows.{Bytes}
use Rattle.reorganise.specs.declared.work.Span.{Span}
use Rattle.reorganise.specs.declared.work.Progress.{Progress}
use Rattle.reorganise.specs.declared.read.Reading.{Reading}
use Rattle.reorganise.specs.Laws.{with_cursor}

-- with the cursor of one piece moved
abbrev pub come_on : ℕ → Bytes → Progress → Progress
come_on piece cursor progress = record progress { pieces = with_cursor piece cursor progress.pieces }

-- it is one of this reorganisation: of the same definition and work, with the same bounds
pub record IsSpanOf (progress : Progress) (read : Reading) (span : Span) : Type 0 where
  pub element : read.element ≡ progress.element
  pub work : read.kind ≡ progress.kind
  pub piece : slice_get progress.pieces read.piece ≡ Some span
  pub low : read.low ≡ span.low
  pub high : read.high ≡ span.high
