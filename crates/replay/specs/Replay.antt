-- Cited by the contracts of locked_store::SharedLedger.
-- What a log of entries says: the moment, the versions, the rows, the reorganisations and the pairs.
use Rattle.std.specs.Prelude.{ℕ, ◌+◌, ◌==◌, List, [], ◌∷◌, ◌++◌, length, Option, Some, None, Bool, not, filter, if◌then◌else◌, slice_get}
use Rattle.std.specs.List.{find}
use mathlib.Core.List.{map as each}
use Rattle.std.specs.FinMap as map
use Rattle.lease.specs.Timeline.{Timeline, opened as line_opened, after_publication}
use Rattle.row_map.specs.Rows.{Bytes, Rows, Pairs}
use Rattle.row_map.specs.Writes.{Writes, written_all}
use Rattle.schema_version.specs.declared.element.ElementDef.{ElementDef}
use Rattle.schema_version.specs.declared.step.Move.{Move}
use Rattle.schema_version.specs.Edges.{wanted_work}
use Rattle.schema_version.specs.Version.{Version, element_at}
use Rattle.schema_version.specs.Moves.{after_step, moves_element}
use Rattle.row_write.specs.declared.op.RowOp.{RowOp}
use Rattle.row_write.specs.Plain.{transacted}
use Rattle.row_write.specs.Prepare.{txn_writes}
use Rattle.schema_version.specs.declared.element.Work.{Work}
use Rattle.reorganise.specs.declared.work.Span.{Span}
use Rattle.reorganise.specs.declared.work.Progress.{Progress}
use Rattle.reorganise.specs.Pieces.{begun, part}
use Rattle.reorganise.specs.Batches.{piece_writes}
use Rattle.reorganise.specs.Laws.{with_cursor}
use Rattle.replay.specs.declared.entry.Entry.{Entry}
use Rattle.replay.specs.declared.entry.What.{What}
use Rattle.replay.specs.declared.entry.What.TheVariants.{Lease as Granted, Txn, Publish, Begin, Piece}

-- what a core keeps for good: the lease length, and the schema of version 1
pub record Opening : Type 0 where
  pub length : ℕ
  pub schema : Version

-- what a log says, up to its end
pub record Facts : Type 0 where
  -- of the last entry
  pub moment : ℕ
  pub line : Timeline
  pub newest : Version
  -- the versions before it, the last one first
  pub older : List Version
  -- the reorganisations that have begun and are not over
  pub progress : List Progress
  pub rows : Rows
  pub pairs : Pairs

abbrev pub start : Opening → Facts
start opening =
    record {
      moment = 0;
      line = line_opened opening.length;
      newest = opening.schema;
      older = [];
      progress = [];
      rows = map.empty;
      pairs = map.empty;
    }

-- ---- versions

-- versions are numbered from 1, the oldest first
abbrev pub version_in : List Version → ℕ → Option Version
version_in [] number = None
version_in (version ∷ older) number = if number == length older + 1 then Some version else version_in older number

abbrev pub version_at : Facts → ℕ → Option Version
version_at facts number = version_in (facts.newest ∷ facts.older) number

-- the version before the newest one; the newest itself where there is no other
abbrev pub first_or : Version → List Version → Version
first_or newest [] = newest
first_or newest (before ∷ older) = before

abbrev pub before_of : Facts → Version
before_of facts = first_or facts.newest facts.older

-- ---- reorganisations

abbrev pub is_of : ℕ → Progress → Bool
is_of number progress = progress.element.number == number

-- the begun reorganisation of an element
abbrev pub progress_of : List Progress → ℕ → Option Progress
progress_of begun number = find (is_of number) begun

-- a reorganisation is over when its element moves on or turns back
abbrev pub stays : List Move → Progress → Bool
stays step progress = not (moves_element step progress.element.number)

abbrev pub begun_by : ElementDef → Option Work → Pairs → ℕ → List Progress
begun_by element None pairs pieces = []
begun_by element (Some work) pairs pieces = begun element work pairs pieces ∷ []

-- by the items that are present at the begin
abbrev pub begun_of : Option ElementDef → Pairs → ℕ → List Progress
begun_of None pairs pieces = []
begun_of (Some element) pairs pieces = begun_by element (wanted_work element) pairs pieces

-- one piece's cursor has come on
abbrev pub come_to : ℕ → Bytes → Progress → Progress
come_to piece cursor progress = record progress { pieces = with_cursor piece cursor progress.pieces }

abbrev pub moved_to : ℕ → ℕ → Bytes → Progress → Progress
moved_to number piece cursor progress = if is_of number progress then come_to piece cursor progress else progress

-- what a piece writes: for the items from its old cursor to below the new one
abbrev pub span_writes : Progress → Option Span → Pairs → Bytes → Writes
span_writes progress None pairs cursor = []
span_writes progress (Some span) pairs cursor = piece_writes (part pairs span.cursor cursor) progress.element progress.kind

abbrev pub writes_by_piece : Option Progress → ℕ → Pairs → Bytes → Writes
writes_by_piece None piece pairs cursor = []
writes_by_piece (Some progress) piece pairs cursor = span_writes progress (slice_get progress.pieces piece) pairs cursor

-- ---- what one more entry says

-- what a transaction writes under its lease's version
abbrev pub writes_under : Option Version → Rows → List RowOp → Writes
writes_under None rows ops = []
writes_under (Some version) rows ops = txn_writes version rows ops

-- transactions and pieces write pairs
abbrev pub pairs_by : Facts → Pairs → What → Pairs
pairs_by facts pairs (Granted lease) = pairs
pairs_by facts pairs (Txn lease ops) = written_all pairs (writes_under (version_at facts lease.version) facts.rows ops)
pairs_by facts pairs (Publish step) = pairs
pairs_by facts pairs (Begin element pieces) = pairs
pairs_by facts pairs (Piece element piece cursor) = written_all pairs (writes_by_piece (progress_of facts.progress element) piece pairs cursor)

-- what a call says that was accepted at this moment
abbrev pub after_call : Facts → ℕ → What → Facts
after_call facts moment (Granted lease) = record facts { moment = moment }
after_call facts moment (Txn lease ops) =
    record facts { moment = moment; rows = transacted facts.rows ops; pairs = pairs_by facts facts.pairs (Txn lease ops) }
after_call facts moment (Publish step) =
    record facts {
      moment = moment;
      line = after_publication facts.line moment;
      newest = after_step facts.newest step;
      older = facts.newest ∷ facts.older;
      progress = filter (stays step) facts.progress;
    }
after_call facts moment (Begin element pieces) =
    record facts { moment = moment; progress = facts.progress ++ begun_of (element_at facts.newest element) facts.pairs pieces }
after_call facts moment (Piece element piece cursor) =
    record facts {
      moment = moment;
      progress = each (moved_to element piece cursor) facts.progress;
      pairs = pairs_by facts facts.pairs (Piece element piece cursor);
    }

abbrev pub after : Facts → Entry → Facts
after facts entry = after_call facts entry.moment entry.what

abbrev pub after_all : Facts → List Entry → Facts
after_all facts [] = facts
after_all facts (entry ∷ log) = after_all (after facts entry) log

-- what an opening and a log give
abbrev pub replay : Opening → List Entry → Facts
replay opening log = after_all (start opening) log
