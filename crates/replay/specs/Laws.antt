-- Cited by the contracts of lemma_openings_keep, lemma_leases_keep, lemma_transactions_keep, lemma_publications_keep and 3 more.
-- What each accepted call keeps.
use Rattle.std.specs.Prelude.{◌≡◌, ℕ, ◌≤◌, List, Option, Some, None, true, Contains, slice_get}
use Rattle.lease.specs.declared.lease.Lease.{Lease}
use Rattle.lease.specs.Timeline.{IsLength, IsUsable, earliest, max_moment}
use Rattle.row_map.specs.Expect.{Holds}
use Rattle.row_map.specs.Writes.{laid}
use Rattle.schema_version.specs.declared.element.ElementState.{ElementState}
use Rattle.schema_version.specs.declared.element.Kind.{Kind}
use Rattle.schema_version.specs.declared.element.ElementDef.{ElementDef}
use Rattle.schema_version.specs.declared.step.Move.{Move}
use Rattle.schema_version.specs.declared.step.Move.TheVariants.{Go}
use Rattle.schema_version.specs.Edges.{needed_work, wanted_work}
use Rattle.schema_version.specs.Moves.{IsAllowed}
use Rattle.schema_version.specs.Sound.{IsSoundVersion}
use Rattle.schema_version.specs.Version.{element_at, state_of}
use Rattle.schema_version.specs.declared.element.Work.{Work}
use Rattle.reorganise.specs.declared.work.Span.{Span}
use Rattle.reorganise.specs.declared.work.Progress.{Progress}
use Rattle.reorganise.specs.declared.read.Reading.{Reading}
use Rattle.reorganise.specs.Pieces.{are_ended, IsReading}
use Rattle.reorganise.specs.ScanRanges.{scan_range_of, ItemsAreEmpty}
use Rattle.reorganise.specs.Batches.{expect_of, batch_for}
use Rattle.row_write.specs.declared.op.RowOutcome.TheVariants.{Done, Refused}
use Rattle.row_write.specs.declared.fault.RowFault.{RowFault}
use Rattle.row_write.specs.Made.{PreparedTxn, IsMade}
use Rattle.row_write.specs.Plain.{outcome}
use Rattle.replay.specs.declared.entry.Entry.{Entry}
use Rattle.replay.specs.declared.entry.What.TheVariants.{Lease as Granted, Txn, Publish, Begin, Piece}
use Rattle.replay.specs.Replay.{Opening, Facts, start, after, version_at, progress_of}
use Rattle.replay.specs.Kept.{IsKept, FactsAgree, used_before}

-- an empty store under one sound version
abbrev pub OpeningsKeep : Type 0
OpeningsKeep = (opening : Opening) → IsLength opening.length → IsSoundVersion opening.schema → IsKept (start opening)

-- what is kept is kept as time goes by, and a lease changes nothing else
abbrev pub LeasesKeep : Type 0
LeasesKeep = (facts : Facts) (now : ℕ) (lease : Lease) → facts.moment ≤ now → IsKept facts → IsKept (after facts (record { moment = now; what = Granted lease }))

-- a finished reorganisation of the element, of this work
pub record IsDone (facts : Facts) (number : ℕ) (work : Work) : Type 0 where
  pub progress : Progress
  pub here : progress_of facts.progress number ≡ Some progress
  pub work_is : progress.kind ≡ work
  pub ended : are_ended progress.pieces ≡ true

-- what a move needs is finished, where it needs anything
abbrev pub IsFinished : Facts → ℕ → Option Work → Type 0
IsFinished facts number None = Unit {0}
IsFinished facts number (Some work) = IsDone facts number work

abbrev pub Needs : Facts → Kind → ℕ → ElementState → Type 0
Needs facts kind number to = IsFinished facts number (needed_work kind to)

abbrev pub AreFinished : Facts → List Move → Type 0
AreFinished facts step = (number : ℕ) (to : ElementState) (element : ElementDef) → Contains step (Go number to) → element_at facts.newest number ≡ Some element → Needs facts element.kind number to

-- an allowed step whose reorganisations are finished, published when no lease on the version before the newest can be in force
abbrev pub PublicationsKeep : Type 0
PublicationsKeep =
    (facts : Facts) (now : ℕ) (step : List Move) → facts.moment ≤ now → now ≤ max_moment → earliest facts.line ≤ now → IsAllowed facts.newest step → AreFinished facts step
    → IsKept facts → IsKept (after facts (record { moment = now; what = Publish step }))

-- a reorganisation has 1 to 64 pieces
abbrev pub IsPieceCount : ℕ → Type 0
IsPieceCount pieces = (1 ≤ pieces) × (pieces ≤ 64)

-- a reorganisation that the element wants, begun where every version that a lease may still use has it in that state
abbrev pub BeginsKeep : Type 0
BeginsKeep =
    (facts : Facts) (now number pieces : ℕ) (element : ElementDef) (work : Work) → facts.moment ≤ now → element_at facts.newest number ≡ Some element → wanted_work element ≡ Some work
    → state_of (used_before facts now) number ≡ element.state → progress_of facts.progress number ≡ None → IsPieceCount pieces
    → IsKept facts → IsKept (after facts (record { moment = now; what = Begin number pieces }))

-- the items of a live element's fill or clear are the pairs of their range whose value is empty
abbrev pub ItemsStand : Type 0
ItemsStand = (facts : Facts) (number : ℕ) (element : ElementDef) (work : Work) → element_at facts.newest number ≡ Some element → IsKept facts → ItemsAreEmpty (scan_range_of element work) facts.pairs

-- what was read of a piece of a begun reorganisation as it stands, where its expectation still holds
pub record IsNextOf (facts : Facts) (number : ℕ) (read : Reading) : Type 0 where
  pub progress : Progress
  pub here : progress_of facts.progress number ≡ Some progress
  pub element : read.element ≡ progress.element
  pub work : read.kind ≡ progress.kind
  pub span : Span
  pub piece : slice_get progress.pieces read.piece ≡ Some span
  pub high : read.high ≡ span.high
  pub cursor : read.key_range.low ≡ span.cursor
  pub read_so : IsReading read
  pub holds : Holds (expect_of read.key_range) facts.pairs

-- the entry of such a piece
abbrev pub piece_entry : ℕ → ℕ → Reading → Entry
piece_entry now number read = record { moment = now; what = Piece number read.piece read.key_range.high }

-- its batch writes what its entry says, and keeps all
abbrev pub PiecesKeep : Type 0
PiecesKeep =
    (facts : Facts) (now number : ℕ) (read : Reading) → facts.moment ≤ now → IsNextOf facts number read
    → IsKept facts → (laid (batch_for read) facts.pairs ≡ (after facts (piece_entry now number read)).pairs) × IsKept (after facts (piece_entry now number read))

-- a transaction that was prepared under a version that a lease may still use, and whose reads hold
pub record IsDue (facts : Facts) (now : ℕ) (prepared : PreparedTxn) : Type 0 where
  pub made : IsMade prepared
  pub usable : IsUsable facts.line prepared.lease.version now
  pub schema : version_at facts prepared.lease.version ≡ Some prepared.schema
  pub holds : Holds prepared.expect facts.pairs

abbrev pub txn_entry : ℕ → PreparedTxn → Entry
txn_entry now prepared = record { moment = now; what = Txn prepared.lease prepared.ops }

-- what it was reported is what the rows of the log say, however old its reads are
abbrev pub OutcomesHold : Type 0
OutcomesHold = (facts : Facts) (now : ℕ) (prepared : PreparedTxn) → facts.moment ≤ now → IsDue facts now prepared → IsKept facts → prepared.reported ≡ outcome facts.rows prepared.ops

-- where the rows accept it, its batch writes what its entry says, and keeps all
abbrev pub TxnsKeep : Type 0
TxnsKeep =
    (facts : Facts) (now : ℕ) (prepared : PreparedTxn) → facts.moment ≤ now → IsDue facts now prepared → outcome facts.rows prepared.ops ≡ Done
    → IsKept facts → (laid prepared.batch facts.pairs ≡ (after facts (txn_entry now prepared)).pairs) × IsKept (after facts (txn_entry now prepared))

-- where they refuse it, its batch writes nothing
abbrev pub RefusedWriteNothing : Type 0
RefusedWriteNothing =
    (facts : Facts) (now : ℕ) (prepared : PreparedTxn) (op : ℕ) (why : RowFault) → facts.moment ≤ now → IsDue facts now prepared → outcome facts.rows prepared.ops ≡ Refused op why
    → IsKept facts → laid prepared.batch facts.pairs ≡ facts.pairs

-- what is kept is more than the theorem: for every version that a lease may still use, the pairs are consistent with it and the rows
abbrev pub KeptAgrees : Type 0
KeptAgrees = (facts : Facts) → IsKept facts → FactsAgree facts
