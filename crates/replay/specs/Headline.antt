-- Cited by the contracts of headline.
-- The theorem on a log: after any list of accepted calls, for every version that a lease may still use, the pairs agree with the rows.
use Rattle.std.specs.Prelude.{◌≡◌, ℕ, ◌≤◌, List, [], ◌∷◌, Some, None}
use Rattle.lease.specs.Timeline.{IsLength, earliest, max_moment}
use Rattle.schema_version.specs.declared.element.ElementDef.{ElementDef}
use Rattle.schema_version.specs.Edges.{wanted_work}
use Rattle.schema_version.specs.Moves.{IsAllowed}
use Rattle.schema_version.specs.Sound.{IsSoundVersion}
use Rattle.schema_version.specs.Version.{element_at, state_of}
use Rattle.row_write.specs.declared.op.RowOutcome.TheVariants.{Done}
use Rattle.row_write.specs.Made.{PreparedTxn}
use Rattle.row_write.specs.Plain.{outcome}
use Rattle.schema_version.specs.declared.element.Work.{Work}
use Rattle.reorganise.specs.declared.read.Reading.{Reading}
use Rattle.replay.specs.declared.entry.Entry.{Entry}
use Rattle.replay.specs.declared.entry.What.{What}
use Rattle.replay.specs.declared.entry.What.TheVariants.{Lease as Granted, Txn, Publish, Begin, Piece}
use Rattle.replay.specs.Replay.{Opening, Facts, start, after, replay, progress_of}
use Rattle.replay.specs.Kept.{FactsAgree, used_before}
use Rattle.replay.specs.Laws.{IsDue, IsNextOf, IsPieceCount, AreFinished}

-- a begin that may be accepted: what the element wants, settled in both versions, not begun yet
pub record MayBegin (facts : Facts) (now number pieces : ℕ) : Type 0 where
  pub element : ElementDef
  pub work : Work
  pub there : element_at facts.newest number ≡ Some element
  pub wants : wanted_work element ≡ Some work
  pub settled : state_of (used_before facts now) number ≡ element.state
  pub new : progress_of facts.progress number ≡ None
  pub count : IsPieceCount pieces

-- a transaction whose reads hold, and that the rows accept
pub record MayCommit (facts : Facts) (now : ℕ) (what : What) : Type 0 where
  pub prepared : PreparedTxn
  pub same : what ≡ Txn prepared.lease prepared.ops
  pub due : IsDue facts now prepared
  pub done : outcome facts.rows prepared.ops ≡ Done

-- a piece of a begun reorganisation as it stands, whose expectation holds
pub record MayMove (facts : Facts) (what : What) (number : ℕ) : Type 0 where
  pub read : Reading
  pub same : what ≡ Piece number read.piece read.key_range.high
  pub next : IsNextOf facts number read

-- what may be accepted at this moment
abbrev pub MayFollow : Facts → ℕ → What → Type 0
MayFollow facts now (Granted lease) = Unit {0}
MayFollow facts now (Txn lease ops) = MayCommit facts now (Txn lease ops)
MayFollow facts now (Publish step) = (now ≤ max_moment) × (earliest facts.line ≤ now) × IsAllowed facts.newest step × AreFinished facts step
MayFollow facts now (Begin number pieces) = MayBegin facts now number pieces
MayFollow facts now (Piece number piece cursor) = MayMove facts (Piece number piece cursor) number

-- each entry may follow those before it, and moments never fall
abbrev pub AllFollow : Facts → List Entry → Type 0
AllFollow facts [] = Unit {0}
AllFollow facts (entry ∷ log) = (facts.moment ≤ entry.moment) × MayFollow facts entry.moment entry.what × AllFollow (after facts entry) log

-- from any opening with a sound version, after any list of entries that may follow one another
abbrev pub Headline : Type 0
Headline = (opening : Opening) (log : List Entry) → IsLength opening.length → IsSoundVersion opening.schema → AllFollow (start opening) log → FactsAgree (replay opening log)
