-- Cited by the contracts of repeat, lemma_worlds_are_their_logs, lemma_accepted_calls_repeat and lemma_logs_repeat.
-- Which entry an accepted call would add to a log, and what repeating it answers.
use Rattle.std.specs.Prelude.{◌≡◌, ℕ, ◌+◌, ◌≤◌, List, Result, Ok, Err}
use Rattle.collections.specs.Refusal.{IsClear}
use Rattle.lease.specs.declared.lease.Lease.{Lease}
use Rattle.lease.specs.Timeline.{granted_at}
use Rattle.row_map.specs.Expect.{Holds}
use Rattle.row_map.specs.Rows.{Bytes}
use Rattle.reorganise.specs.declared.read.Reading.{Reading}
use Rattle.reorganise.specs.Batches.{expect_of}
use Rattle.reorganise.specs.Pieces.{IsReading}
use Rattle.row_write.specs.declared.op.RowOp.{RowOp}
use Rattle.row_write.specs.declared.op.RowOutcome.TheVariants.{Done}
use Rattle.row_write.specs.Made.{PreparedTxn, IsMade}
use Rattle.row_write.specs.Plain.{outcome}
use Rattle.replay.specs.declared.entry.Entry.{Entry}
use Rattle.replay.specs.declared.entry.What.{What}
use Rattle.replay.specs.declared.entry.What.TheVariants.{Lease as Granted, Txn, Publish, Begin, Piece}
use Rattle.world.specs.declared.entry.Receipt.{Receipt}
use Rattle.world.specs.BeginReorg.{BeginCondition}
use Rattle.world.specs.Calls.{GrantCondition, CommitCondition, Appends}
use Rattle.world.specs.Piece.{PieceCondition}
use Rattle.world.specs.Publish.{PublishCondition}
use Rattle.world.specs.State.{State, entry_count, facts_of, effect}
use Rattle.replica.specs.declared.fault.RepeatFault.{RepeatFault}
use Rattle.replica.specs.declared.fault.RepeatFault.TheVariants.{NotNext, Memory}

-- some prepared transaction of these operations under this lease that is not refused, and that the rows accept
pub record IsNextTxn (old : State) (now : ℕ) (lease : Lease) (ops : List RowOp) : Type 0 where
  pub prepared : PreparedTxn
  pub lease_is : prepared.lease ≡ lease
  pub ops_are : prepared.ops ≡ ops
  pub made : IsMade prepared
  pub clear : IsClear (CommitCondition old now prepared)
  pub done : outcome (facts_of old).rows ops ≡ Done
  pub holds : Holds prepared.expect old.pairs

-- some reading of this piece, as far as this cursor, that is not refused
pub record IsNextPiece (old : State) (now number piece : ℕ) (cursor : Bytes) : Type 0 where
  pub read : Reading
  pub element_is : read.element.number ≡ number
  pub piece_is : read.piece ≡ piece
  pub cursor_is : read.key_range.high ≡ cursor
  pub reading : IsReading read
  pub clear : IsClear (PieceCondition old now read)
  pub holds : Holds (expect_of read.key_range) old.pairs

-- what an accepted call adds, if this is the moment that counts
abbrev pub IsNextCall : State → ℕ → What → Type 0
IsNextCall old now (Granted lease) = IsClear (GrantCondition now) × (lease ≡ granted_at (facts_of old).line now)
IsNextCall old now (Txn lease ops) = IsNextTxn old now lease ops
IsNextCall old now (Publish step) = IsClear (PublishCondition old now step)
IsNextCall old now (Begin number pieces) = IsClear (BeginCondition old now number pieces)
IsNextCall old now (Piece number piece cursor) = IsNextPiece old now number piece cursor

-- moments never go back
abbrev pub IsNext : State → Entry → Type 0
IsNext old entry = ((facts_of old).moment ≤ entry.moment) × IsNextCall old entry.moment entry.what

-- ---- repeating one call

abbrev pub RepeatAt : State → ℕ → What → Result Receipt RepeatFault → State → Type 0
RepeatAt old now what (Ok receipt) new = IsNextCall old now what × Appends old now what receipt new
RepeatAt old now what (Err NotNext) new = (¬ (IsNextCall old now what)) × (new ≡ old)
RepeatAt old now what (Err Memory) new = new ≡ old

-- ---- repeating an entry

-- the entry is at the end of the log, and the pairs are what it gives; or nothing changed
abbrev pub RepeatStep : State → Entry → Result Receipt RepeatFault → State → Type 0
RepeatStep old entry (Ok receipt) new = IsNext old entry × (receipt.entry ≡ entry) × (receipt.place ≡ entry_count old + 1) × (new ≡ effect old entry)
RepeatStep old entry (Err NotNext) new = (¬ (IsNext old entry)) × (new ≡ old)
RepeatStep old entry (Err Memory) new = new ≡ old
