-- Every control record that a draft compares or writes has a key of such.
use Rattle.std.proofs.Common.{ℕ, ◌+◌, List, [], ◌∷◌, ◌++◌, Option, Some, None, refl}
use Rattle.std.specs.List.{AllByRecursion}
use Rattle.row_map.specs.Rows.{Bytes}
use Rattle.schema_version.specs.declared.step.Move.{Move}
use Rattle.schema_version.specs.declared.step.Move.TheVariants.{Enter, Go, Turn}
use Rattle.reorganise.specs.declared.work.Span.{Span}
use Rattle.drafts.specs.declared.record.Reorg.{Reorg}
use Rattle.drafts.specs.declared.record.Record.{Record}
use Rattle.drafts.specs.Store.{Key}
use Rattle.drafts.specs.Calls.{Call, Transact, Close, Begin, Divide, Piece, Publish, draft_of, mark_reads, mark_writes, starts, ends, removals, bounds_in, move_reads, move_writes, step_reads, step_writes}
use Rattle.draft_store.specs.OneMap.{HasControl}

abbrev AreControl : List (Key × Option Record) → Type 0
AreControl = AllByRecursion HasControl

both : (xs ys : List (Key × Option Record)) → AreControl xs → AreControl ys → AreControl (xs ++ ys)
both [] ys p q = q
both (x ∷ xs) ys p q = (p.0, both xs ys p.1 q)

marks_read : (mark : Option Bytes) → AreControl (mark_reads mark)
marks_read None = tt
marks_read (Some name) = (refl, tt)

marks_write : (mark : Option Bytes) → AreControl (mark_writes mark)
marks_write None = tt
marks_write (Some name) = (refl, tt)

all_start : (element piece : ℕ) (spans : List Span) → AreControl (starts element piece spans)
all_start element piece [] = tt
all_start element piece (span ∷ spans) = (refl, all_start element (piece + 1) spans)

all_end : (element piece : ℕ) (bounds : List (Bytes × Bytes)) → AreControl (ends element piece bounds)
all_end element piece [] = tt
all_end element piece (bound ∷ bounds) = (refl, all_end element (piece + 1) bounds)

all_go : (element piece : ℕ) (bounds : List (Bytes × Bytes)) → AreControl (removals element piece bounds)
all_go element piece [] = tt
all_go element piece (bound ∷ bounds) = (refl, all_go element (piece + 1) bounds)

moves_read : (found : ℕ → Option Reorg) (move : Move) → AreControl (move_reads found move)
moves_read found (Enter fresh to) = tt
moves_read found (Go element to) = (refl, all_end element 0 (bounds_in (found element)))
moves_read found (Turn element) = (refl, tt)

moves_write : (found : ℕ → Option Reorg) (move : Move) → AreControl (move_writes found move)
moves_write found (Enter fresh to) = tt
moves_write found (Go element to) = (refl, all_go element 0 (bounds_in (found element)))
moves_write found (Turn element) = (refl, all_go element 0 (bounds_in (found element)))

steps_read : (found : ℕ → Option Reorg) (step : List Move) → AreControl (step_reads found step)
steps_read found [] = tt
steps_read found (move ∷ step) = both (move_reads found move) (step_reads found step) (moves_read found move) (steps_read found step)

steps_write : (found : ℕ → Option Reorg) (step : List Move) → AreControl (step_writes found step)
steps_write found [] = tt
steps_write found (move ∷ step) = both (move_writes found move) (step_writes found step) (moves_write found move) (steps_write found step)

pub reads_control : (call : Call) → AreControl (draft_of call).reads
reads_control (Transact txn mark) = (refl, marks_read mark)
reads_control (Close newest) = (refl, (refl, tt))
reads_control (Begin b) = (refl, (refl, (refl, (refl, tt))))
reads_control (Divide d) = (refl, (refl, (refl, (refl, tt))))
reads_control (Piece w) = (refl, (refl, tt))
reads_control (Publish p) = (refl, (refl, steps_read p.found p.step))

pub writes_control : (call : Call) → AreControl (draft_of call).writes
writes_control (Transact txn mark) = marks_write mark
writes_control (Close newest) = (refl, tt)
writes_control (Begin b) = (refl, (refl, tt))
writes_control (Divide d) = (refl, all_start d.progress.element.number 0 d.progress.pieces)
writes_control (Piece w) = (refl, tt)
writes_control (Publish p) = (refl, (refl, steps_write p.found p.step))
