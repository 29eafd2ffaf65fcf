-- Every record that a draft compares or writes is of its key's kind.
use Rattle.std.proofs.Common.{ℕ, List, [], ◌∷◌, ◌++◌, Option, Some, None, option_map, refl, ◌+◌}
use Rattle.std.specs.List.{AllByRecursion}
use Rattle.row_map.specs.Rows.{Bytes}
use Rattle.schema_version.specs.declared.step.Move.{Move}
use Rattle.schema_version.specs.declared.step.Move.TheVariants.{Enter, Go, Turn}
use Rattle.reorganise.specs.declared.work.Span.{Span}
use Rattle.drafts.specs.declared.record.Reorg.{Reorg}
use Rattle.drafts.specs.declared.record.Record.{Record}
use Rattle.drafts.specs.declared.record.Record.TheVariants.{Reorg as OfReorg}
use Rattle.drafts.specs.Store.{Key, reorg_key}
use Rattle.drafts.specs.Calls.{Call, Transact, Close, Begin, Divide, Piece, Publish, draft_of, mark_reads, mark_writes, starts, ends, removals, bounds_in, move_reads, move_writes, step_reads, step_writes}
use Rattle.record_code.specs.Records.{IsUnder}

abbrev pub Suits : Key × Option Record → Type 0
Suits (key, None) = Unit {0}
Suits (key, Some r) = IsUnder key r

abbrev pub AllSuit : List (Key × Option Record) → Type 0
AllSuit = AllByRecursion Suits

both : (xs ys : List (Key × Option Record)) → AllSuit xs → AllSuit ys → AllSuit (xs ++ ys)
both [] ys p q = q
both (x ∷ xs) ys p q = (p.0, both xs ys p.1 q)

reorg_suits : (element : ℕ) (found : Option Reorg) → Suits (reorg_key element, option_map OfReorg found)
reorg_suits element None = tt
reorg_suits element (Some reorg) = refl

marks_read : (mark : Option Bytes) → AllSuit (mark_reads mark)
marks_read None = tt
marks_read (Some name) = (tt, tt)

marks_write : (mark : Option Bytes) → AllSuit (mark_writes mark)
marks_write None = tt
marks_write (Some name) = (refl, tt)

all_start : (element piece : ℕ) (spans : List Span) → AllSuit (starts element piece spans)
all_start element piece [] = tt
all_start element piece (span ∷ spans) = (refl, all_start element (piece + 1) spans)

all_end : (element piece : ℕ) (bounds : List (Bytes × Bytes)) → AllSuit (ends element piece bounds)
all_end element piece [] = tt
all_end element piece (bound ∷ bounds) = (refl, all_end element (piece + 1) bounds)

all_go : (element piece : ℕ) (bounds : List (Bytes × Bytes)) → AllSuit (removals element piece bounds)
all_go element piece [] = tt
all_go element piece (bound ∷ bounds) = (tt, all_go element (piece + 1) bounds)

move_reads_suit : (found : ℕ → Option Reorg) (move : Move) → AllSuit (move_reads found move)
move_reads_suit found (Enter fresh to) = tt
move_reads_suit found (Go element to) = (reorg_suits element (found element), all_end element 0 (bounds_in (found element)))
move_reads_suit found (Turn element) = (reorg_suits element (found element), tt)

move_writes_suit : (found : ℕ → Option Reorg) (move : Move) → AllSuit (move_writes found move)
move_writes_suit found (Enter fresh to) = tt
move_writes_suit found (Go element to) = (tt, all_go element 0 (bounds_in (found element)))
move_writes_suit found (Turn element) = (tt, all_go element 0 (bounds_in (found element)))

step_reads_suit : (found : ℕ → Option Reorg) (step : List Move) → AllSuit (step_reads found step)
step_reads_suit found [] = tt
step_reads_suit found (move ∷ step) = both (move_reads found move) (step_reads found step) (move_reads_suit found move) (step_reads_suit found step)

step_writes_suit : (found : ℕ → Option Reorg) (step : List Move) → AllSuit (step_writes found step)
step_writes_suit found [] = tt
step_writes_suit found (move ∷ step) = both (move_writes found move) (step_writes found step) (move_writes_suit found move) (step_writes_suit found step)

pub reads_suit : (call : Call) → AllSuit (draft_of call).reads
reads_suit (Transact txn mark) = (refl, marks_read mark)
reads_suit (Close newest) = (refl, (tt, tt))
reads_suit (Begin b) = (refl, (tt, (tt, (tt, tt))))
reads_suit (Divide d) = (refl, (tt, (tt, (tt, tt))))
reads_suit (Piece w) = (refl, (refl, tt))
reads_suit (Publish p) = (refl, (tt, step_reads_suit p.found p.step))

pub writes_suit : (call : Call) → AllSuit (draft_of call).writes
writes_suit (Transact txn mark) = marks_write mark
writes_suit (Close newest) = (tt, tt)
writes_suit (Begin b) = (refl, (refl, tt))
writes_suit (Divide d) = (refl, all_start d.progress.element.number 0 d.progress.pieces)
writes_suit (Piece w) = (refl, tt)
writes_suit (Publish p) = (refl, (tt, step_writes_suit p.found p.step))
