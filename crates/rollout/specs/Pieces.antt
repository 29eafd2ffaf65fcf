-- Cited by the contracts of items_are_rows, advances_take_items.
-- How few pieces complete all changes: each takes `limit` of the items that are ahead of its element, or is the last of one of the pieces in
-- which they are worked. So a fill of 10 rows in 3 pieces, with a limit of 4, takes at most (10 + 4 * 3) / 4 = 5 entries of the log.
use Rattle.std.specs.Prelude.{◌≡◌, ℕ, ◌+◌, ◌*◌, ◌≤◌, ◌==◌, List, [], ◌∷◌, length, Bool, true, false, Option, Some, None, is_some, if◌then◌else◌, filter}
use Rattle.std.specs.FinMap.{entries}
use Rattle.row_map.specs.Rows.{Cells, Pairs, RowKey, Rows}
use Rattle.schema_version.specs.declared.element.ElementDef.{ElementDef}
use Rattle.schema_version.specs.declared.element.Way.{Way}
use Rattle.schema_version.specs.declared.element.Way.TheVariants.{Adding, Dropping}
use Rattle.schema_version.specs.declared.element.Work.{Work}
use Rattle.schema_version.specs.declared.element.Work.TheVariants.{Fill, Clear}
use Rattle.schema_version.specs.Edges.{is_filled}
use Rattle.schema_version.specs.Version.{element_at}
use Rattle.reorganise.specs.declared.work.Span.{Span}
use Rattle.reorganise.specs.declared.work.Progress.{Progress}
use Rattle.reorganise.specs.Left.{items_left}
use Rattle.reorganise.specs.Pieces.{is_ended}
use Rattle.reorganise.specs.ScanRanges.{scan_range_of, items}
use Rattle.replay.specs.declared.entry.Entry.{Entry}
use Rattle.replay.specs.declared.entry.What.{What}
use Rattle.replay.specs.declared.entry.What.TheVariants.{Lease as Granted, Txn, Publish, Begin, Piece}
use Rattle.replay.specs.Kept.{IsKept}
use Rattle.replay.specs.Replay.{Facts, progress_of}
use Rattle.world.specs.State.{State, facts_of, IsReplayed}
use Rattle.rollout.specs.declared.advanced.Advanced.{Advanced}
use Rattle.rollout.specs.Advance.{AreCounts, Advances}
use Rattle.rollout.specs.StatePath.{next_state}

-- ---- in a log

-- 1 for a piece of the element
abbrev pub piece_of : ℕ → What → ℕ
piece_of number (Granted lease) = 0
piece_of number (Txn lease ops) = 0
piece_of number (Publish step) = 0
piece_of number (Begin element pieces) = 0
piece_of number (Piece element piece cursor) = if element == number then 1 else 0

-- how many pieces of the element a log has
abbrev pub pieces_in : ℕ → List Entry → ℕ
pieces_in number [] = 0
pieces_in number (entry ∷ log) = piece_of number entry.what + pieces_in number log

-- ---- the work that is ahead

-- what an element needs on its way: a fill as it is added, if its kind is filled, and a clear as it is dropped
abbrev pub way_work : Bool → Way → Option Work
way_work true Adding = Some Fill
way_work false Adding = None
way_work filled Dropping = Some Clear

-- the work of an element whose change is under way
abbrev pub work_ahead : Option ElementDef → Option Work
work_ahead None = None
work_ahead (Some element) = if is_some (next_state element) then way_work (is_filled element.kind) element.way else None

-- ---- items

-- the items of a work that has not begun: the rows of the element's table, or the pairs of an index that is dropped
abbrev pub items_of : Pairs → Option ElementDef → Option Work → ℕ
items_of pairs (Some element) (Some work) = length (items (scan_range_of element work) pairs)
items_of pairs None work = 0
items_of pairs (Some element) None = 0

abbrev pub items_by : Pairs → Option ElementDef → Option Progress → ℕ
items_by pairs element None = items_of pairs element (work_ahead element)
items_by pairs element (Some begun) = items_left begun pairs

-- the items ahead of an element: those that are left of its begun reorganisation, or all of one that is to come
abbrev pub items_ahead : Facts → ℕ → ℕ
items_ahead facts number = items_by facts.pairs (element_at facts.newest number) (progress_of facts.progress number)

-- ---- pieces

-- how many have not ended
abbrev pub open_pieces : List Span → ℕ
open_pieces [] = 0
open_pieces (piece ∷ pieces) = (if is_ended piece then 0 else 1) + open_pieces pieces

abbrev pub pieces_by : ℕ → Option ElementDef → Option Progress → ℕ
pieces_by pieces element None = if is_some (work_ahead element) then pieces else 0
pieces_by pieces element (Some begun) = open_pieces begun.pieces

-- the pieces ahead of an element: those of its begun reorganisation that have not ended, or all of one that is to come
abbrev pub pieces_ahead : Facts → ℕ → ℕ → ℕ
pieces_ahead facts pieces number = pieces_by pieces (element_at facts.newest number) (progress_of facts.progress number)

-- ---- few pieces

-- of each element there are at most as many pieces more as its items and pieces allow, since each takes `limit` items or ends a piece
abbrev pub ArePiecesFew : ℕ → ℕ → State → State → Type 0
ArePiecesFew pieces limit old new =
    (number : ℕ) → limit * pieces_in number new.log ≤ limit * pieces_in number old.log + (items_ahead (facts_of old) number + limit * pieces_ahead (facts_of old) pieces number)

-- the pieces of an element in the log, each counted as `limit` items, and all that is ahead of it
abbrev pub pieces_and_ahead : ℕ → ℕ → State → ℕ → ℕ
pieces_and_ahead pieces limit state number = limit * pieces_in number state.log + (items_ahead (facts_of state) number + limit * pieces_ahead (facts_of state) pieces number)

-- no advance adds to these: what a piece counts for, it takes from what is ahead
abbrev pub AdvancesTakeItems : Type 0
AdvancesTakeItems =
    (old new : State) (moment pieces limit number : ℕ) (done : Advanced) → IsKept (facts_of old) → IsReplayed old → AreCounts pieces limit
    → Advances old moment pieces limit done new → pieces_and_ahead pieces limit new number ≤ pieces_and_ahead pieces limit old number

-- ---- items are rows

-- how many rows a table has
abbrev pub rows_in : ℕ → Rows → ℕ
rows_in table rows = length (filter (λ (row : RowKey × Cells). row.0.0 == table) (entries rows))

-- no more items are ahead of an element than its table has rows
abbrev pub ItemsAreRows : Type 0
ItemsAreRows = (facts : Facts) (number : ℕ) (element : ElementDef) → IsKept facts → element_at facts.newest number ≡ Some element → items_ahead facts number ≤ rows_in element.table facts.rows
