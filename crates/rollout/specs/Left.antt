-- Cited by the contracts of pieces_take_items.
-- What is left of all changes that are under way: the measure that each advance lowers.
use Rattle.std.specs.Prelude.{◌≡◌, ◌≢◌, ◌⊎◌, ℕ, length, zero, suc, ◌+◌, ◌*◌, ◌<◌, ◌≤◌, Bool, false, ◌&&◌, not, nat_lt, true, slice_get, Option, Some, None, is_some, if◌then◌else◌}
use Rattle.lease.specs.Timeline.{earliest}
use Rattle.schema_version.specs.declared.element.ElementDef.{ElementDef}
use Rattle.schema_version.specs.declared.element.ElementState.TheVariants.{Public}
use Rattle.schema_version.specs.declared.element.Way.{Way}
use Rattle.schema_version.specs.declared.element.Way.TheVariants.{Adding, Dropping}
use Rattle.schema_version.specs.declared.element.Work.{Work}
use Rattle.schema_version.specs.Version.{Version, element_at}
use Rattle.std.specs.Ordering.{is_le}
use Rattle.std.specs.declared.cmp.Ordering.TheVariants.{Less}
use Rattle.keycode.specs.Order.{bytes_cmp}
use Rattle.row_map.specs.Rows.{Bytes, Pairs}
use Rattle.row_map.specs.Walk.{key_range}
use Rattle.reorganise.specs.declared.work.Span.{Span}
use Rattle.reorganise.specs.declared.work.Progress.{Progress}
use Rattle.reorganise.specs.ScanRanges.{scan_range_of, item_keys}
use Rattle.reorganise.specs.Pieces.{next_cursor}
use Rattle.replay.specs.Replay.{Facts, progress_of, come_to}
use Rattle.world.specs.BeginReorg.{wanted_at}
use Rattle.world.specs.Piece.{standing_at}
use Rattle.rollout.specs.declared.advanced.Advanced.{Advanced}
use Rattle.rollout.specs.declared.advanced.Advanced.TheVariants as advanced
use Rattle.rollout.specs.StatePath.{edges_of}

-- the sum of a quantity over the numbers below a bound
abbrev pub sum_below : (ℕ → ℕ) → ℕ → ℕ
sum_below f zero = 0
sum_below f (suc n) = sum_below f n + f n

abbrev pub edges_at : Version → ℕ → ℕ
edges_at version number = edges_of (element_at version number)

-- the edges that all elements have still to go
abbrev pub edges_left : Facts → ℕ
edges_left facts = sum_below (edges_at facts.newest) facts.newest.next

-- 1 if an element wants a fill or a clear that has not begun
abbrev pub unbegun_at : Facts → ℕ → ℕ
unbegun_at facts number = if is_some (wanted_at facts number) && not (is_some (progress_of facts.progress number)) then 1 else 0

abbrev pub unbegun : Facts → ℕ
unbegun facts = sum_below (unbegun_at facts) facts.newest.next

-- the begins and publications that an element may still have, by its edges and by 1 if it wants a reorganisation that has not begun: with
-- two edges left, two publications and the begin before the second
abbrev pub acts_by : ℕ → ℕ → ℕ
acts_by zero unbegun = 0
acts_by (suc zero) unbegun = 1 + unbegun
acts_by (suc (suc edges)) unbegun = 3

abbrev pub acts_at : Facts → ℕ → ℕ
acts_at facts number = acts_by (edges_at facts.newest number) (unbegun_at facts number)

abbrev pub acts_left : Facts → ℕ
acts_left facts = sum_below (acts_at facts) facts.newest.next

-- ---- what each act does to it

-- one cursor of the element's reorganisation comes strictly on, within its piece, and nothing else of what has begun changes
pub record ComesOn (old new : Facts) (number : ℕ) : Type 0 where
  pub progress : Progress
  pub begun : progress_of old.progress number ≡ Some progress
  pub piece : ℕ
  pub span : Span
  pub here : slice_get progress.pieces piece ≡ Some span
  pub to : Bytes
  pub up : bytes_cmp span.cursor to ≡ Less
  pub bounded : is_le (bytes_cmp to span.high) ≡ true
  pub moved : progress_of new.progress number ≡ Some (come_to piece to progress)
  pub others : (k : ℕ) → k ≢ number → progress_of new.progress k ≡ progress_of old.progress k

-- a begin leaves the edges and lowers the reorganisations that have not begun; a step lowers the edges; a piece leaves both; and as long as
-- edges are left, nothing is finished. A begin and a step lower the acts that are left, and a piece leaves them
abbrev pub Falls : Facts → Facts → Advanced → Type 0
Falls old new (advanced.Began number receipt) = (edges_left new ≡ edges_left old) × (unbegun new < unbegun old) × (acts_left new < acts_left old)
Falls old new (advanced.Published version receipt) = (edges_left new < edges_left old) × (acts_left new < acts_left old)
Falls old new (advanced.Worked number done) = (edges_left new ≡ edges_left old) × (unbegun new ≡ unbegun old) × (acts_left new ≡ acts_left old) × ComesOn old new number
Falls old new (advanced.Waiting until) = 1 ≤ edges_left old
Falls old new advanced.Finished = edges_left old ≡ 0

-- ---- a bound on all that is left

abbrev pub is_open_in : Option (Work × ℕ × Bool) → Bool
is_open_in None = false
is_open_in (Some given) = not given.2

-- 1 if a reorganisation has begun and is not finished
abbrev pub open_at : Facts → ℕ → ℕ
open_at facts number = if is_open_in (standing_at facts number) then 1 else 0

abbrev pub open_left : Facts → ℕ
open_left facts = sum_below (open_at facts) facts.newest.next

-- 1 if no version may be published yet
abbrev pub waiting : Facts → ℕ → ℕ
waiting facts now = if nat_lt now (earliest facts.line) then 1 else 0

-- more than all reorganisations and a wait count for
abbrev pub an_edge : ℕ
an_edge = 6000008

-- the edges count most, then the reorganisations that have not begun, then those that have, then the wait
abbrev pub all_left : Facts → ℕ → ℕ
all_left facts now = edges_left facts * an_edge + (2 * (2 * unbegun facts + open_left facts) + waiting facts now)

-- ---- the end

-- an element at the end of its way: public if it is being added, gone if it is being dropped
abbrev pub end_by : Way → ElementDef → Option ElementDef
end_by Adding element = Some (record element { state = Public })
end_by Dropping element = None

abbrev pub end_of : Option ElementDef → Option ElementDef
end_of None = None
end_of (Some element) = end_by element.way element

-- every change that was under way is completed, and nothing else has changed in the schema
abbrev pub AreCompleted : Facts → Facts → Type 0
AreCompleted old new = (number : ℕ) → element_at new.newest number ≡ end_of (element_at old.newest number)

-- an element that is where it was, or further on its way: nothing of it has changed but its state,
-- and fewer edges are left; or it was being dropped and is gone. If no element was, none is
abbrev pub IsFurther : Option ElementDef → Option ElementDef → Type 0
IsFurther None new = new ≡ None
IsFurther (Some element) None = element.way ≡ Dropping
IsFurther (Some element) (Some new) = (new ≡ element) ⊎ ((new ≡ record element { state = new.state }) × (edges_of (Some new) < edges_of (Some element)))

-- each element is where it was or further on its way, and nothing else of the schema has changed
pub record IsOnTheWay (old new : Facts) : Type 0 where
  pub elements : (number : ℕ) → IsFurther (element_at old.newest number) (element_at new.newest number)
  pub next : new.newest.next ≡ old.newest.next
  pub tables : new.newest.tables ≡ old.newest.tables

-- ---- how far a piece has come

-- the items of a reorganisation among pairs, from a key to below another
abbrev pub items_between : ElementDef → Work → Pairs → Bytes → Bytes → ℕ
items_between element work pairs low high = length (item_keys (scan_range_of element work) (key_range pairs low high))

-- a read of an open piece takes exactly so many of the items that are left, or reaches its end
abbrev pub PiecesTakeItems : Type 0
PiecesTakeItems =
    (element : ElementDef) (work : Work) (pairs : Pairs) (cursor high : Bytes) (limit : ℕ) → 1 ≤ limit → bytes_cmp cursor high ≡ Less
    → (next_cursor (scan_range_of element work) pairs cursor high limit ≡ high)
    ⊎ (items_between element work pairs (next_cursor (scan_range_of element work) pairs cursor high limit) high + limit ≡ items_between element work pairs cursor high)
