-- Cited by the contracts of piece and of what it calls.
-- The pieces of a reorganisation over a store that someone else runs: the draft of what was read of one.
use Rattle.std.specs.Prelude.{◌≡◌, ◌≢◌, ℕ, ◌+◌, ◌==◌, ◌⊎◌, List, [], ◌∷◌, true, false, drop, Option, Some, None, MatchOption, Ok, Err, slice_get, if◌then◌else◌}
use Rattle.std.specs.declared.cmp.Ordering.TheVariants.{Less}
use Rattle.std.specs.FinMap as map
use Rattle.std.specs.List.{AllByRecursion}
use Rattle.std.specs.Ordering.{is_le}
use Rattle.keycode.specs.Order.{bytes_cmp}
use Rattle.reorganise.specs.Pieces.{CanCome, IsReadTo}
use Rattle.reorganise.specs.declared.read.Reading.{Reading}
use Rattle.reorganise.specs.declared.work.Progress.{Progress}
use Rattle.reorganise.specs.declared.work.Span.{Span}
use Rattle.row_map.specs.Rows.{Bytes, Pairs}
use Rattle.drafts.specs.Calls.{Piece}
use Rattle.drafts.specs.Made.{working}
use Rattle.drafts.specs.declared.record.Reorg.{Reorg}
use Rattle.handles.specs.Statuses.{bad_count, bad_piece, out_of_memory, spent}
use Rattle.layer_calls.specs.Drafted.{IsDraftOf}
use Rattle.layer_calls.specs.Given.{alone, Answer}

-- ---- a piece that has come to its cursor

-- the pieces with these bounds, from number k on, of which one has come to the cursor
abbrev pub spans_from : ℕ → ℕ → Bytes → List (Bytes × Bytes) → List Span
spans_from k piece cursor [] = []
spans_from k piece cursor (bound ∷ bounds) = record { low = bound.0; high = bound.1; cursor = if k == piece then cursor else bound.0 } ∷ spans_from (k + 1) piece cursor bounds

abbrev pub progress_at : Reorg → ℕ → Bytes → Progress
progress_at reorg piece cursor = record { element = reorg.element; kind = reorg.work; pieces = spans_from 0 piece cursor reorg.bounds }

-- ---- how far it goes on

-- from the cursor to a key above it
pub record CanGo (progress : Progress) (piece : ℕ) (cursor to : Bytes) : Type 0 where
  pub above : bytes_cmp cursor to ≡ Less
  pub can : CanCome progress piece to

-- what is read as far as such a key
pub record IsGone (progress : Progress) (pairs : Pairs) (piece : ℕ) (cursor to : Bytes) (read : Reading) : Type 0 where
  pub above : bytes_cmp cursor to ≡ Less
  pub read_so : IsReadTo progress pairs piece to read

-- as far as this key, or it cannot go on to it
abbrev pub IsPartTo : Progress → Pairs → ℕ → Bytes → Bytes → Option Reading → Type 0
IsPartTo progress pairs piece cursor to found = MatchOption found (¬ (CanGo progress piece cursor to)) (IsGone progress pairs piece cursor to)

-- as far as the last of these keys to which it can go on, or there is none
abbrev pub IsLastPart : Progress → Pairs → ℕ → Bytes → List (Bytes × Bytes) → Option Reading → Type 0
IsLastPart progress pairs piece cursor keys None = AllByRecursion (λ (pair : Bytes × Bytes). ¬ (CanGo progress piece cursor pair.0)) keys
IsLastPart progress pairs piece cursor keys (Some read) =
    (k : ℕ) × (pair : Bytes × Bytes) × (slice_get keys k ≡ Some pair) × IsGone progress pairs piece cursor pair.0 read × AllByRecursion (λ (pair : Bytes × Bytes). ¬ (CanGo progress piece cursor pair.0)) (drop (k + 1) keys)

-- to the piece's end if that was read, else to the last key that was read
abbrev pub IsNextPart : Progress → Pairs → ℕ → Bytes → Bytes → Bytes → Option Reading → Type 0
IsNextPart progress pairs piece cursor high to found =
    (is_le (bytes_cmp high to) ≡ true → IsPartTo progress pairs piece cursor high found)
    × (is_le (bytes_cmp high to) ≡ false → IsLastPart progress pairs piece cursor (map.entries pairs) found)

-- ---- the draft

abbrev pub PiecesOf : List (Bytes × Bytes) → Reading → Answer → Type 0
PiecesOf bounds read (Ok reply) = IsDraftOf (Piece (working read bounds)) reply
PiecesOf bounds read (Err outcome) =
    (outcome ≡ alone out_of_memory) ⊎ ((outcome ≡ alone bad_piece) × (slice_get bounds read.piece ≢ Some (read.low, read.high)))

-- the draft of what was read, which goes on from the cursor; or there is no such piece, it has ended, or too little was read
abbrev pub PiecesAt : Reorg → ℕ → Bytes → Bytes → Pairs → Answer → Type 0
PiecesAt reorg piece cursor to pairs (Ok reply) =
    (bound : Bytes × Bytes) × (read : Reading) × (slice_get reorg.bounds piece ≡ Some bound) × IsNextPart (progress_at reorg piece cursor) pairs piece cursor bound.1 to (Some read) × PiecesOf reorg.bounds read (Ok reply)
PiecesAt reorg piece cursor to pairs (Err outcome) =
    (outcome ≡ alone out_of_memory)
    ⊎ ((outcome ≡ alone bad_piece) × (slice_get reorg.bounds piece ≡ None))
    ⊎ ((outcome ≡ alone spent) × ((bound : Bytes × Bytes) × (slice_get reorg.bounds piece ≡ Some bound) × (bytes_cmp cursor bound.1 ≢ Less)))
    ⊎ ((outcome ≡ alone bad_count) × ((bound : Bytes × Bytes) × (slice_get reorg.bounds piece ≡ Some bound) × IsNextPart (progress_at reorg piece cursor) pairs piece cursor bound.1 to None))
