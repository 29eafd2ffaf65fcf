-- A cursor that comes on, in the list of pieces.
use Rattle.std.proofs.Common.{◌≡◌, ℕ, zero, suc, ◌<◌, ◌≤◌, List, [], ◌∷◌, length, Option, Some, refl, ap, arith}
use Rattle.std.specs.Prelude.{slice_set, slice_index_or}
use Rattle.row_map.specs.Rows.{Bytes}
use Rattle.reorganise.specs.declared.work.Span.{Span}
use Rattle.reorganise.specs.Laws.{with_cursor}

some_one : {A : Type 0} {v w : A} → Some v ≡ (let o : Option A = Some w in o) → v ≡ w
some_one e = cc

-- no piece has a number past the last
pub past_last : (place : ℕ) (to : Bytes) (pieces : List Span) → length pieces ≤ place → pieces ≡ with_cursor place to pieces
past_last place to [] le = refl
past_last zero to (p ∷ ps) le = absurd (omega (arith, le))
past_last (suc place) to (p ∷ ps) le = ap (λ (qs : List Span). p ∷ qs) (past_last place to ps (omega (arith, le)))

pub set_cursor : (place : ℕ) (to : Bytes) (pieces : List Span) (span : Span) → place < length pieces → span ≡ slice_index_or pieces place span → slice_set pieces place (record { low = span.low; high = span.high; cursor = to }) ≡ with_cursor place to pieces
set_cursor place to [] span lt is = absurd (omega (arith, lt))
set_cursor zero to (p ∷ ps) span lt is = ap (λ (q : Span). (let s : Span = record { low = q.low; high = q.high; cursor = to } in s) ∷ ps) is
set_cursor (suc place) to (p ∷ ps) span lt is = ap (λ (qs : List Span). p ∷ qs) (set_cursor place to ps span (omega (arith, lt)) is)
