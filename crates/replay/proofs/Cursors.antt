-- Begun reorganisations have few pieces, and each cursor stands from its lower bound to its upper one: what a step, a begin and a piece leave of that.
use Rattle.std.proofs.Common.{◌≡◌, ℕ, zero, suc, ◌+◌, ◌≤◌, List, [], ◌∷◌, ◌++◌, length, Option, Some, None, option_map, refl, sym, ap, subst, ◌∙◌, Bool, true, false, cond, eqb-true, add-one, arith}
use Rattle.std.proofs.lemmas.List.{length-append}
use Rattle.std.proofs.lemmas.List.Folds.{find-append}
use Rattle.std.specs.List.{AllByRecursion}
use Rattle.std.specs.Option.{option_or}
use Rattle.std.specs.Ordering.{is_le}
use Rattle.std.specs.Prelude.{filter, slice_get}
use mathlib.Core.List.{map as each}
use Rattle.collections.proofs.Steps.{AllByRecursion-append}
use Rattle.keycode.specs.Order.{bytes_cmp}
use Rattle.row_map.specs.Rows.{Bytes, Pairs}
use Rattle.schema_version.specs.declared.element.ElementDef.{ElementDef}
use Rattle.schema_version.specs.declared.step.Move.{Move}
use Rattle.schema_version.specs.declared.element.Work.{Work}
use Rattle.reorganise.specs.declared.work.Span.{Span}
use Rattle.reorganise.specs.declared.work.Progress.{Progress}
use Rattle.reorganise.specs.Laws.{with_cursor}
use Rattle.reorganise.specs.Partition.{AreJoined}
use Rattle.reorganise.specs.Pieces.{span_at, spans, begun}
use Rattle.reorganise.specs.ScanRanges.{scan_range_of, start, end, items}
use Rattle.reorganise.proofs.Order.{le, le_trans, le_itself}
use Rattle.reorganise.proofs.Shares.{begun_joined}
use Rattle.replay.specs.Replay.{is_of, progress_of, stays, come_to, moved_to}
use Rattle.replay.specs.Kept.{IsInPiece, IsReached, IsInPieces, AreInPieces}
use Rattle.replay.specs.Laws.{IsPieceCount}
use Rattle.replay.proofs.Begun.{progress_moved, stayed}

some_one : {A : Type 0} {v w : A} → Some v ≡ (let o : Option A = Some w in o) → v ≡ w
some_one e = cc

none_some : {A B : Type 0} {v : A} → None ≡ Some v → B
none_some e = absurd cc

-- ---- a step

-- those that stay were there
pub stay_in_pieces : (step : List Move) (begun : List Progress) → AreInPieces begun → AreInPieces (filter (stays step) begun)
stay_in_pieces step begun all number progress there = all number progress (stayed step begun number progress there).0

-- ---- a begin

count_is : (element : ElementDef) (work : Work) (keys : List Bytes) (pieces k : ℕ) → length (spans (scan_range_of element work) keys pieces k) ≡ k
count_is element work keys pieces zero = refl
count_is element work keys pieces (suc k) =
    length-append (spans (scan_range_of element work) keys pieces k) (span_at (scan_range_of element work) keys pieces k ∷ []) ∙ ap (λ (n : ℕ). n + 1) (count_is element work keys pieces k) ∙ add-one k

fresh : (element : ElementDef) (work : Work) (keys : List Bytes) (pieces k : ℕ) → AllByRecursion (λ (s : Span). s.cursor ≡ s.low) (spans (scan_range_of element work) keys pieces k)
fresh element work keys pieces zero = tt
fresh element work keys pieces (suc k) =
    AllByRecursion-append (λ (s : Span). s.cursor ≡ s.low) (spans (scan_range_of element work) keys pieces k) (span_at (scan_range_of element work) keys pieces k ∷ []) (fresh element work keys pieces k) (refl, tt)

-- no piece ends below where it begins
begin_within : (low high : Bytes) (pieces : List Span) → AreJoined low high pieces → AllByRecursion (λ (s : Span). s.cursor ≡ s.low) pieces → AllByRecursion IsInPiece pieces
begin_within low high [] joined at = tt
begin_within low high (s ∷ ss) joined at = (subst (λ (cursor : Bytes). is_le (bytes_cmp cursor s.high) ≡ true) (sym at.0) joined.1, begin_within s.high high ss joined.2 at.1)

-- each stands at its lower bound
fresh_reached : (pieces : List Span) → AllByRecursion (λ (s : Span). s.cursor ≡ s.low) pieces → AllByRecursion IsReached pieces
fresh_reached [] at = tt
fresh_reached (s ∷ ss) at = (subst (λ (cursor : Bytes). le s.low cursor ≡ true) (sym at.0) (le_itself s.low), fresh_reached ss at.1)

begun_in : (element : ElementDef) (work : Work) (pairs : Pairs) (pieces : ℕ) → IsPieceCount pieces → IsInPieces (begun element work pairs pieces)
begun_in element work pairs pieces count =
    let keys = items (scan_range_of element work) pairs in
    record {
      few = subst (λ (n : ℕ). n ≤ 64) (sym (count_is element work keys pieces pieces)) count.1;
      cursors =
          begin_within (start (scan_range_of element work)) (end (scan_range_of element work)) (spans (scan_range_of element work) keys pieces pieces)
          (begun_joined (scan_range_of element work) pairs pieces (omega (arith, count.0))) (fresh element work keys pieces pieces);
      reached = fresh_reached (spans (scan_range_of element work) keys pieces pieces) (fresh element work keys pieces pieces);
    }

-- one more, at the end
pub begin_in_pieces : (element : ElementDef) (work : Work) (pairs : Pairs) (pieces : ℕ) (ps : List Progress) → IsPieceCount pieces → AreInPieces ps → AreInPieces (ps ++ begun element work pairs pieces ∷ [])
begin_in_pieces element work pairs pieces ps count all number progress there = by (progress_of ps number) refl (sym (find-append (is_of number) ps (b ∷ [])) ∙ there)
  where
    b : Progress
    b = begun element work pairs pieces

    last : (c : Bool) → cond c (Some b) None ≡ Some progress → IsInPieces progress
    last true is = subst IsInPieces (some_one is) (begun_in element work pairs pieces count)
    last false is = none_some is

    by : (o : Option Progress) → progress_of ps number ≡ o → option_or o (progress_of (b ∷ []) number) ≡ Some progress → IsInPieces progress
    by (Some p) at is = all number progress (at ∙ is)
    by None at is = last (is_of number b) is

-- ---- a piece

-- the moved cursor comes to no more than its end
come_within : (place : ℕ) (to : Bytes) (pieces : List Span) (span : Span) → slice_get pieces place ≡ Some span → is_le (bytes_cmp to span.high) ≡ true → AllByRecursion IsInPiece pieces → AllByRecursion IsInPiece (with_cursor place to pieces)
come_within place to [] span here le all = tt
come_within zero to (s ∷ ss) span here le all = (subst (λ (x : Span). is_le (bytes_cmp to x.high) ≡ true) (sym (some_one here)) le, all.1)
come_within (suc place) to (s ∷ ss) span here le all = (all.0, come_within place to ss span here le all.1)

-- and it comes on
come_further : (place : ℕ) (to : Bytes) (pieces : List Span) (span : Span) → slice_get pieces place ≡ Some span → is_le (bytes_cmp span.cursor to) ≡ true → AllByRecursion IsReached pieces → AllByRecursion IsReached (with_cursor place to pieces)
come_further place to [] span here le all = tt
come_further zero to (s ∷ ss) span here on all = (le_trans s.low s.cursor to all.0 (subst (λ (x : Span). le x.cursor to ≡ true) (sym (some_one here)) on), all.1)
come_further (suc place) to (s ∷ ss) span here on all = (all.0, come_further place to ss span here on all.1)

pub same_count : (place : ℕ) (to : Bytes) (pieces : List Span) → length (with_cursor place to pieces) ≡ length pieces
same_count place to [] = refl
same_count zero to (p ∷ ps) = refl
same_count (suc place) to (p ∷ ps) = ap (λ (n : ℕ). suc n) (same_count place to ps)

come_in : (place : ℕ) (to : Bytes) (progress : Progress) (span : Span) → slice_get progress.pieces place ≡ Some span → is_le (bytes_cmp span.cursor to) ≡ true → is_le (bytes_cmp to span.high) ≡ true → IsInPieces progress → IsInPieces (come_to place to progress)
come_in place to progress span here on le h = record {
  few = subst (λ (n : ℕ). n ≤ 64) (sym (same_count place to progress.pieces)) h.few;
  cursors = come_within place to progress.pieces span here le h.cursors;
  reached = come_further place to progress.pieces span here on h.reached;
}

-- the cursor of a piece of the element's reorganisation
pub move_in_pieces : (ps : List Progress) (number place : ℕ) (to : Bytes) (p : Progress) (span : Span) → progress_of ps number ≡ Some p → slice_get p.pieces place ≡ Some span
    → is_le (bytes_cmp span.cursor to) ≡ true → is_le (bytes_cmp to span.high) ≡ true
    → ((m : ℕ) (q : Progress) → progress_of ps m ≡ Some q → q.element.number ≡ m) → AreInPieces ps → AreInPieces (each (moved_to number place to) ps)
move_in_pieces ps number place to p span there here on le own all m progress at = by (progress_of ps m) refl (sym (progress_moved number place to ps m) ∙ at)
  where
    is_moved : (q : Progress) → progress_of ps m ≡ Some q → (b : Bool) → is_of number q ≡ b → IsInPieces (cond b (come_to place to q) q)
    is_moved q is true of =
        let same : p ≡ q = some_one (sym there ∙ subst (λ (n : ℕ). progress_of ps n ≡ Some q) (sym (own m q is) ∙ eqb-true q.element.number number of) is) in
        come_in place to q span (subst (λ (x : Progress). slice_get x.pieces place ≡ Some span) same here) on le (all m q is)
    is_moved q is false of = all m q is

    by : (o : Option Progress) → progress_of ps m ≡ o → option_map (moved_to number place to) o ≡ Some progress → IsInPieces progress
    by None is e = none_some e
    by (Some q) is e = subst IsInPieces (some_one e) (is_moved q is (is_of number q) refl)
