-- Pieces that begin at given keys are what a begin with given bounds asks for.
use Rattle.std.proofs.Common.{◌≡◌, ℕ, ◌+◌, ◌≤◌, true, List, [], ◌∷◌, length, Option, Some, refl, ap, subst, ◌∙◌, inl, inr, arith}
use Rattle.std.specs.List.{AllByRecursion}
use mathlib.Core.List.{map as each}
use Rattle.std.specs.FinMap as map
use Rattle.std.specs.declared.cmp.Ordering.TheVariants.{Less}
use Rattle.std.specs.Ordering.{is_le}
use Rattle.keycode.specs.Order.{bytes_cmp}
use Rattle.row_map.specs.Rows.{Bytes}
use Rattle.schema_version.specs.declared.element.ElementDef.{ElementDef}
use Rattle.schema_version.specs.declared.element.Work.{Work}
use Rattle.reorganise.specs.declared.work.Span.{Span}
use Rattle.reorganise.specs.declared.work.Progress.{Progress}
use Rattle.reorganise.specs.Laws.{IsPieceBound, HasBounds}
use Rattle.reorganise.specs.Partition.{AreJoined}
use Rattle.reorganise.specs.ScanRanges.{scan_range_of, start, end}
use Rattle.reorganise.proofs.Shares.{begun_joined}
use Rattle.drafts.specs.Begin.{IsWanted, begin_writes, starts_at}
use Rattle.drafts.specs.Calls.{Newest, starts, reorg_of, divide_draft, IsDivision}
use Rattle.drafts.specs.Divide.{spans_from, bounds_from, division, max_keys, MayAllBegin}
use Rattle.drafts.specs.Store.{Record, OfReorg, OfCursor, Key, reorg_key, cursor_key}
use Rattle.drafts.proofs.Begins.{begun_whole}

less_le : (a b : Bytes) → bytes_cmp a b ≡ Less → is_le (bytes_cmp a b) ≡ true
less_le a b e = ap is_le e

-- a range does not end before it begins
range_rises : (element : ElementDef) (work : Work) → is_le (bytes_cmp (start (scan_range_of element work)) (end (scan_range_of element work))) ≡ true
range_rises element work =
    (subst (λ (p : Progress). AreJoined (start (scan_range_of element work)) (end (scan_range_of element work)) p.pieces) (begun_whole element work map.empty)
    (begun_joined (scan_range_of element work) map.empty 1 (omega arith))).1

module _ (element : ElementDef) (work : Work) where
  abbrev range_end : Bytes
  range_end = end (scan_range_of element work)

  spans_joined : (low : Bytes) (keys : List Bytes) → is_le (bytes_cmp low range_end) ≡ true → MayAllBegin element work low keys → AreJoined low range_end (spans_from low keys range_end)
  spans_joined low [] rises all = (refl, rises, refl)
  spans_joined low (key ∷ keys) rises all = (refl, less_le low key all.0.above, spans_joined key keys (less_le key range_end all.0.below) all.1)

  spans_bound : (low : Bytes) (keys : List Bytes) → IsPieceBound (scan_range_of element work) low → MayAllBegin element work low keys → AllByRecursion (HasBounds (scan_range_of element work)) (spans_from low keys range_end)
  spans_bound low [] b all = (record { low = b; high = inr (inl refl); cursor = b }, tt)
  spans_bound low (key ∷ keys) b all = (record { low = b; high = inr (inr all.0.item); cursor = b }, spans_bound key keys (inr (inr all.0.item)) all.1)

spans_fresh : (low : Bytes) (keys : List Bytes) (top : Bytes) → AllByRecursion (λ (s : Span). s.cursor ≡ s.low) (spans_from low keys top)
spans_fresh low [] top = (refl, tt)
spans_fresh low (key ∷ keys) top = (refl, spans_fresh key keys top)

spans_count : (low : Bytes) (keys : List Bytes) (top : Bytes) → length (spans_from low keys top) ≡ length keys + 1
spans_count low [] top = refl
spans_count low (key ∷ keys) top = omega (arith, spans_count key keys top)

pub is_division : (newest : Newest) (number : ℕ) (element : ElementDef) (work : Work) (keys : List Bytes) → IsWanted newest number element work → length keys ≤ max_keys
    → MayAllBegin element work (start (scan_range_of element work)) keys → IsDivision (division newest element work keys)
is_division newest number element work keys wanted few all =
    let low = start (scan_range_of element work) in
    let top = end (scan_range_of element work) in
    let count : length (spans_from low keys top) ≡ length keys + 1 = spans_count low keys top in
    record {
      there = wanted.made.there;
      wants = wanted.made.wants;
      given = record {
        some = omega (arith, count);
        few = omega (arith, count, few);
        joined = spans_joined element work low keys (range_rises element work) all;
        bounds = spans_bound element work low keys (inl refl) all;
        fresh = spans_fresh low keys top;
      };
    }

-- ---- the records

pub starts_are : (element piece : ℕ) (low : Bytes) (keys : List Bytes) (top : Bytes) → starts_at element piece (bounds_from low keys top) ≡ starts element piece (spans_from low keys top)
starts_are element piece low [] top = refl
starts_are element piece low (key ∷ keys) top = ap (λ (rest : List (Key × Option Record)). (cursor_key element piece, Some (OfCursor low)) ∷ rest) (starts_are element (piece + 1) key keys top)

pub bounds_are : (low : Bytes) (keys : List Bytes) (top : Bytes) → bounds_from low keys top ≡ each (λ (piece : Span). (piece.low, piece.high)) (spans_from low keys top)
bounds_are low [] top = refl
bounds_are low (key ∷ keys) top = ap (λ (rest : List (Bytes × Bytes)). (low, key) ∷ rest) (bounds_are key keys top)

-- what the begin in these pieces writes
pub writes_are : (newest : Newest) (element : ElementDef) (work : Work) (keys : List Bytes) (low top : Bytes) (bounds : List (Bytes × Bytes))
    → low ≡ start (scan_range_of element work) → top ≡ end (scan_range_of element work) → bounds ≡ bounds_from low keys top → begin_writes element work bounds ≡ (divide_draft (division newest element work keys)).writes
writes_are newest element work keys low top bounds low_is top_is bounds_is =
    let range_low = start (scan_range_of element work) in
    let range_top = end (scan_range_of element work) in
    ap (begin_writes element work) (bounds_is ∙ ap (λ (x : Bytes). bounds_from x keys top) low_is ∙ ap (bounds_from range_low keys) top_is)
    ∙ ap (λ (all : List (Bytes × Bytes)). let w : List (Key × Option Record) = (reorg_key element.number, Some (OfReorg (record { element = element; work = work; bounds = all }))) ∷ starts_at element.number 0 (bounds_from range_low keys range_top) in w) (bounds_are range_low keys range_top)
    ∙ ap (λ (rest : List (Key × Option Record)). let w : List (Key × Option Record) = (reorg_key element.number, Some (OfReorg (reorg_of (division newest element work keys).progress))) ∷ rest in w) (starts_are element.number 0 range_low keys range_top)
