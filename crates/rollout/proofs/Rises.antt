-- The cursor of a piece that was read comes strictly on.
use Rattle.std.proofs.Common.{◌≡◌, ℕ, zero, suc, ◌≤◌, Bool, true, false, cond, T, List, [], ◌∷◌, Option, Some, None, refl, sym, ap, subst, ◌∙◌, arith, true≢false}
use Rattle.std.specs.Prelude.{slice_get, not}
use Rattle.std.specs.Option.{unwrap_or}
use Rattle.std.specs.Ordering.{is_lt}
use Rattle.std.specs.declared.cmp.Ordering.TheVariants.{Less}
use Rattle.std.specs.FinMap as map
use Rattle.std.specs.FinMap.Entries.{is_sorted, below_all}
use Rattle.byte_map.specs.Walk.{within, is_within}
use Rattle.keycode.specs.Order.{bytes_cmp}
use Rattle.row_map.specs.Rows.{Bytes, Pairs}
use Rattle.row_map.specs.Walk.{key_range}
use Rattle.schema_version.proofs.Entries.{one, other}
use Rattle.schema_version.proofs.Lists.{some_same}
use Rattle.schema_version.specs.declared.element.ElementDef.{ElementDef}
use Rattle.schema_version.specs.declared.element.Work.{Work}
use Rattle.reorganise.specs.ScanRanges.{scan_range_of, is_item, item_keys}
use Rattle.reorganise.specs.Pieces.{next_cursor}
use Rattle.reorganise.proofs.Items.{Pair, item_keys-cons}
use Rattle.reorganise.proofs.Order.{le, le_itself, less_le, less_of, within_parts, lt_is, le_trans}

none_some : {A B : Type 0} {x : A} → None ≡ Some x → B
none_some e = absurd cc

is_true : (b : Bool) → T b → b ≡ true
is_true true h = refl
is_true false h = absurd h

pub below_is : (low : Bytes) (e : Pair) (es : List Pair) → T (below_all bytes_cmp low (e ∷ es)) → (bytes_cmp low e.0 ≡ Less) × T (below_all bytes_cmp low es)
below_is low e es h = (less_of (bytes_cmp low e.0) (is_true (is_lt (bytes_cmp low e.0)) (one (is_lt (bytes_cmp low e.0)) (below_all bytes_cmp low es) h)), other (is_lt (bytes_cmp low e.0)) (below_all bytes_cmp low es) h)

pub unnot : (b : Bool) → not b ≡ true → b ≡ false
unnot true e = absurd cc
unnot false e = refl

le_less : (x y z : Bytes) → le x y ≡ true → bytes_cmp y z ≡ Less → bytes_cmp x z ≡ Less
le_less x y z l s = less_of (bytes_cmp x z) (lt_is x z ∙ ap not (back (le z x) refl))
  where
    back : (t : Bool) → le z x ≡ t → le z x ≡ false
    back true e = absurd (true≢false (sym (le_trans z x y e l) ∙ unnot (le z y) (sym (lt_is y z) ∙ ap is_lt s)))
    back false e = e

module _ (element : ElementDef) (work : Work) (a high : Bytes) where
  abbrev pub keys : List Pair → List Bytes
  keys es = item_keys (scan_range_of element work) (within a high es)

  -- all are above what all entries are above
  pub above : (low : Bytes) (es : List Pair) (i : ℕ) (k : Bytes) → T (below_all bytes_cmp low es) → slice_get (keys es) i ≡ Some k → (bytes_cmp low k ≡ Less) × (bytes_cmp k high ≡ Less)
  above low [] i k h at = none_some at
  above low (e ∷ es) i k h at = by (above low es) (below_is low e es h) (is_within a high e.0) refl (is_item (scan_range_of element work) e.0) refl i at
    where
      by : ((j : ℕ) (x : Bytes) → T (below_all bytes_cmp low es) → slice_get (keys es) j ≡ Some x → (bytes_cmp low x ≡ Less) × (bytes_cmp x high ≡ Less)) → (bytes_cmp low e.0 ≡ Less) × T (below_all bytes_cmp low es)
          → (w : Bool) → is_within a high e.0 ≡ w → (t : Bool) → is_item (scan_range_of element work) e.0 ≡ t → (i : ℕ) → slice_get (item_keys (scan_range_of element work) (cond w (e ∷ within a high es) (within a high es))) i ≡ Some k → (bytes_cmp low k ≡ Less) × (bytes_cmp k high ≡ Less)
      by rest b false w t item i at = rest i k b.1 at
      by rest b true w false item i at = rest i k b.1 (sym (ap (λ l. slice_get l i) (item_keys-cons (scan_range_of element work) e (within a high es) false item)) ∙ at)
      by rest b true w true item zero at =
          let is : e.0 ≡ k = some_same (sym (ap (λ l. slice_get l 0) (item_keys-cons (scan_range_of element work) e (within a high es) true item)) ∙ at) in
          (subst (λ x. bytes_cmp low x ≡ Less) is b.0, subst (λ x. bytes_cmp x high ≡ Less) is (within_parts a high e.0 w).1)
      by rest b true w true item (suc i) at = rest i k b.1 (sym (ap (λ l. slice_get l (suc i)) (item_keys-cons (scan_range_of element work) e (within a high es) true item)) ∙ at)

  -- each but the first is above the lower bound
  pub later_above : (es : List Pair) (i : ℕ) (k : Bytes) → T (is_sorted bytes_cmp es) → slice_get (keys es) i ≡ Some k → 1 ≤ i → (bytes_cmp a k ≡ Less) × (bytes_cmp k high ≡ Less)
  later_above [] i k h at some = none_some at
  later_above (e ∷ es) i k h at some = by (later_above es) (one (below_all bytes_cmp e.0 es) (is_sorted bytes_cmp es) h) (other (below_all bytes_cmp e.0 es) (is_sorted bytes_cmp es) h) (is_within a high e.0) refl (is_item (scan_range_of element work) e.0) refl i at some
    where
      by : ((j : ℕ) (x : Bytes) → T (is_sorted bytes_cmp es) → slice_get (keys es) j ≡ Some x → 1 ≤ j → (bytes_cmp a x ≡ Less) × (bytes_cmp x high ≡ Less)) → T (below_all bytes_cmp e.0 es) → T (is_sorted bytes_cmp es)
          → (w : Bool) → is_within a high e.0 ≡ w → (t : Bool) → is_item (scan_range_of element work) e.0 ≡ t → (i : ℕ) → slice_get (item_keys (scan_range_of element work) (cond w (e ∷ within a high es) (within a high es))) i ≡ Some k → 1 ≤ i → (bytes_cmp a k ≡ Less) × (bytes_cmp k high ≡ Less)
      by rest b s false w t item i at some = rest i k s at some
      by rest b s true w false item i at some = rest i k s (sym (ap (λ l. slice_get l i) (item_keys-cons (scan_range_of element work) e (within a high es) false item)) ∙ at) some
      by rest b s true w true item zero at some = absurd (omega (arith, some))
      by rest b s true w true item (suc i) at some =
          let r = above e.0 es i k b (sym (ap (λ l. slice_get l (suc i)) (item_keys-cons (scan_range_of element work) e (within a high es) true item)) ∙ at) in
          (le_less a e.0 k (within_parts a high e.0 w).0 r.0, r.1)

-- the cursor that comes next is above the one before, and not past the end
pub comes_up : (element : ElementDef) (work : Work) (pairs : Pairs) (cursor high : Bytes) (limit : ℕ) → 1 ≤ limit → bytes_cmp cursor high ≡ Less → (bytes_cmp cursor (next_cursor (scan_range_of element work) pairs cursor high limit) ≡ Less) × (le (next_cursor (scan_range_of element work) pairs cursor high limit) high ≡ true)
comes_up element work pairs cursor high limit some less = by (slice_get (item_keys (scan_range_of element work) (key_range pairs cursor high)) limit) refl
  where
    by : (o : Option Bytes) → slice_get (item_keys (scan_range_of element work) (key_range pairs cursor high)) limit ≡ o → (bytes_cmp cursor (unwrap_or o high) ≡ Less) × (le (unwrap_or o high) high ≡ true)
    by None is = (less, le_itself high)
    by (Some k) is =
        let r = later_above element work cursor high (map.entries pairs) limit k (map.entries_sorted pairs) is some in
        (r.0, less_le k high r.1)
