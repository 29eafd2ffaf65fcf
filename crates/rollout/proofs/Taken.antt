-- A piece takes exactly so many items.
use Rattle.std.proofs.Common.{◌≡◌, ℕ, zero, suc, ◌+◌, Bool, true, false, cond, T, List, [], ◌∷◌, length, Option, Some, None, ◌⊎◌, inl, inr, refl, sym, ap, subst, ◌∙◌, arith, true≢false, length-append}
use Rattle.std.specs.Prelude.{slice_get, not, ◌&&◌}
use Rattle.std.specs.Option.{unwrap_or}
use Rattle.std.specs.declared.cmp.Ordering.TheVariants.{Less}
use Rattle.std.proofs.lemmas.List.Elements.{filter_map-append}
use Rattle.std.specs.FinMap as map
use Rattle.std.specs.FinMap.Entries.{is_sorted, below_all}
use Rattle.byte_map.specs.Walk.{within, is_within}
use Rattle.keycode.specs.Order.{bytes_cmp}
use Rattle.row_map.specs.Rows.{Bytes}
use Rattle.row_map.specs.Walk.{key_range}
use Rattle.schema_version.specs.declared.element.ElementDef.{ElementDef}
use Rattle.schema_version.specs.declared.element.Work.{Work}
use Rattle.schema_version.proofs.Entries.{one, other}
use Rattle.schema_version.proofs.Lists.{some_same}
use Rattle.reorganise.specs.ScanRanges.{scan_range_of, is_item, item_key, item_keys}
use Rattle.reorganise.proofs.Items.{Pair, item_keys-cons}
use Rattle.reorganise.proofs.Order.{le, le_itself, less_le, within_parts, parts_within, within_is, less_le_less, join}
use Rattle.rollout.specs.Left.{items_between, PiecesTakeItems}
use Rattle.rollout.proofs.Rises.{above, later_above, below_is}

none_some : {A B : Type 0} {x : A} → None ≡ Some x → B
none_some e = absurd cc

-- what is not within a wide range is not within a part of it
still_out : (a k high x : Bytes) → bytes_cmp k high ≡ Less → is_within a high x ≡ false → is_within a k x ≡ false
still_out a k high x lt out = by (is_within a k x) refl
  where
    by : (b : Bool) → is_within a k x ≡ b → b ≡ false
    by false is = refl
    by true is = (let p = within_parts a k x is in absurd (true≢false (sym (parts_within a high x p.0 (less_le_less x k high p.1 (less_le k high lt))) ∙ out)))

-- nothing from a bound on is below it
not_below : (a k x : Bytes) → le k x ≡ true → is_within a k x ≡ false
not_below a k x le_x = within_is a k x ∙ ap (λ (b : Bool). le a x && not b) le_x ∙ no (le a x)
  where
    no : (b : Bool) → (b && false) ≡ false
    no true = refl
    no false = refl

module _ (element : ElementDef) (work : Work) (a : Bytes) where
  taken_none : (k : Bytes) (es : List Pair) → T (below_all bytes_cmp k es) → within a k es ≡ []
  taken_none k [] h = refl
  taken_none k (e ∷ es) h =
      let b = below_is k e es h in
      ap (λ (t : Bool). cond t (e ∷ within a k es) (within a k es)) (not_below a k e.0 (less_le k e.0 b.0)) ∙ taken_none k es b.1

  taken : (high : Bytes) (es : List Pair) (i : ℕ) (k : Bytes) → T (is_sorted bytes_cmp es) → slice_get (item_keys (scan_range_of element work) (within a high es)) i ≡ Some k → length (item_keys (scan_range_of element work) (within a k es)) ≡ i
  taken high [] i k h at = none_some at
  taken high (e ∷ es) i k h at =
      by (λ j at. taken high es j k (other (below_all bytes_cmp e.0 es) (is_sorted bytes_cmp es) h) at) (λ j at. above element work a high e.0 es j k (one (below_all bytes_cmp e.0 es) (is_sorted bytes_cmp es) h) at)
      (one (below_all bytes_cmp e.0 es) (is_sorted bytes_cmp es) h) (is_within a high e.0) refl (is_item (scan_range_of element work) e.0) refl i at
    where
      by : ((j : ℕ) → slice_get (item_keys (scan_range_of element work) (within a high es)) j ≡ Some k → length (item_keys (scan_range_of element work) (within a k es)) ≡ j)
          → ((j : ℕ) → slice_get (item_keys (scan_range_of element work) (within a high es)) j ≡ Some k → (bytes_cmp e.0 k ≡ Less) × (bytes_cmp k high ≡ Less))
          → T (below_all bytes_cmp e.0 es) → (w : Bool) → is_within a high e.0 ≡ w → (t : Bool) → is_item (scan_range_of element work) e.0 ≡ t
          → (i : ℕ) → slice_get (item_keys (scan_range_of element work) (cond w (e ∷ within a high es) (within a high es))) i ≡ Some k → length (item_keys (scan_range_of element work) (cond (is_within a k e.0) (e ∷ within a k es) (within a k es))) ≡ i
      by rest up b false w t item i at =
          ap (λ (x : Bool). length (item_keys (scan_range_of element work) (cond x (e ∷ within a k es) (within a k es)))) (still_out a k high e.0 (up i at).1 w) ∙ rest i at
      by rest up b true w false item i at =
          no_item (is_within a k e.0) ∙ rest i (sym (ap (λ l. slice_get l i) (item_keys-cons (scan_range_of element work) e (within a high es) false item)) ∙ at)
        where
          no_item : (x : Bool) → length (item_keys (scan_range_of element work) (cond x (e ∷ within a k es) (within a k es))) ≡ length (item_keys (scan_range_of element work) (within a k es))
          no_item true = ap length (item_keys-cons (scan_range_of element work) e (within a k es) false item)
          no_item false = refl
      by rest up b true w true item zero at =
          let is : e.0 ≡ k = some_same (sym (ap (λ l. slice_get l 0) (item_keys-cons (scan_range_of element work) e (within a high es) true item)) ∙ at) in
          ap (λ (x : Bool). length (item_keys (scan_range_of element work) (cond x (e ∷ within a k es) (within a k es)))) (not_below a k e.0 (ap (λ y. le y e.0) (sym is) ∙ le_itself e.0))
          ∙ ap (λ l. length (item_keys (scan_range_of element work) l)) (taken_none k es (subst (λ y. T (below_all bytes_cmp y es)) is b))
      by rest up b true w true item (suc i) at =
          let next = sym (ap (λ l. slice_get l (suc i)) (item_keys-cons (scan_range_of element work) e (within a high es) true item)) ∙ at in
          let inside : is_within a k e.0 ≡ true = parts_within a k e.0 (within_parts a high e.0 w).0 (up i next).0 in
          ap (λ (x : Bool). length (item_keys (scan_range_of element work) (cond x (e ∷ within a k es) (within a k es)))) inside
          ∙ ap length (item_keys-cons (scan_range_of element work) e (within a k es) true item) ∙ ap suc (rest i next)

pub pieces_take_items : PiecesTakeItems
pieces_take_items element work pairs cursor high limit some less = by (slice_get (item_keys (scan_range_of element work) (key_range pairs cursor high)) limit) refl
  where
    by : (o : Option Bytes) → slice_get (item_keys (scan_range_of element work) (key_range pairs cursor high)) limit ≡ o
        → (unwrap_or o high ≡ high) ⊎ (items_between element work pairs (unwrap_or o high) high + limit ≡ items_between element work pairs cursor high)
    by None is = inl refl
    by (Some k) is =
        let r = later_above element work cursor high (map.entries pairs) limit k (map.entries_sorted pairs) is some in
        let count : items_between element work pairs cursor k ≡ limit = taken element work cursor high (map.entries pairs) limit k (map.entries_sorted pairs) is in
        let parts : items_between element work pairs cursor high ≡ items_between element work pairs cursor k + items_between element work pairs k high =
        ap (λ l. length (item_keys (scan_range_of element work) l)) (join pairs cursor k high (less_le cursor k r.0) (less_le k high r.1))
        ∙ ap length (filter_map-append (item_key (scan_range_of element work)) (key_range pairs cursor k) (key_range pairs k high))
        ∙ length-append (item_keys (scan_range_of element work) (key_range pairs cursor k)) (item_keys (scan_range_of element work) (key_range pairs k high)) in
        inr (omega (arith, count, parts))
