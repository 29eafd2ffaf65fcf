-- A store whose items are all among those of another has no more of them.
use Rattle.std.proofs.Common.{◌≡◌, ◌≤◌, Bool, true, false, cond, T, List, [], ◌∷◌, length, Some, None, ◌⊎◌, inl, inr, refl, sym, ap, subst, ◌∙◌, arith, true≢false}
use Rattle.std.specs.Prelude.{not}
use Rattle.std.specs.Ordering.{is_lt}
use Rattle.std.specs.declared.cmp.Ordering.TheVariants.{Less}
use Rattle.std.specs.FinMap as map
use Rattle.std.specs.FinMap.Entries.{find, is_sorted, below_all}
use Rattle.byte_map.proofs.Order.{bytes_cmp_total, bytes_cmp-IsAntisymmetric}
use Rattle.byte_map.proofs.Written.{same_or_apart, tied, apart}
use Rattle.keycode.specs.Order.{bytes_cmp}
use Rattle.row_map.specs.Rows.{Bytes, Pairs}
use Rattle.row_map.specs.Ranges.{is_within}
use Rattle.row_map.specs.Walk.{key_range}
use Rattle.row_map.proofs.KeyRanges.{find_key_range, key_range_sorted, is_true}
use Rattle.schema_version.proofs.Entries.{one, other}
use Rattle.element_state.specs.Items.{IsIn}
use Rattle.schema_version.specs.declared.element.ElementDef.{ElementDef}
use Rattle.schema_version.specs.declared.element.Work.{Work}
use Rattle.reorganise.specs.ScanRanges.{scan_range_of, is_item, item_keys}
use Rattle.reorganise.proofs.Items.{Pair, item_keys-cons}
use Rattle.reorganise.proofs.Order.{le_itself, less_le, less_of, lt_is, less_le_less, some_in}

-- ---- keys that rise strictly

pub not_itself : {A : Type 0} (x : Bytes) → bytes_cmp x x ≡ Less → A
not_itself x e = absurd (true≢false (sym (ap is_lt e) ∙ lt_is x x ∙ ap not (le_itself x)))

abbrev pub AreStrict : List Bytes → Type 0
AreStrict [] = Unit {0}
AreStrict (x ∷ xs) = ((y : Bytes) → IsIn y xs → bytes_cmp x y ≡ Less) × AreStrict xs

-- if all of them are among others, there are no more than those
pub no_more : (xs ys : List Bytes) → AreStrict xs → AreStrict ys → ((z : Bytes) → IsIn z xs → IsIn z ys) → length xs ≤ length ys
no_more [] ys s t sub = omega arith
no_more (x ∷ xs) [] s t sub = absurd (sub x (inl refl))
no_more (x ∷ xs) (y ∷ ys) s t sub = by (no_more xs ys s.1 t.1) (no_more (x ∷ xs) ys s t.1) (sub x (inl refl))
  where
    apart_from : (x ≡ y) → (z : Bytes) → IsIn z xs → (z ≡ y) ⊎ IsIn z ys → IsIn z ys
    apart_from e z m (inl is) = not_itself x (subst (λ (w : Bytes). bytes_cmp x w ≡ Less) (is ∙ sym e) (s.0 z m))
    apart_from e z m (inr later) = later

    above : IsIn x ys → (z : Bytes) → (z ≡ x) ⊎ IsIn z xs → bytes_cmp y z ≡ Less
    above later z (inl is) = subst (λ (w : Bytes). bytes_cmp y w ≡ Less) (sym is) (t.0 x later)
    above later z (inr m) = less_le_less y x z (t.0 x later) (less_le x z (s.0 z m))

    after : IsIn x ys → (z : Bytes) → (z ≡ x) ⊎ IsIn z xs → (z ≡ y) ⊎ IsIn z ys → IsIn z ys
    after later z m (inl is) = not_itself y (subst (λ (w : Bytes). bytes_cmp y w ≡ Less) is (above later z m))
    after later z m (inr there) = there

    by : (((z : Bytes) → IsIn z xs → IsIn z ys) → length xs ≤ length ys) → (((z : Bytes) → IsIn z (x ∷ xs) → IsIn z ys) → length (x ∷ xs) ≤ length ys) → (x ≡ y) ⊎ IsIn x ys → length (x ∷ xs) ≤ length (y ∷ ys)
    by both first (inl e) = let rest = both (λ z m. apart_from e z m (sub z (inr m))) in omega (arith, rest)
    by both first (inr later) = let rest = first (λ z m. after later z m (sub z m)) in omega (arith, rest)

-- ---- the keys of items

below_parts : (low : Bytes) (e : Pair) (es : List Pair) → T (below_all bytes_cmp low (e ∷ es)) → (bytes_cmp low e.0 ≡ Less) × T (below_all bytes_cmp low es)
below_parts low e es h = (less_of (bytes_cmp low e.0) (is_true (is_lt (bytes_cmp low e.0)) (one (is_lt (bytes_cmp low e.0)) (below_all bytes_cmp low es) h)), other (is_lt (bytes_cmp low e.0)) (below_all bytes_cmp low es) h)

module _ (element : ElementDef) (work : Work) where
  all_above : (k : Bytes) (es : List Pair) → T (below_all bytes_cmp k es) → (y : Bytes) → IsIn y (item_keys (scan_range_of element work) es) → bytes_cmp k y ≡ Less
  all_above k [] h y m = absurd m
  all_above k (e ∷ es) h y m = by (is_item (scan_range_of element work) e.0) refl (all_above k es (below_parts k e es h).1 y)
    where
      here : (IsIn y (item_keys (scan_range_of element work) es) → bytes_cmp k y ≡ Less) → (y ≡ e.0) ⊎ IsIn y (item_keys (scan_range_of element work) es) → bytes_cmp k y ≡ Less
      here rest (inl is) = subst (λ (w : Bytes). bytes_cmp k w ≡ Less) (sym is) (below_parts k e es h).0
      here rest (inr later) = rest later

      by : (b : Bool) → is_item (scan_range_of element work) e.0 ≡ b → (IsIn y (item_keys (scan_range_of element work) es) → bytes_cmp k y ≡ Less) → bytes_cmp k y ≡ Less
      by true is rest = here rest (subst (IsIn y) (item_keys-cons (scan_range_of element work) e es true is) m)
      by false is rest = rest (subst (IsIn y) (item_keys-cons (scan_range_of element work) e es false is) m)

  pub keys_strict : (es : List Pair) → T (is_sorted bytes_cmp es) → AreStrict (item_keys (scan_range_of element work) es)
  keys_strict [] h = tt
  keys_strict (e ∷ es) h = by (is_item (scan_range_of element work) e.0) refl (keys_strict es (other (below_all bytes_cmp e.0 es) (is_sorted bytes_cmp es) h))
    where
      by : (b : Bool) → is_item (scan_range_of element work) e.0 ≡ b → AreStrict (item_keys (scan_range_of element work) es) → AreStrict (item_keys (scan_range_of element work) (e ∷ es))
      by true is rest = subst AreStrict (sym (item_keys-cons (scan_range_of element work) e es true is)) (all_above e.0 es (one (below_all bytes_cmp e.0 es) (is_sorted bytes_cmp es) h), rest)
      by false is rest = subst AreStrict (sym (item_keys-cons (scan_range_of element work) e es false is)) rest

  -- an item is found
  pub record IsFound (es : List Pair) (x : Bytes) : Type 0 where
    pub item : is_item (scan_range_of element work) x ≡ true
    pub value : Bytes
    pub found : find bytes_cmp x es ≡ Some value

  found_of : (es : List Pair) → T (is_sorted bytes_cmp es) → (x : Bytes) → IsIn x (item_keys (scan_range_of element work) es) → IsFound es x
  found_of [] h x m = absurd m
  found_of (e ∷ es) h x m = by (is_item (scan_range_of element work) e.0) refl (found_of es (other (below_all bytes_cmp e.0 es) (is_sorted bytes_cmp es) h) x)
    where
      above : IsIn x (item_keys (scan_range_of element work) es) → bytes_cmp e.0 x ≡ Less
      above later = all_above e.0 es (one (below_all bytes_cmp e.0 es) (is_sorted bytes_cmp es) h) x later

      behind : IsIn x (item_keys (scan_range_of element work) es) → IsFound es x → IsFound (e ∷ es) x
      behind later f =
          let off = apart bytes_cmp_total bytes_cmp-IsAntisymmetric x e.0 (λ is. not_itself e.0 (subst (λ (w : Bytes). bytes_cmp e.0 w ≡ Less) is (above later))) in
          record { item = f.item; value = f.value; found = ap (λ (t : Bool). cond t (Some e.1) (find bytes_cmp x es)) off ∙ f.found }

      here : is_item (scan_range_of element work) e.0 ≡ true → (IsIn x (item_keys (scan_range_of element work) es) → IsFound es x) → (x ≡ e.0) ⊎ IsIn x (item_keys (scan_range_of element work) es) → IsFound (e ∷ es) x
      here item rest (inl is) =
          subst (IsFound (e ∷ es)) (sym is) (record { item = item; value = e.1; found = ap (λ (t : Bool). cond t (Some e.1) (find bytes_cmp e.0 es)) (tied bytes_cmp_total bytes_cmp-IsAntisymmetric e.0) })
      here item rest (inr later) = behind later (rest later)

      by : (b : Bool) → is_item (scan_range_of element work) e.0 ≡ b → (IsIn x (item_keys (scan_range_of element work) es) → IsFound es x) → IsFound (e ∷ es) x
      by true is rest = here is rest (subst (IsIn x) (item_keys-cons (scan_range_of element work) e es true is) m)
      by false is rest = let later = subst (IsIn x) (item_keys-cons (scan_range_of element work) e es false is) m in behind later (rest later)

  in_keys : (es : List Pair) (x v : Bytes) → is_item (scan_range_of element work) x ≡ true → find bytes_cmp x es ≡ Some v → IsIn x (item_keys (scan_range_of element work) es)
  in_keys [] x v item at = absurd cc
  in_keys (e ∷ es) x v item at = elim (same_or_apart bytes_cmp_total bytes_cmp-IsAntisymmetric x e.0) [
    | inl is ↦ subst (IsIn x) (sym (item_keys-cons (scan_range_of element work) e es true (ap (is_item (scan_range_of element work)) (sym is) ∙ item))) (inl is)
    | inr ne ↦ later (is_item (scan_range_of element work) e.0) refl (in_keys es x v item (sym (ap (λ (t : Bool). cond t (Some e.1) (find bytes_cmp x es)) (apart bytes_cmp_total bytes_cmp-IsAntisymmetric x e.0 ne)) ∙ at))
  ]
    where
      later : (b : Bool) → is_item (scan_range_of element work) e.0 ≡ b → IsIn x (item_keys (scan_range_of element work) es) → IsIn x (item_keys (scan_range_of element work) (e ∷ es))
      later true is m = subst (IsIn x) (sym (item_keys-cons (scan_range_of element work) e es true is)) (inr m)
      later false is m = subst (IsIn x) (sym (item_keys-cons (scan_range_of element work) e es false is)) m

-- ---- of a store

-- each item of the one store is a key of the other
abbrev pub HasItemsOf : ElementDef → Work → Pairs → Pairs → Type 0
HasItemsOf element work P Q = (x v : Bytes) → is_item (scan_range_of element work) x ≡ true → map.get Q x ≡ Some v → (w : Bytes) × (map.get P x ≡ Some w)

-- an item between two keys of a store is one of its items
pub item_there : (element : ElementDef) (work : Work) (P : Pairs) (low high x : Bytes) → IsIn x (item_keys (scan_range_of element work) (key_range P low high)) → (is_item (scan_range_of element work) x ≡ true) × (is_within low high x ≡ true) × ((v : Bytes) × (map.get P x ≡ Some v))
item_there element work P low high x m =
    let f = found_of element work (key_range P low high) (key_range_sorted P low high) x m in
    let there = some_in (is_within low high x) (map.get P x) f.value (sym (find_key_range P low high x) ∙ f.found) in
    (f.item, there.0, (f.value, there.1))

pub fewer_items : (element : ElementDef) (work : Work) (P Q : Pairs) → HasItemsOf element work P Q → (low high : Bytes) → length (item_keys (scan_range_of element work) (key_range Q low high)) ≤ length (item_keys (scan_range_of element work) (key_range P low high))
fewer_items element work P Q has low high =
    no_more (item_keys (scan_range_of element work) (key_range Q low high)) (item_keys (scan_range_of element work) (key_range P low high)) (keys_strict element work (key_range Q low high) (key_range_sorted Q low high)) (keys_strict element work (key_range P low high) (key_range_sorted P low high))
    (λ x m.
    let t = item_there element work Q low high x m in
    let w = has x t.2.0 t.0 t.2.1 in
    in_keys element work (key_range P low high) x w.0 t.0 (find_key_range P low high x ∙ ap (λ (b : Bool). cond b (map.get P x) None) t.1 ∙ w.1))
