-- What a piece takes of the items and the pieces that are left.
use Rattle.std.proofs.Common.{◌≡◌, ℕ, zero, suc, ◌+◌, ◌*◌, ◌≤◌, Bool, true, false, cond, List, [], ◌∷◌, length, Some, None, ◌⊎◌, inl, inr, sym, ap, subst, ◌∙◌, arith}
use Rattle.std.specs.Prelude.{slice_get}
use Rattle.std.specs.Ordering.{is_eq}
use Rattle.std.specs.declared.cmp.Ordering.TheVariants.{Less}
use Rattle.keycode.specs.Order.{bytes_cmp}
use Rattle.row_map.specs.Rows.{Bytes, Pairs}
use Rattle.byte_map.proofs.Order.{bytes_cmp_total, bytes_cmp-IsAntisymmetric}
use Rattle.byte_map.proofs.Written.{tied}
use Rattle.schema_version.specs.declared.element.ElementDef.{ElementDef}
use Rattle.schema_version.specs.declared.element.Work.{Work}
use Rattle.schema_version.proofs.Lists.{some_same}
use Rattle.reorganise.specs.declared.work.Span.{Span}
use Rattle.reorganise.specs.Left.{left_in}
use Rattle.reorganise.specs.Laws.{with_cursor}
use Rattle.reorganise.specs.Pieces.{is_ended, next_cursor}
use Rattle.reorganise.specs.ScanRanges.{scan_range_of, item_keys}
use Rattle.reorganise.proofs.Order.{key_range_itself}
use Rattle.rollout.specs.Left.{items_between}
use Rattle.rollout.specs.Pieces.{open_pieces}
use Rattle.rollout.proofs.Fewer.{HasItemsOf, fewer_items}
use Rattle.rollout.proofs.Taken.{pieces_take_items}

none_some : {A B : Type 0} {x : A} → None ≡ Some x → B
none_some e = absurd cc

-- no more are left if the items were items before
pub fewer_left : (e : ElementDef) (w : Work) (P Q : Pairs) → HasItemsOf e w P Q → (pieces : List Span) → left_in (scan_range_of e w) Q pieces ≤ left_in (scan_range_of e w) P pieces
fewer_left e w P Q has [] = omega arith
fewer_left e w P Q has (s ∷ ss) =
    let here = fewer_items e w P Q has s.cursor s.high in
    let rest = fewer_left e w P Q has ss in
    omega (arith, here, rest)

one_at_most : (b : Bool) → cond b 0 1 ≤ 1
one_at_most true = omega arith
one_at_most false = omega arith

-- ---- one cursor

module _ (e : ElementDef) (w : Work) (P : Pairs) (limit : ℕ) (some : 1 ≤ limit) where
  abbrev pub count : List Span → ℕ
  count pieces = left_in (scan_range_of e w) P pieces + limit * open_pieces pieces

  times : (a b : ℕ) → limit * (a + b) ≡ limit * a + limit * b
  times a b = grind arith

  less_times : (a b : ℕ) → a ≤ b → limit * a ≤ limit * b
  less_times a b le = grind (arith, le)

  -- the piece of the cursor ends, or so many of its items are taken
  one_moved : (s : Span) → bytes_cmp s.cursor s.high ≡ Less → (to : Bytes) → to ≡ next_cursor (scan_range_of e w) P s.cursor s.high limit
      → items_between e w P to s.high + limit * cond (is_ended (record s { cursor = to })) 0 1 + limit ≤ items_between e w P s.cursor s.high + limit * cond (is_ended s) 0 1
  one_moved s less to is = by (pieces_take_items e w P s.cursor s.high limit some less)
    where
      opened : limit * cond (is_ended s) 0 1 ≡ limit
      opened = ap (λ (o : _). limit * cond (is_eq o) 0 1) less ∙ (grind arith)

      ends : to ≡ s.high → items_between e w P to s.high + limit * cond (is_ended (record s { cursor = to })) 0 1 ≡ 0
      ends at =
          let none : items_between e w P to s.high ≡ 0 = ap (λ (x : Bytes). items_between e w P x s.high) at ∙ ap (λ ps. length (item_keys (scan_range_of e w) ps)) (key_range_itself P s.high) in
          let shut : limit * cond (is_ended (record s { cursor = to })) 0 1 ≡ 0 = ap (λ (x : Bytes). limit * cond (is_eq (bytes_cmp x s.high)) 0 1) at ∙ ap (λ (b : Bool). limit * cond b 0 1) (tied bytes_cmp_total bytes_cmp-IsAntisymmetric s.high) ∙ (grind arith) in
          omega (arith, none, shut)

      by : (next_cursor (scan_range_of e w) P s.cursor s.high limit ≡ s.high) ⊎ (items_between e w P (next_cursor (scan_range_of e w) P s.cursor s.high limit) s.high + limit ≡ items_between e w P s.cursor s.high)
          → items_between e w P to s.high + limit * cond (is_ended (record s { cursor = to })) 0 1 + limit ≤ items_between e w P s.cursor s.high + limit * cond (is_ended s) 0 1
      by (inl at) = let z = ends (is ∙ at) in let o = opened in omega (arith, z, o)
      by (inr took) =
          let t : items_between e w P to s.high + limit ≡ items_between e w P s.cursor s.high = ap (λ (x : Bytes). items_between e w P x s.high + limit) is ∙ took in
          let m = less_times (cond (is_ended (record s { cursor = to })) 0 1) 1 (one_at_most (is_ended (record s { cursor = to }))) in
          let one : limit * 1 ≡ limit = grind arith in
          let o = opened in
          omega (arith, t, m, one, o)

  -- the same for all pieces
  pub moved_count : (pieces : List Span) (piece : ℕ) (s : Span) → slice_get pieces piece ≡ Some s → bytes_cmp s.cursor s.high ≡ Less → (to : Bytes) → to ≡ next_cursor (scan_range_of e w) P s.cursor s.high limit
      → count (with_cursor piece to pieces) + limit ≤ count pieces
  moved_count [] piece s here less to is = none_some here
  moved_count (q ∷ qs) zero s here less to is =
      let same : q ≡ s = some_same here in
      let one = subst (λ (r : Span). items_between e w P to r.high + limit * cond (is_ended (record r { cursor = to })) 0 1 + limit ≤ items_between e w P r.cursor r.high + limit * cond (is_ended r) 0 1) (sym same) (one_moved s less to is) in
      let new = times (cond (is_ended (record q { cursor = to })) 0 1) (open_pieces qs) in
      let old = times (cond (is_ended q) 0 1) (open_pieces qs) in
      omega (arith, one, new, old)
  moved_count (q ∷ qs) (suc piece) s here less to is =
      let rest = moved_count qs piece s here less to is in
      let new = times (cond (is_ended q) 0 1) (open_pieces (with_cursor piece to qs)) in
      let old = times (cond (is_ended q) 0 1) (open_pieces qs) in
      omega (arith, rest, new, old)
