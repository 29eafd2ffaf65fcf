-- Why pieces, up to their cursors, keep what the core keeps, and what ended ones come to.
use Rattle.std.specs.Prelude.{refl, ◌≡◌, ◌⊎◌, ℕ, zero, suc, ◌+◌, ◌<◌, ◌^◌, ◌&&◌, true, IsTrue, List, [], ◌∷◌, Some}
use Rattle.std.specs.List.{AllByRecursion}
use Rattle.std.specs.FinMap.{get, entries}
use Rattle.std.proofs.Common.{sym, ap, subst, ◌∙◌, inl, inr}
use Rattle.keycode.specs.Order.{bytes_cmp}
use Rattle.row_map.specs.Rows.{Bytes, RowKey, Cells, Rows, row_cmp}
use Rattle.row_map.specs.Writes.{written_all}
use Rattle.row_map.specs.Ranges.{is_within, table_prefix}
use Rattle.row_map.proofs.Orders.{row_cmp_total, row_cmp-IsAntisymmetric}
use Rattle.row_map.proofs.Entries.{each_entry}
use Rattle.row_map.proofs.Ranges.{row_not_before, row_before_next}
use Rattle.element_state.specs.Elements.{IsKeyOfElement, Subset}
use Rattle.element_state.specs.Laws.{Laws}
use Rattle.element_state.specs.Exists.{row_key}
use Rattle.element_state.specs.Items.{fill_puts, Between, clear_writes, ClearRange, IsBound, ClearFacts}
use Rattle.element_state.specs.lemmas.Clears.{entry_kept, facts_kept, both_true, test_between}
use Rattle.element_state.specs.Schemas.{Entry, Kinds}
use Rattle.schema_version.specs.declared.element.Work.TheVariants.{Fill, Clear}
use Rattle.element_state.specs.Core.{Reached, PassedSpan, InPassedSpans, Core, Invariant}
use Rattle.element_state.specs.Pieces.{moved}
use Rattle.element_state.proofs.Pieces.{AreRows, fill_puts-filled, fill_writes, fill_kept, clear_kept}
use Rattle.element_state.specs.Publish.{FillEnded, ClearEnded}
use Rattle.element_state.proofs.Publications.{subset_meets}
use Rattle.element_state.specs.Ended.{Piece, passed_spans, AreJoined, HaveEnded}
use Rattle.element_state.proofs.Ended.{less_or_not, all_passed}
use Rattle.element_state.specs.lemmas.Apart.{below_next, some_one}
use Rattle.element_state.specs.Reaches.{with_cursor, cursor_at, fill_items}

-- what has been passed since
passed_since : (place : ℕ) (to : Bytes) (spans : List PassedSpan) (x : Bytes) → InPassedSpans (with_cursor place to spans) x → InPassedSpans spans x ⊎ Between (cursor_at place spans) to x
passed_since place to [] x at = absurd at
passed_since zero to (s ∷ ss) x at = elim at [
  | inl here ↦ elim (less_or_not (bytes_cmp x s.cursor)) [ inl below ↦ inl (inl (here.0, below)) | inr above ↦ inr (above, here.1) ]
  | inr later ↦ inl (inr later)
]
passed_since (suc place) to (s ∷ ss) x at = elim at [
  | inl here ↦ inl (inl here)
  | inr later ↦ elim (passed_since place to ss x later) [ inl was ↦ inl (inr was) | inr between ↦ inr between ]
]

-- entries of the rows are rows of theirs
pub rows_there : (R : Rows) (es : List (RowKey × Cells)) (P : RowKey × Cells → Type 0) → AllByRecursion (λ (e : RowKey × Cells). (get R e.0 ≡ Some e.1) × P e) es → AreRows R es
rows_there R [] P h = tt
rows_there R (e ∷ es) P h = (h.0.0, rows_there R es P h.1)

module _ {K : Type 0} (ks : Kinds K) where
  -- a piece of a fill puts the pair of each row from the old cursor to below the new one
  pub fill_piece_kept : (w : Core K) (n : ℕ) (f : Entry K) (old : List PassedSpan) (place : ℕ) (to : Bytes) → Invariant ks w → get w.newest n ≡ Some f → get w.progress n ≡ Some (record { work = Fill; spans = old })
      → Invariant ks (moved ks w n (record { work = Fill; spans = with_cursor place to old }) (written_all w.pairs (fill_writes (ks.meaning n f.kind) (fill_items ks (ks.meaning n f.kind) w.rows (cursor_at place old) to))))
  fill_piece_kept w n f old place to i is begun =
      let m = ks.meaning n f.kind in
      let law : Laws m = ks.laws n f.kind (i.lawful_newest n f is) in
      let test = λ (e : RowKey × Cells). m.serves e.0.0 && is_within (cursor_at place old) to (row_key e.0) in
      fill_kept ks w n f old (with_cursor place to old) (fill_items ks m w.rows (cursor_at place old) to) i is begun
      (rows_there w.rows (fill_items ks m w.rows (cursor_at place old) to) (λ e. test e ≡ true)
      (facts_kept row_cmp_total row_cmp-IsAntisymmetric test (λ (e : RowKey × Cells). get w.rows e.0 ≡ Some e.1) (entries w.rows)
      (each_entry row_cmp row_cmp_total row_cmp-IsAntisymmetric (λ k r. get w.rows k ≡ Some r) w.rows (λ k r at. at))))
      (λ j r there has at. elim (passed_since place to old (row_key j) at) [
        | inl was ↦ inl was
        | inr between ↦ inr (entry_kept row_cmp_total row_cmp-IsAntisymmetric test w.rows j r there (both_true _ _ (law.served j r has.0 has.1) (test_between (cursor_at place old) to (row_key j) between)))
      ])

  -- the same in what `fill_of` gives for each row
  pub fill_puts_kept : (w : Core K) (n : ℕ) (f : Entry K) (old : List PassedSpan) (place : ℕ) (to : Bytes) → Invariant ks w → get w.newest n ≡ Some f → get w.progress n ≡ Some (record { work = Fill; spans = old })
      → Invariant ks (moved ks w n (record { work = Fill; spans = with_cursor place to old }) (written_all w.pairs (fill_puts (ks.meaning n f.kind) (fill_items ks (ks.meaning n f.kind) w.rows (cursor_at place old) to))))
  fill_puts_kept w n f old place to i is begun =
      let m = ks.meaning n f.kind in
      let r : Reached ks n (record { work = Fill; spans = old }) w.before w.newest w.pairs w.rows = i.reached n _ begun in
      let same : r.kind ≡ f.kind = sym r.kind_is ∙ ap (λ (e : Entry K). e.kind) (some_one r.entry f (sym r.entry_is ∙ is)) in
      let filled : IsTrue (m.filled) = subst (λ k. IsTrue ((ks.meaning n k).filled)) same (r.filled refl) in
      subst (λ ws. Invariant ks (moved ks w n (record { work = Fill; spans = with_cursor place to old }) (written_all w.pairs ws))) (sym (fill_puts-filled m filled (fill_items ks m w.rows (cursor_at place old) to)))
      (fill_piece_kept w n f old place to i is begun)

  -- a piece of a clear takes each item from the old cursor to below the new one away
  pub clear_piece_kept : (w : Core K) (n : ℕ) (f : Entry K) (old : List PassedSpan) (place : ℕ) (to : Bytes) (range : ClearRange) → ClearFacts (ks.meaning n f.kind) range → Invariant ks w
      → get w.newest n ≡ Some f → get w.progress n ≡ Some (record { work = Clear; spans = old }) → IsBound range.bounds (cursor_at place old) → IsBound range.bounds to
      → Invariant ks (moved ks w n (record { work = Clear; spans = with_cursor place to old }) (written_all w.pairs (clear_writes (range.items w.rows w.pairs (cursor_at place old) to))))
  clear_piece_kept w n f old place to range facts i is begun from_bound to_bound =
      let m = ks.meaning n f.kind in
      let sub : Subset m w.pairs w.rows = subset_meets ks n f.kind (get w.newest n) w.pairs w.rows (λ d at. ap (λ (e : Entry K). e.kind) (some_one d f (sym at ∙ is))) (i.newest n) in
      clear_kept ks w n old (with_cursor place to old) (range.items w.rows w.pairs (cursor_at place old) to) i begun
      (λ x at. subst (λ y. IsKeyOfElement y x) (ks.numbered n f.kind) (facts.owned w.rows w.pairs (cursor_at place old) to x i.held i.formed at))
      (λ x v own there at. elim (passed_since place to old x at) [
        | inl was ↦ inl was
        | inr between ↦ inr (facts.reach w.rows w.pairs (cursor_at place old) to x v i.held sub from_bound to_bound (own ∙ ap Some (sym (ks.numbered n f.kind))) there between)
      ])

  -- a fill whose pieces join one another over the table's range and have all ended has passed each row that has a pair
  pub fill_ended : (w : Core K) (n : ℕ) (k : K) (table : ℕ) (ps : List Piece) → Laws (ks.meaning n k) → ((t : ℕ) → IsTrue ((ks.meaning n k).serves t) → t ≡ table) → table + 1 < 2 ^ 32
      → get w.progress n ≡ Some (record { work = Fill; spans = passed_spans ps }) → AreJoined (table_prefix table) (table_prefix (table + 1)) ps → HaveEnded ps → FillEnded ks w n k
  fill_ended w n k table ps law one fits begun joined ended = record {
    spans = passed_spans ps;
    begun = begun;
    all = λ l r v at val.
        let tables : l.0 ≡ table = one l.0 (law.served l r v val) in
        all_passed ps (table_prefix table) (table_prefix (table + 1)) (row_key l) joined ended
        (λ e. row_not_before l.0 l.1 0 (subst (λ (t : ℕ). t < 2 ^ 32) (sym tables) (below_next table (2 ^ 32) fits)) (ap (λ t. bytes_cmp (row_key l) (table_prefix t)) tables ∙ e))
        (ap (λ t. bytes_cmp (row_key l) (table_prefix (t + 1))) (sym tables) ∙ row_before_next l.0 l.1 0 (subst (λ (t : ℕ). t + 1 < 2 ^ 32) (sym tables) fits));
  }

  -- a clear whose pieces join one another over its range and have all ended has passed each pair of the element
  pub clear_ended : (w : Core K) (n : ℕ) (f : Entry K) (range : ClearRange) (ps : List Piece) → ClearFacts (ks.meaning n f.kind) range → Invariant ks w → get w.newest n ≡ Some f
      → get w.progress n ≡ Some (record { work = Clear; spans = passed_spans ps }) → AreJoined range.low range.high ps → HaveEnded ps → ClearEnded ks w n
  clear_ended w n f range ps facts i is begun joined ended =
      let m = ks.meaning n f.kind in
      let sub : Subset m w.pairs w.rows = subset_meets ks n f.kind (get w.newest n) w.pairs w.rows (λ d at. ap (λ (e : Entry K). e.kind) (some_one d f (sym at ∙ is))) (i.newest n) in
      record {
        spans = passed_spans ps;
        begun = begun;
        all = λ x v own there.
            let inside : Between range.low range.high x = facts.whole w.rows w.pairs x v i.held sub (own ∙ ap Some (sym (ks.numbered n f.kind))) there in
            all_passed ps range.low range.high x joined ended inside.0 inside.1;
      }
