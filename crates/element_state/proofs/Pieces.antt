-- Why a piece keeps what the core keeps, whatever its items.
use Rattle.std.specs.Prelude.{IsTrue, cond, option_map, ◌≡◌, ◌≢◌, ◌⊎◌, ℕ, List, [], ◌∷◌, ◌++◌, Option, Some, None, refl}
use Rattle.std.specs.FinMap.{get, insert, nat_cmp-IsAntisymmetric}
use Rattle.std.specs.Cmp.{nat_cmp_total}
use Rattle.std.proofs.Common.{ap₂, sym, ap, subst, ◌∙◌, inl, inr}
use Rattle.keycode.proofs.Orders.{bytes_cmp_total, bytes_cmp-IsAntisymmetric}
use Rattle.row_map.specs.Rows.{Bytes, RowKey, Cells, Rows, Pairs, AreStorable}
use Rattle.row_map.specs.Writes.{Writes, written, written_all, AllKeys}
use Rattle.byte_map.proofs.Written.{written_all-append, written_all-outside, written_all-keys, written_here, written_apart, AllKeys-map}
use Rattle.schema_version.specs.declared.element.ElementState.{ElementState}
use Rattle.schema_version.specs.declared.element.ElementState.TheVariants.{Absent, DeleteOnly, WriteOnly, Public}
use Rattle.element_state.specs.Elements.{owner, AreFormed, HasForm, IsKeyOfElement, form_named, owner_named, Meaning, CoveredAt, Demand}
use Rattle.element_state.specs.Laws.{Grows, IsLive, Laws}
use Rattle.element_state.specs.lemmas.Effects.{none_where, pair_here}
use Rattle.element_state.specs.Exists.{row_key}
use Rattle.element_state.specs.lemmas.IndexLaws.{removed}
use Rattle.element_state.specs.Items.{IsIn, AmongEntries, clear_writes, put_pair, fill_puts}
use Rattle.element_state.specs.Schemas.{Entry, state_of, Kinds}
use Rattle.schema_version.specs.declared.element.Work.{Work}
use Rattle.schema_version.specs.declared.element.Work.TheVariants.{Fill, Clear}
use Rattle.element_state.specs.Core.{PassedSpan, InPassedSpans, Core, Meets, JoinedAt, Passed, Reached, Invariant}
use Rattle.element_state.proofs.Core.{same_demand}
use Rattle.element_state.proofs.Whole.{number_one}
use Rattle.element_state.specs.lemmas.Apart.{not_none, none_some, some_one}
use Rattle.element_state.specs.Pieces.{moved}

-- the pair of a row, if it has one
abbrev pub item_write : Bytes → Option Bytes → Writes
item_write x None = []
item_write x (Some v) = (x, Some v) ∷ []

-- what a piece of a fill writes for its rows
abbrev pub fill_writes : Meaning → List (RowKey × Cells) → Writes
fill_writes m [] = []
fill_writes m (i ∷ items) = item_write (m.pair_key i.0 i.1) (m.pair_value i.0 i.1) ++ fill_writes m items

put_pair-fill : (x : Bytes) (o : Option Bytes) → put_pair (option_map (λ v. (x, v)) o) ≡ item_write x o
put_pair-fill x None = refl
put_pair-fill x (Some v) = refl

-- of a kind that is filled, what `fill_of` gives
pub fill_puts-filled : (m : Meaning) → IsTrue m.filled → (items : List (RowKey × Cells)) → fill_puts m items ≡ fill_writes m items
fill_puts-filled m filled [] = refl
fill_puts-filled m filled (i ∷ items) =
    ap₂ (λ (a b : Writes). a ++ b) (ap (λ b. put_pair (cond b (option_map (λ v. (m.pair_key i.0 i.1, v)) (m.pair_value i.0 i.1)) None)) filled ∙ put_pair-fill (m.pair_key i.0 i.1) (m.pair_value i.0 i.1)) (fill_puts-filled m filled items)

-- a row that has a pair of the element
abbrev pub HasPair : Meaning → RowKey → Cells → Type 0
HasPair m k r = (v : Bytes) × (m.pair_value k r ≡ Some v)

-- each item is a row as it is
abbrev pub AreRows : Rows → List (RowKey × Cells) → Type 0
AreRows R [] = Unit {0}
AreRows R (i ∷ items) = (get R i.0 ≡ Some i.1) × AreRows R items

joined_owned : {n : ℕ} (x : Bytes) (o : Option Bytes) → IsKeyOfElement n x → (ws : Writes) → AllKeys (IsKeyOfElement n) ws → AllKeys (IsKeyOfElement n) (item_write x o ++ ws)
joined_owned x None own ws h = h
joined_owned x (Some v) own ws h = (own, h)

pub clear_owned : (n : ℕ) (xs : List Bytes) → ((x : Bytes) → IsIn x xs → IsKeyOfElement n x) → AllKeys (IsKeyOfElement n) (clear_writes xs)
clear_owned n [] h = tt
clear_owned n (x ∷ xs) h = (h x (inl refl), clear_owned n xs (λ y later. h y (inr later)))

-- a clear only takes pairs away, and leaves none that it names
pub clear_shrinks : (xs : List Bytes) (P : Pairs) (x v : Bytes) → get (written_all P (clear_writes xs)) x ≡ Some v → get P x ≡ Some v
clear_shrinks [] P x v is = is
clear_shrinks (y ∷ ys) P x v is = removed P y x v (clear_shrinks ys (written P y None) x v is)

pub clear_gone : (xs : List Bytes) (P : Pairs) (x : Bytes) → IsIn x xs → get (written_all P (clear_writes xs)) x ≡ None
clear_gone [] P x a = absurd a
clear_gone (y ∷ ys) P x a = elim a [
  | inl e ↦ none_where (get (written_all P (clear_writes (y ∷ ys))) x) (λ v is. not_none v (get (written P y None) x) (clear_shrinks ys (written P y None) x v is) (ap (get (written P y None)) e ∙ pair_here P y None))
  | inr later ↦ clear_gone ys (written P y None) x later
]

module _ (m : Meaning) (l : Laws m) (R : Rows) (held : AreStorable R) where
  put_demand : (q : ElementState) (P : Pairs) (k : RowKey) (r : Cells) (v : Bytes) → IsLive q → get R k ≡ Some r → m.pair_value k r ≡ Some v → Demand m q P R → Demand m q (written P (m.pair_key k r) (Some v)) R
  put_demand Absent P k r v live at val d = absurd live
  put_demand DeleteOnly P k r v live at val d = l.fill_subset P R k r v at val d
  put_demand WriteOnly P k r v live at val d = l.fill_subset P R k r v at val d
  put_demand Public P k r v live at val d = record { subset = l.fill_subset P R k r v at val d.subset; covered = λ j. l.fill_keeps P R held k r v at val j (d.covered j) }

  item_demand : (q : ElementState) (P : Pairs) (k : RowKey) (r : Cells) (o : Option Bytes) → IsLive q → get R k ≡ Some r → m.pair_value k r ≡ o → Demand m q P R → Demand m q (written_all P (item_write (m.pair_key k r) o)) R
  item_demand q P k r None live at val d = d
  item_demand q P k r (Some v) live at val d = put_demand q P k r v live at val d

  item_keeps : (P : Pairs) (k : RowKey) (r : Cells) (o : Option Bytes) → get R k ≡ Some r → m.pair_value k r ≡ o → (j : RowKey) → CoveredAt m P R j → CoveredAt m (written_all P (item_write (m.pair_key k r) o)) R j
  item_keeps P k r None at val j c = c
  item_keeps P k r (Some v) at val j c = l.fill_keeps P R held k r v at val j c

  item_covers : (P : Pairs) (k : RowKey) (r : Cells) (o : Option Bytes) → get R k ≡ Some r → m.pair_value k r ≡ o → CoveredAt m (written_all P (item_write (m.pair_key k r) o)) R k
  item_covers P k r (Some v) at val = l.fill_covers P R k r v at val
  item_covers P k r None at val = λ s v is sval. absurd (none_some v (sym val ∙ ap (m.pair_value k) (some_one r s (sym at ∙ is)) ∙ sval))

  pub fill_demand : (q : ElementState) (items : List (RowKey × Cells)) (P : Pairs) → IsLive q → AreRows R items → Demand m q P R → Demand m q (written_all P (fill_writes m items)) R
  fill_demand q [] P live rows d = d
  fill_demand q (i ∷ items) P live rows d =
      subst (λ Q. Demand m q Q R) (sym (written_all-append P (item_write (m.pair_key i.0 i.1) (m.pair_value i.0 i.1)) (fill_writes m items)))
      (fill_demand q items _ live rows.1 (item_demand q P i.0 i.1 (m.pair_value i.0 i.1) live rows.0 refl d))

  pub fill_still : (items : List (RowKey × Cells)) (P : Pairs) → AreRows R items → (j : RowKey) → CoveredAt m P R j → CoveredAt m (written_all P (fill_writes m items)) R j
  fill_still [] P rows j c = c
  fill_still (i ∷ items) P rows j c =
      subst (λ Q. CoveredAt m Q R j) (sym (written_all-append P (item_write (m.pair_key i.0 i.1) (m.pair_value i.0 i.1)) (fill_writes m items)))
      (fill_still items _ rows.1 j (item_keeps P i.0 i.1 (m.pair_value i.0 i.1) rows.0 refl j c))

  pub fill_reaches : (items : List (RowKey × Cells)) (P : Pairs) → AreRows R items → (j : RowKey) → AmongEntries j items → CoveredAt m (written_all P (fill_writes m items)) R j
  fill_reaches [] P rows j a = absurd a
  fill_reaches (i ∷ items) P rows j a =
      subst (λ Q. CoveredAt m Q R j) (sym (written_all-append P (item_write (m.pair_key i.0 i.1) (m.pair_value i.0 i.1)) (fill_writes m items)))
      (elim a [
        | inl e ↦ fill_still items _ rows.1 j (subst (CoveredAt m (written_all P (item_write (m.pair_key i.0 i.1) (m.pair_value i.0 i.1))) R) e (item_covers P i.0 i.1 (m.pair_value i.0 i.1) rows.0 refl))
        | inr later ↦ fill_reaches items _ rows.1 j later
      ])

  pub fill_owned : (items : List (RowKey × Cells)) → AreRows R items → AllKeys (IsKeyOfElement m.number) (fill_writes m items)
  fill_owned [] rows = tt
  fill_owned (i ∷ items) rows = joined_owned (m.pair_key i.0 i.1) (m.pair_value i.0 i.1) (l.owned i.0 i.1 (held i.0 i.1 rows.0)) (fill_writes m items) (fill_owned items rows.1)

live : (q : ElementState) → Grows q → IsLive q
live Absent g = absurd g
live DeleteOnly g = absurd g
live WriteOnly g = tt
live Public g = tt

clear_demand : (m : Meaning) (q : ElementState) (xs : List Bytes) (P : Pairs) (R : Rows) → ¬ (Grows q) → Demand m q P R → Demand m q (written_all P (clear_writes xs)) R
clear_demand m Absent xs P R shrinks d = λ x own. none_where (get (written_all P (clear_writes xs)) x) (λ v is. not_none v (get P x) (clear_shrinks xs P x v is) (d x own))
clear_demand m DeleteOnly xs P R shrinks d = λ x v own is. d x v own (clear_shrinks xs P x v is)
clear_demand m WriteOnly xs P R shrinks d = absurd (shrinks tt)
clear_demand m Public xs P R shrinks d = absurd (shrinks tt)

module _ {K : Type 0} (ks : Kinds K) where
  kinds_agree : (n : ℕ) (o : Option (Entry K)) (f : Entry K) → JoinedAt ks n o (Some f) → (e : Entry K) → o ≡ Some e → e.kind ≡ f.kind
  kinds_agree n None f j e is = absurd (none_some e is)
  kinds_agree n (Some d) f j e is = ap (λ (t : Entry K). t.kind) (some_one e d (sym is)) ∙ j.0

  same_meets : (n : ℕ) (o : Option (Entry K)) → ((e : Entry K) → o ≡ Some e → ks.lawful n e.kind) → (P Q : Pairs) (R : Rows) → AreStorable R → ((x : Bytes) → owner x ≡ Some n → get Q x ≡ get P x) → Meets ks n o P R → Meets ks n o Q R
  same_meets n None lawful P Q R held e d = λ x own. e x own ∙ d x own
  same_meets n (Some f) lawful P Q R held e d = same_demand (ks.meaning n f.kind) (ks.laws n f.kind (lawful f refl)) f.state P Q R held (λ x own. e x (own ∙ ap Some (ks.numbered n f.kind))) d

  same_passed : (n : ℕ) (k : K) → ks.lawful n k → (work : Work) (spans : List PassedSpan) (P Q : Pairs) (R : Rows) → AreStorable R → ((x : Bytes) → owner x ≡ Some n → get Q x ≡ get P x) → Passed ks n k work spans P R → Passed ks n k work spans Q R
  same_passed n k kind Fill spans P Q R held e d = λ j at r v there val. e ((ks.meaning n k).pair_key j r) (owner_named (ks.meaning n k).number ((ks.meaning n k).pair_key j r) ((ks.laws n k kind).owned j r (held j r there)) ∙ ap Some (ks.numbered n k)) ∙ d j at r v there val
  same_passed n k kind Clear spans P Q R held e d = λ x own at. e x own ∙ d x own at

  -- a piece touches the pairs of n alone
  pub piece_kept : (w : Core K) (n : ℕ) (work : Work) (old spans : List PassedSpan) (Q : Pairs) → Invariant ks w
      → (begun : get w.progress n ≡ Some (record { work = work; spans = old }))
      → AreFormed Q
      → ((j : ℕ) → j ≢ n → (x : Bytes) → owner x ≡ Some j → get Q x ≡ get w.pairs x)
      → Meets ks n (get w.before n) Q w.rows → Meets ks n (get w.newest n) Q w.rows
      → ((k : K) → ((e : Entry K) → get w.newest n ≡ Some e → e.kind ≡ k) → Passed ks n k work old w.pairs w.rows → Passed ks n k work spans Q w.rows)
      → Invariant ks (moved ks w n (record { work = work; spans = spans }) Q)
  piece_kept w n work old spans Q i begun formed others in_before in_newest passed = record {
    held = i.held;
    formed = formed;
    lawful_before = i.lawful_before;
    lawful_newest = i.lawful_newest;
    joined = i.joined;
    before = λ j. elim (number_one j n) [ inl e ↦ subst (λ y. Meets ks y (get w.before y) Q w.rows) (sym e) in_before | inr ne ↦ same_meets j (get w.before j) (i.lawful_before j) w.pairs Q w.rows i.held (others j ne) (i.before j) ];
    newest = λ j. elim (number_one j n) [ inl e ↦ subst (λ y. Meets ks y (get w.newest y) Q w.rows) (sym e) in_newest | inr ne ↦ same_meets j (get w.newest j) (i.lawful_newest j) w.pairs Q w.rows i.held (others j ne) (i.newest j) ];
    reached = λ j p at. elim (number_one j n) [
      | inl e ↦
          let here : get (insert w.progress n (record { work = work; spans = spans })) n ≡ Some p = ap (get (insert w.progress n (record { work = work; spans = spans }))) (sym e) ∙ at in
          let p_is : record { work = work; spans = spans } ≡ p = some_one _ p (sym (written_here nat_cmp_total nat_cmp-IsAntisymmetric w.progress n (Some (record { work = work; spans = spans }))) ∙ here) in
          let r = i.reached n _ begun in
          subst (λ y. Reached ks y p w.before w.newest Q w.rows) (sym e) (subst (λ y. Reached ks n y w.before w.newest Q w.rows) p_is (record {
            kind = r.kind;
            entry = r.entry;
            entry_is = r.entry_is;
            kind_is = r.kind_is;
            filled = r.filled;
            run_before = r.run_before;
            run_newest = r.run_newest;
            passed = passed r.kind (λ f is. ap (λ (t : Entry K). t.kind) (some_one f r.entry (sym is ∙ r.entry_is)) ∙ r.kind_is) r.passed;
          }))
      | inr ne ↦
          let was : get w.progress j ≡ Some p = sym (written_apart nat_cmp_total nat_cmp-IsAntisymmetric w.progress n (Some (record { work = work; spans = spans })) j ne) ∙ at in
          let r = i.reached j p was in
          record {
            kind = r.kind;
            entry = r.entry;
            entry_is = r.entry_is;
            kind_is = r.kind_is;
            filled = r.filled;
            run_before = r.run_before;
            run_newest = r.run_newest;
            passed = same_passed j r.kind (subst (ks.lawful j) r.kind_is (i.lawful_newest j r.entry r.entry_is)) p.work p.spans w.pairs Q w.rows i.held (others j ne) r.passed;
          }
    ];
    bare = i.bare;
  }

  -- the pairs of another element
  apart_owner : (j n : ℕ) (x : Bytes) → j ≢ n → owner x ≡ Some j → owner x ≡ Some n → ⊥
  apart_owner j n x ne own is = ne (some_one j n (sym own ∙ is))

  fill_meets : (n : ℕ) (k : K) (o : Option (Entry K)) → ((e : Entry K) → o ≡ Some e → ks.lawful n e.kind) → (items : List (RowKey × Cells)) (P : Pairs) (R : Rows) → AreStorable R → Grows (state_of o) → ((e : Entry K) → o ≡ Some e → e.kind ≡ k) → AreRows R items → Meets ks n o P R
      → Meets ks n o (written_all P (fill_writes (ks.meaning n k) items)) R
  fill_meets n k None lawful items P R held grows of_kind rows d = absurd grows
  fill_meets n k (Some e) lawful items P R held grows of_kind rows d =
      subst (λ y. Demand (ks.meaning n e.kind) e.state (written_all P (fill_writes (ks.meaning n y) items)) R) (of_kind e refl)
      (fill_demand (ks.meaning n e.kind) (ks.laws n e.kind (lawful e refl)) R held e.state items P (live e.state grows) rows d)

  -- a piece of a fill: its rows are those between the old cursor and the new one
  pub fill_kept : (w : Core K) (n : ℕ) (f : Entry K) (old spans : List PassedSpan) (items : List (RowKey × Cells)) → Invariant ks w
      → get w.newest n ≡ Some f
      → get w.progress n ≡ Some (record { work = Fill; spans = old })
      → AreRows w.rows items
      → ((j : RowKey) (r : Cells) → get w.rows j ≡ Some r → HasPair (ks.meaning n f.kind) j r → InPassedSpans spans (row_key j) → InPassedSpans old (row_key j) ⊎ AmongEntries j items)
      → Invariant ks (moved ks w n (record { work = Fill; spans = spans }) (written_all w.pairs (fill_writes (ks.meaning n f.kind) items)))
  fill_kept w n f old spans items i is begun rows reach =
      let m = ks.meaning n f.kind in
      let law : Laws m = ks.laws n f.kind (i.lawful_newest n f is) in
      let r = i.reached n _ begun in
      let kind_before : (e : Entry K) → get w.before n ≡ Some e → e.kind ≡ f.kind = λ e at. kinds_agree n (get w.before n) f (subst (JoinedAt ks n (get w.before n)) is (i.joined n)) e at in
      let kind_newest : (e : Entry K) → get w.newest n ≡ Some e → e.kind ≡ f.kind = λ e at. ap (λ (t : Entry K). t.kind) (some_one e f (sym at ∙ is)) in
      piece_kept w n Fill old spans (written_all w.pairs (fill_writes m items)) i begun
      (written_all-keys bytes_cmp_total bytes_cmp-IsAntisymmetric HasForm (fill_writes m items) w.pairs (AllKeys-map (IsKeyOfElement m.number) HasForm (form_named m.number) (fill_writes m items) (fill_owned m law w.rows i.held items rows)) i.formed)
      (λ j ne x own. written_all-outside bytes_cmp_total bytes_cmp-IsAntisymmetric (IsKeyOfElement m.number) x
      (λ at. apart_owner j n x ne own (owner_named m.number x at ∙ ap Some (ks.numbered n f.kind))) (fill_writes m items) (fill_owned m law w.rows i.held items rows) w.pairs)
      (fill_meets n f.kind (get w.before n) (i.lawful_before n) items w.pairs w.rows i.held r.run_before kind_before rows (i.before n))
      (fill_meets n f.kind (get w.newest n) (i.lawful_newest n) items w.pairs w.rows i.held r.run_newest kind_newest rows (i.newest n))
      (λ k of_kind passed. subst (λ y. Passed ks n y Fill spans (written_all w.pairs (fill_writes m items)) w.rows) (of_kind f is)
      (λ j at s v there val. elim (reach j s there (v, val) at) [
        | inl before ↦ fill_still m law w.rows i.held items w.pairs rows j (subst (λ y. CoveredAt (ks.meaning n y) w.pairs w.rows j) (sym (of_kind f is)) (passed j before)) s v there val
        | inr now ↦ fill_reaches m law w.rows i.held items w.pairs rows j now s v there val
      ]))

  clear_meets : (n : ℕ) (o : Option (Entry K)) (xs : List Bytes) (P : Pairs) (R : Rows) → ¬ (Grows (state_of o)) → Meets ks n o P R → Meets ks n o (written_all P (clear_writes xs)) R
  clear_meets n None xs P R shrinks d = λ x own. none_where (get (written_all P (clear_writes xs)) x) (λ v is. not_none v (get P x) (clear_shrinks xs P x v is) (d x own))
  clear_meets n (Some e) xs P R shrinks d = clear_demand (ks.meaning n e.kind) e.state xs P R shrinks d

  -- a piece of a clear: it names each pair of n between the old cursor and the new one
  pub clear_kept : (w : Core K) (n : ℕ) (old spans : List PassedSpan) (xs : List Bytes) → Invariant ks w
      → get w.progress n ≡ Some (record { work = Clear; spans = old })
      → ((x : Bytes) → IsIn x xs → IsKeyOfElement n x)
      → ((x v : Bytes) → owner x ≡ Some n → get w.pairs x ≡ Some v → InPassedSpans spans x → InPassedSpans old x ⊎ IsIn x xs)
      → Invariant ks (moved ks w n (record { work = Clear; spans = spans }) (written_all w.pairs (clear_writes xs)))
  clear_kept w n old spans xs i begun owned reach =
      let r = i.reached n _ begun in
      piece_kept w n Clear old spans (written_all w.pairs (clear_writes xs)) i begun
      (λ x v is. i.formed x v (clear_shrinks xs w.pairs x v is))
      (λ j ne x own. written_all-outside bytes_cmp_total bytes_cmp-IsAntisymmetric (IsKeyOfElement n) x
      (λ at. apart_owner j n x ne own (owner_named n x at)) (clear_writes xs) (clear_owned n xs owned) w.pairs)
      (clear_meets n (get w.before n) xs w.pairs w.rows r.run_before (i.before n))
      (clear_meets n (get w.newest n) xs w.pairs w.rows r.run_newest (i.newest n))
      (λ k of_kind passed x own at. none_where (get (written_all w.pairs (clear_writes xs)) x) (λ v is.
      elim (reach x v own (clear_shrinks xs w.pairs x v is) at) [
        | inl before ↦ not_none v (get w.pairs x) (clear_shrinks xs w.pairs x v is) (passed x own before)
        | inr now ↦ not_none v (get (written_all w.pairs (clear_writes xs)) x) is (clear_gone xs w.pairs x now)
      ]))
