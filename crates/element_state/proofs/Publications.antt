-- Why a publication keeps what the core keeps.
use Rattle.std.specs.Prelude.{◌≡◌, ◌≢◌, ℕ, Option, Some, None, refl}
use Rattle.std.specs.FinMap.{FinMap, get}
use Rattle.std.specs.Ordering.{nat_cmp}
use Rattle.std.proofs.Common.{sym, ap, subst, ◌∙◌}
use Rattle.row_map.specs.Rows.{RowKey, Rows, Pairs}
use Rattle.schema_version.specs.declared.element.ElementState.{ElementState}
use Rattle.schema_version.specs.declared.element.ElementState.TheVariants.{Absent, DeleteOnly, WriteOnly, Public}
use Rattle.element_state.specs.Elements.{Meaning, Subset, CoveredAt, Exact, Empty, Demand}
use Rattle.element_state.specs.Laws.{IsLive}
use Rattle.element_state.specs.lemmas.Effects.{none_where}
use Rattle.element_state.specs.Schemas.{Entry, Schema, state_of, Kinds}
use Rattle.element_state.specs.Core.{CoreProgress, Core, Meets, JoinedAt, MayRun, NeverPublic, Invariant}
use Rattle.element_state.specs.lemmas.Apart.{not_none, hidden_not_public, none_some, some_one}
use Rattle.element_state.specs.Publish.{FillEnded, ClearEnded, MayBePublic, MayBeAbsent, Steps, published, Was, Filled, Unfilled, Was_not, Cleared}

absent_public : Absent ≡ Public → ⊥
absent_public = hidden_not_public Absent tt

module _ {K : Type 0} (ks : Kinds K) where
  never_public : (next n : ℕ) (o : Option (Entry K)) → NeverPublic ks next n o → state_of o ≢ Public
  never_public next n None h = absent_public
  never_public next n (Some e) h = h.1

  -- the subset that every demand gives
  subset_of : (m : Meaning) (q : ElementState) (P : Pairs) (R : Rows) → Demand m q P R → Subset m P R
  subset_of m Absent P R d = λ x v own is. absurd (not_none v (get P x) is (d x own))
  subset_of m DeleteOnly P R d = d
  subset_of m WriteOnly P R d = d
  subset_of m Public P R d = d.subset

  exact_of : (m : Meaning) (q : ElementState) (P : Pairs) (R : Rows) → q ≡ Public → Demand m q P R → Exact m P R
  exact_of m q P R e d = subst (λ y. Demand m y P R) e d

  pub subset_meets : (n : ℕ) (k : K) (o : Option (Entry K)) (P : Pairs) (R : Rows) → ((d : Entry K) → o ≡ Some d → d.kind ≡ k) → Meets ks n o P R → Subset (ks.meaning n k) P R
  subset_meets n k None P R of_kind d = λ x v own is. absurd (not_none v (get P x) is (d x (own ∙ ap Some (ks.numbered n k))))
  subset_meets n k (Some e) P R of_kind d = subst (λ y. Subset (ks.meaning n y) P R) (of_kind e refl) (subset_of (ks.meaning n e.kind) e.state P R d)

  exact_meets : (n : ℕ) (k : K) (o : Option (Entry K)) (P : Pairs) (R : Rows) → ((d : Entry K) → o ≡ Some d → d.kind ≡ k) → state_of o ≡ Public → Meets ks n o P R → Exact (ks.meaning n k) P R
  exact_meets n k None P R of_kind is d = absurd (absent_public is)
  exact_meets n k (Some e) P R of_kind is d = subst (λ y. Exact (ks.meaning n y) P R) (of_kind e refl) (exact_of (ks.meaning n e.kind) e.state P R is d)

  kinds_agree : (n : ℕ) (o : Option (Entry K)) (f : Entry K) → JoinedAt ks n o (Some f) → (e : Entry K) → o ≡ Some e → e.kind ≡ f.kind
  kinds_agree n None f j e is = absurd (none_some e is)
  kinds_agree n (Some d) f j e is = ap (λ (t : Entry K). t.kind) (some_one e d (sym is)) ∙ j.0

  filled_covers : (w : Core K) (n : ℕ) (k : K) → Invariant ks w → ((e : Entry K) → get w.newest n ≡ Some e → e.kind ≡ k) → FillEnded ks w n k → (l : RowKey) → CoveredAt (ks.meaning n k) w.pairs w.rows l
  filled_covers w n k i of_kind f l r v at val =
      let done = i.reached n _ f.begun in
      let same : done.kind ≡ k = sym done.kind_is ∙ of_kind done.entry done.entry_is in
      subst (λ y. CoveredAt (ks.meaning n y) w.pairs w.rows l) same (done.passed l (f.all l r v at val)) r v at val

  cleared_empty : (w : Core K) (n : ℕ) → Invariant ks w → ClearEnded ks w n → Empty n w.pairs
  cleared_empty w n i f x own = none_where (get w.pairs x) (λ v is. not_none v (get w.pairs x) is ((i.reached n _ f.begun).passed x own (f.all x v own is)))

  public_now : (w : Core K) (n : ℕ) (k : K) → Invariant ks w → ((e : Entry K) → get w.newest n ≡ Some e → e.kind ≡ k) → ks.lawful n k → MayBePublic ks w n k → Exact (ks.meaning n k) w.pairs w.rows
  public_now w n k i of_kind kind (Was is) = exact_meets n k (get w.newest n) w.pairs w.rows of_kind is (i.newest n)
  public_now w n k i of_kind kind (Filled f) = record { subset = subset_meets n k (get w.newest n) w.pairs w.rows of_kind (i.newest n); covered = filled_covers w n k i of_kind f }
  public_now w n k i of_kind kind (Unfilled u never) = record {
    subset = subset_meets n k (get w.newest n) w.pairs w.rows of_kind (i.newest n);
    covered = λ l r v at val. absurd (not_none v ((ks.meaning n k).pair_value l r) val ((ks.laws n k kind).no_pair u l r (ap (get r) (ks.numbered n k) ∙ (i.bare n never).0 l r at)));
  }

  next_demand : (w : Core K) (n : ℕ) (e : Entry K) → Invariant ks w → ((d : Entry K) → get w.newest n ≡ Some d → d.kind ≡ e.kind) → (q : ElementState) → ks.lawful n e.kind → IsLive q → (q ≡ Public → MayBePublic ks w n e.kind) → Demand (ks.meaning n e.kind) q w.pairs w.rows
  next_demand w n e i of_kind Absent kind live to = absurd live
  next_demand w n e i of_kind DeleteOnly kind live to = subset_meets n e.kind (get w.newest n) w.pairs w.rows of_kind (i.newest n)
  next_demand w n e i of_kind WriteOnly kind live to = subset_meets n e.kind (get w.newest n) w.pairs w.rows of_kind (i.newest n)
  next_demand w n e i of_kind Public kind live to = public_now w n e.kind i of_kind kind (to refl)

  absent_now : (w : Core K) (n : ℕ) → Invariant ks w → MayBeAbsent ks w n → Empty n w.pairs
  absent_now w n i (Was_not none) = subst (λ o. Meets ks n o w.pairs w.rows) none (i.newest n)
  absent_now w n i (Cleared c) = cleared_empty w n i c

  next_meets : (w : Core K) (s : Schema K) (next : ℕ) (progress : FinMap nat_cmp CoreProgress) → Invariant ks w → Steps ks w s next progress → (n : ℕ) → Meets ks n (get s n) w.pairs w.rows
  next_meets w s next progress i st n = elim (get s n) as (λ o. get s n ≡ o → Meets ks n o w.pairs w.rows) [
    | None ↦ λ is. absent_now w n i (st.to_absent n is)
    | Some e ↦ λ is. next_demand w n e i (kinds_agree n (get w.newest n) e (subst (JoinedAt ks n (get w.newest n)) is (st.joined n))) e.state (st.lawful n e is) (st.live n e is) (st.to_public n e is)
  ] refl

  pub publish_kept : (w : Core K) (s : Schema K) (next : ℕ) (progress : FinMap nat_cmp CoreProgress) → Steps ks w s next progress → Invariant ks w → Invariant ks (published ks w s next progress)
  publish_kept w s next progress st i = record {
    held = i.held;
    formed = i.formed;
    lawful_before = i.lawful_newest;
    lawful_newest = st.lawful;
    joined = st.joined;
    before = i.newest;
    newest = next_meets w s next progress i st;
    reached = λ n p at.
        let k = st.progress_kept n p at in
        let r = i.reached n p k.0 in
        record {
          kind = r.kind;
          entry = r.entry;
          entry_is = k.1 ∙ r.entry_is;
          kind_is = r.kind_is;
          filled = r.filled;
          run_before = r.run_newest;
          run_newest = subst (λ o. MayRun ks p.work r.kind (state_of o)) (sym k.1) r.run_newest;
          passed = r.passed;
        };
    bare = λ n never. let was = st.fresh n never in ((i.bare n was).0, never_public w.next n (get w.newest n) was);
  }
