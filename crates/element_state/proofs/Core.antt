-- Why what the demands of two versions want of the pairs is kept by an operation.
use Rattle.std.specs.Prelude.{refl, ◌≡◌, ◌⊎◌, ℕ, Option, Some, None}
use Rattle.std.specs.FinMap.{get}
use Rattle.std.proofs.Common.{sym, ap, subst, ◌∙◌, inl, inr}
use Rattle.row_map.specs.Rows.{Bytes, Rows, Pairs, AreStorable}
use Rattle.row_map.specs.Writes.{written_all}
use Rattle.schema_version.specs.declared.element.ElementState.{ElementState}
use Rattle.schema_version.specs.declared.element.ElementState.TheVariants.{Absent, DeleteOnly, WriteOnly, Public}
use Rattle.element_state.specs.Elements.{Change, rows_after, ChangesPublicOnly, IsStorableChange, owner, owner_named, Meaning, Subset, Empty, Demand}
use Rattle.element_state.specs.Laws.{pairs_after, Operates, Laws, Joined}
use Rattle.element_state.specs.lemmas.Effects.{both_storable, storable_after}
use Rattle.element_state.specs.Schemas.{Entry, Schema, state_of, Kinds, AreLawful, version_writes}
use Rattle.element_state.proofs.Schemas.{at_own, at_none}
use Rattle.element_state.specs.lemmas.Apart.{none_some, some_one}
use Rattle.element_state.specs.Core.{Core, Meets, JoinedAt, Runs, Invariant, committed}

same_subset : (m : Meaning) (P Q : Pairs) (R : Rows) → ((x : Bytes) → owner x ≡ Some m.number → get Q x ≡ get P x) → Subset m P R → Subset m Q R
same_subset m P Q R e sub x v own is = sub x v own (sym (e x own) ∙ is)

pub same_demand : (m : Meaning) (l : Laws m) (q : ElementState) (P Q : Pairs) (R : Rows) → AreStorable R → ((x : Bytes) → owner x ≡ Some m.number → get Q x ≡ get P x) → Demand m q P R → Demand m q Q R
same_demand m l Absent P Q R held e d = λ x own. e x own ∙ d x own
same_demand m l DeleteOnly P Q R held e d = same_subset m P Q R e d
same_demand m l WriteOnly P Q R held e d = same_subset m P Q R e d
same_demand m l Public P Q R held e d = record { subset = same_subset m P Q R e d.subset; covered = λ k r v at val. e (m.pair_key k r) (owner_named m.number (m.pair_key k r) (l.owned k r (held k r at))) ∙ d.covered k r v at val }

module _ {K : Type 0} (ks : Kinds K) where
  -- ---- one element, under either version
  both_at : (s : Schema K) → AreLawful ks s → (n : ℕ) (k : K) → ks.lawful n k → (p q : ElementState) (c : Change) (P : Pairs) (R : Rows) → Joined (ks.meaning n k) p q → (state_of (get s n) ≡ p) ⊎ (state_of (get s n) ≡ q)
      → ((e : Entry K) → get s n ≡ Some e → e.kind ≡ k) → AreStorable R → Runs ks s R c → Demand (ks.meaning n k) p P R → Demand (ks.meaning n k) q P R
      → Demand (ks.meaning n k) p (written_all P (version_writes ks s c)) (rows_after R c) × Demand (ks.meaning n k) q (written_all P (version_writes ks s c)) (rows_after R c)
  both_at s lawful n k kind p q c P R j used of_kind held runs d e =
      let m = ks.meaning n k in
      let l : Laws m = ks.laws n k kind in
      let both_rows : IsStorableChange c = both_storable R c runs.fits held runs.storable in
      let op : Operates m (state_of (get s n)) R c = record { fits = runs.fits; public_only = subst (λ y. ChangesPublicOnly y (state_of (get s n)) c) (sym (ks.numbered n k)) (runs.public_only n); before = held; after = runs.storable } in
      let both = l.two_versions p q (state_of (get s n)) j used c P R op d e in
      let same : (x : Bytes) → owner x ≡ Some m.number → get (written_all P (version_writes ks s c)) x ≡ get (pairs_after m (state_of (get s n)) c P) x
      = λ x own. at_own ks s lawful c both_rows n k kind P x (own ∙ ap Some (ks.numbered n k)) of_kind in
      let held_after : AreStorable (rows_after R c) = storable_after R c held runs.storable in
      (same_demand m l p _ _ (rows_after R c) held_after same both.0, same_demand m l q _ _ (rows_after R c) held_after same both.1)

  -- an element, if there is one, is as its laws want it
  abbrev IsLawfulEntry : ℕ → Option (Entry K) → Type 0
  IsLawfulEntry n o = (e : Entry K) → o ≡ Some e → ks.lawful n e.kind

  meets_both : (s : Schema K) → AreLawful ks s → (n : ℕ) (o u : Option (Entry K)) (c : Change) (P : Pairs) (R : Rows) → IsLawfulEntry n o → IsLawfulEntry n u → JoinedAt ks n o u → (get s n ≡ o) ⊎ (get s n ≡ u) → AreStorable R → Runs ks s R c → Meets ks n o P R → Meets ks n u P R
      → Meets ks n o (written_all P (version_writes ks s c)) (rows_after R c) × Meets ks n u (written_all P (version_writes ks s c)) (rows_after R c)
  meets_both s lawful n None None c P R lo lu j used held runs d e =
      let none : get s n ≡ None = elim used [ inl y ↦ y | inr y ↦ y ] in
      (λ x own. at_none ks s lawful c (both_storable R c runs.fits held runs.storable) n P x own none ∙ d x own, λ x own. at_none ks s lawful c (both_storable R c runs.fits held runs.storable) n P x own none ∙ e x own)
  meets_both s lawful n None (Some f) c P R lo lu j used held runs d e =
      let m = ks.meaning n f.kind in
      let both = both_at s lawful n f.kind (lu f refl) Absent f.state c P R j (elim used [ inl y ↦ inl (ap state_of y) | inr y ↦ inr (ap state_of y) ])
      (λ g is. elim used [ inl y ↦ absurd (none_some g (sym y ∙ is)) | inr y ↦ ap (λ (t : Entry K). t.kind) (some_one g f (sym is ∙ y)) ]) held runs (subst (λ y. Empty y P) (sym (ks.numbered n f.kind)) d) e in
      (subst (λ y. Empty y (written_all P (version_writes ks s c))) (ks.numbered n f.kind) both.0, both.1)
  meets_both s lawful n (Some f) None c P R lo lu j used held runs d e =
      let both = both_at s lawful n f.kind (lo f refl) f.state Absent c P R j (elim used [ inl y ↦ inl (ap state_of y) | inr y ↦ inr (ap state_of y) ])
      (λ g is. elim used [ inl y ↦ ap (λ (t : Entry K). t.kind) (some_one g f (sym is ∙ y)) | inr y ↦ absurd (none_some g (sym y ∙ is)) ]) held runs d (subst (λ y. Empty y P) (sym (ks.numbered n f.kind)) e) in
      (both.0, subst (λ y. Empty y (written_all P (version_writes ks s c))) (ks.numbered n f.kind) both.1)
  meets_both s lawful n (Some f) (Some h) c P R lo lu j used held runs d e =
      let eh : Demand (ks.meaning n f.kind) h.state P R = subst (λ y. Demand (ks.meaning n y) h.state P R) (sym j.0) e in
      let both = both_at s lawful n f.kind (lo f refl) f.state h.state c P R j.1 (elim used [ inl y ↦ inl (ap state_of y) | inr y ↦ inr (ap state_of y) ])
      (λ g is. elim used [ inl y ↦ ap (λ (t : Entry K). t.kind) (some_one g f (sym is ∙ y)) | inr y ↦ ap (λ (t : Entry K). t.kind) (some_one g h (sym is ∙ y)) ∙ sym j.0 ]) held runs d eh in
      (both.0, subst (λ y. Demand (ks.meaning n y) h.state (written_all P (version_writes ks s c)) (rows_after R c)) j.0 both.1)

  -- the version of the server is one of the two
  pub used_lawful : (w : Core K) (s : Schema K) → (s ≡ w.before) ⊎ (s ≡ w.newest) → Invariant ks w → AreLawful ks s
  used_lawful w s used i = elim used [ inl y ↦ subst (λ (t : Schema K). AreLawful ks t) (sym y) i.lawful_before | inr y ↦ subst (λ (t : Schema K). AreLawful ks t) (sym y) i.lawful_newest ]

  pub meets_after : (w : Core K) (s : Schema K) (c : Change) → (s ≡ w.before) ⊎ (s ≡ w.newest) → Runs ks s w.rows c → Invariant ks w → (n : ℕ)
      → Meets ks n (get w.before n) (committed ks w s c).pairs (committed ks w s c).rows × Meets ks n (get w.newest n) (committed ks w s c).pairs (committed ks w s c).rows
  meets_after w s c used runs i n =
      let lawful : AreLawful ks s = used_lawful w s used i in
      meets_both s lawful n (get w.before n) (get w.newest n) c w.pairs w.rows (i.lawful_before n) (i.lawful_newest n) (i.joined n) (elim used [ inl y ↦ inl (ap (λ (t : Schema K). get t n) y) | inr y ↦ inr (ap (λ (t : Schema K). get t n) y) ]) i.held runs (i.before n) (i.newest n)
