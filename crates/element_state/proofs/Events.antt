-- An operation of a transaction keeps what the core keeps, from the laws alone.
use Rattle.std.specs.Prelude.{◌≡◌, ◌≢◌, ◌⊎◌, ℕ, IsTrue, List, Option, Some, None, refl}
use Rattle.std.specs.FinMap.{get}
use Rattle.std.proofs.Common.{sym, ap, subst, ◌∙◌, inl, inr}
use Rattle.row_map.specs.Rows.{RowKey, Cells, Rows, AreStorable}
use Rattle.keycode.proofs.Orders.{bytes_cmp_total, bytes_cmp-IsAntisymmetric}
use Rattle.row_map.specs.Writes.{written_all}
use Rattle.byte_map.proofs.Written.{written_all-keys}
use Rattle.schema_version.specs.declared.element.ElementState.{ElementState}
use Rattle.schema_version.specs.declared.element.ElementState.TheVariants.{Absent, Public}
use Rattle.element_state.specs.Elements.{Change, rows_after, Fits, ChangesPublicOnly, cell, HasForm, owner_named}
use Rattle.element_state.specs.Laws.{pairs_after, Operates, Laws}
use Rattle.element_state.specs.lemmas.Effects.{row_here, row_apart, key_one, none_where, both_storable, storable_after}
use Rattle.element_state.specs.Schemas.{Entry, Schema, state_of, Kinds, AreLawful, version_writes}
use Rattle.element_state.proofs.Schemas.{at_own, formed_writes}
use Rattle.schema_version.specs.declared.element.Work.{Work}
use Rattle.schema_version.specs.declared.element.Work.TheVariants.{Fill, Clear}
use Rattle.element_state.specs.Core.{PassedSpan, CoreProgress, Core, NoCell, JoinedAt, Runs, Passed, MayRun, Reached, NeverPublic, Invariant, committed}
use Rattle.element_state.proofs.Core.{used_lawful, meets_after}
use Rattle.element_state.specs.lemmas.Apart.{not_none, hidden_not_public, none_some, some_one}

absent_not_public : Absent ≢ Public
absent_not_public = hidden_not_public Absent tt

old_bare : (n : ℕ) (k : RowKey) (R : Rows) → NoCell n R → (o : Option Cells) → get R k ≡ o → cell o n ≡ None
old_bare n k R none None is = refl
old_bare n k R none (Some r) is = none k r is

-- a row that an operation writes has no cell of what isn't public there
bare_after : (n : ℕ) (q : ElementState) (c : Change) (R : Rows) → q ≢ Public → ChangesPublicOnly n q c → Fits R c → NoCell n R → NoCell n (rows_after R c)
bare_after n q c R ne only fits none k r at = elim (key_one k c.key) [
  | inl e ↦ only ne r (sym (row_here R c) ∙ ap (get (rows_after R c)) (sym e) ∙ at) ∙ old_bare n c.key R none c.old fits
  | inr away ↦ none k r (sym (row_apart R c k away) ∙ at)
]

module _ {K : Type 0} (ks : Kinds K) where
  never_public : (next n : ℕ) (o : Option (Entry K)) → NeverPublic ks next n o → state_of o ≢ Public
  never_public next n None h = absent_not_public
  never_public next n (Some e) h = h.1

  -- what a reorganisation has passed stays done
  passed_after : (w : Core K) (s : Schema K) (c : Change) (n : ℕ) (k : K) (work : Work) (spans : List PassedSpan) → AreLawful ks s → ks.lawful n k → AreStorable w.rows → Runs ks s w.rows c
      → ((e : Entry K) → get s n ≡ Some e → e.kind ≡ k) → (work ≡ Fill → IsTrue ((ks.meaning n k).filled)) → MayRun ks work k (state_of (get s n))
      → Passed ks n k work spans w.pairs w.rows → Passed ks n k work spans (written_all w.pairs (version_writes ks s c)) (rows_after w.rows c)
  passed_after w s c n k Fill spans lawful kind held runs of_kind filled may done = λ l at r v there val.
      let m = ks.meaning n k in
      let law : Laws m = ks.laws n k kind in
      let op : Operates m (state_of (get s n)) w.rows c = record { fits = runs.fits; public_only = subst (λ y. ChangesPublicOnly y (state_of (get s n)) c) (sym (ks.numbered n k)) (runs.public_only n); before = held; after = runs.storable } in
      at_own ks s lawful c (both_storable w.rows c runs.fits held runs.storable) n k kind w.pairs (m.pair_key l r) (owner_named m.number (m.pair_key l r) (law.owned l r (storable_after w.rows c held runs.storable l r there)) ∙ ap Some (ks.numbered n k)) of_kind
      ∙ law.cover (state_of (get s n)) c w.pairs w.rows (filled refl) may op l (done l at) r v there val
  passed_after w s c n k Clear spans lawful kind held runs of_kind filled may done = λ x own at.
      let m = ks.meaning n k in
      let law : Laws m = ks.laws n k kind in
      at_own ks s lawful c (both_storable w.rows c runs.fits held runs.storable) n k kind w.pairs x own of_kind
      ∙ none_where (get (pairs_after m (state_of (get s n)) c w.pairs) x) (λ v is. not_none v (get w.pairs x) (law.no_growth (state_of (get s n)) c w.pairs may x v is) (done x own at))

  kinds_agree : (n : ℕ) (o : Option (Entry K)) (f : Entry K) → JoinedAt ks n o (Some f) → (e : Entry K) → o ≡ Some e → e.kind ≡ f.kind
  kinds_agree n None f j e is = absurd (none_some e is)
  kinds_agree n (Some d) f j e is = ap (λ (t : Entry K). t.kind) (some_one e d (sym is)) ∙ j.0

  reached_after : (w : Core K) (s : Schema K) (c : Change) → (s ≡ w.before) ⊎ (s ≡ w.newest) → Runs ks s w.rows c → Invariant ks w → (n : ℕ) (p : CoreProgress) → get w.progress n ≡ Some p
      → Reached ks n p w.before w.newest (written_all w.pairs (version_writes ks s c)) (rows_after w.rows c)
  reached_after w s c used runs i n p at =
      let r : Reached ks n p w.before w.newest w.pairs w.rows = i.reached n p at in
      let in_before : (e : Entry K) → get w.before n ≡ Some e → e.kind ≡ r.kind
      = λ e is. kinds_agree n (get w.before n) r.entry (subst (JoinedAt ks n (get w.before n)) r.entry_is (i.joined n)) e is ∙ r.kind_is in
      let in_newest : (e : Entry K) → get w.newest n ≡ Some e → e.kind ≡ r.kind
      = λ e is. ap (λ (t : Entry K). t.kind) (some_one e r.entry (sym is ∙ r.entry_is)) ∙ r.kind_is in
      let of_kind : (e : Entry K) → get s n ≡ Some e → e.kind ≡ r.kind
      = λ e is. elim used [ inl y ↦ in_before e (ap (λ (t : Schema K). get t n) (sym y) ∙ is) | inr y ↦ in_newest e (ap (λ (t : Schema K). get t n) (sym y) ∙ is) ] in
      let may : MayRun ks p.work r.kind (state_of (get s n))
      = elim used [ inl y ↦ subst (λ (t : Schema K). MayRun ks p.work r.kind (state_of (get t n))) (sym y) r.run_before | inr y ↦ subst (λ (t : Schema K). MayRun ks p.work r.kind (state_of (get t n))) (sym y) r.run_newest ] in
      record {
        kind = r.kind;
        entry = r.entry;
        entry_is = r.entry_is;
        kind_is = r.kind_is;
        filled = r.filled;
        run_before = r.run_before;
        run_newest = r.run_newest;
        passed = passed_after w s c n r.kind p.work p.spans (used_lawful ks w s used i) (subst (ks.lawful n) r.kind_is (i.lawful_newest n r.entry r.entry_is)) i.held runs of_kind r.filled may r.passed;
      }

  -- a transaction's operation, by a server at either version
  pub commit_kept : (w : Core K) (s : Schema K) (c : Change) → (s ≡ w.before) ⊎ (s ≡ w.newest) → Runs ks s w.rows c → Invariant ks w → Invariant ks (committed ks w s c)
  commit_kept w s c used runs i = record {
    held = storable_after w.rows c i.held runs.storable;
    formed = written_all-keys bytes_cmp_total bytes_cmp-IsAntisymmetric HasForm (version_writes ks s c) w.pairs (formed_writes ks s (used_lawful ks w s used i) c (both_storable w.rows c runs.fits i.held runs.storable)) i.formed;
    lawful_before = i.lawful_before;
    lawful_newest = i.lawful_newest;
    joined = i.joined;
    before = λ n. (meets_after ks w s c used runs i n).0;
    newest = λ n. (meets_after ks w s c used runs i n).1;
    reached = λ n p at. reached_after w s c used runs i n p at;
    bare = λ n never.
        let b = i.bare n never in
        let not_public : state_of (get s n) ≢ Public = elim used [
          | inl y ↦ subst (λ (t : Schema K). state_of (get t n) ≢ Public) (sym y) b.1
          | inr y ↦ subst (λ (t : Schema K). state_of (get t n) ≢ Public) (sym y) (never_public w.next n (get w.newest n) never)
        ] in
        (bare_after n (state_of (get s n)) c w.rows not_public (runs.public_only n) runs.fits b.0, b.1);
  }
