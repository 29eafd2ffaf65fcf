-- Why a version's writes to the pairs of one element are those of that element.
use Rattle.std.specs.Prelude.{◌≡◌, ◌≢◌, ℕ, Bool, true, false, T, ◌&&◌, List, [], ◌∷◌, Some, None, cond, refl}
use Rattle.std.specs.FinMap.{get, find, is_sorted, entries, entries_sorted, get-entries, nat_cmp-IsAntisymmetric}
use Rattle.std.specs.FinMap.Entries.{below_all}
use Rattle.std.specs.Cmp.{nat_cmp_total}
use Rattle.std.specs.Ordering.{nat_cmp, eq_by_cmp, is_eq, is_lt}
use Rattle.std.proofs.Common.{sym, ap, ◌∙◌, inl, inr, Ordering, Less, Equal, Greater}
use Rattle.keycode.proofs.Orders.{bytes_cmp_total, bytes_cmp-IsAntisymmetric}
use Rattle.row_map.specs.Rows.{Bytes, Pairs}
use Rattle.row_map.specs.Writes.{written_all, AllKeys}
use Rattle.byte_map.proofs.Written.{written_all-append, written_all-outside, written_all-local, same_or_apart, tied, apart, AllKeys-map, AllKeys-append}
use Rattle.element_state.specs.Elements.{Change, IsStorableChange, owner, HasForm, IsKeyOfElement, form_named, owner_named}
use Rattle.element_state.specs.Laws.{pairs_after}
use Rattle.element_state.specs.lemmas.Apart.{none_some, some_one}
use Rattle.element_state.specs.Schemas.{Entry, Schema, state_of, Kinds, writes_of, AreLawful, version_writes}

both_less : (r : Ordering) (b : Bool) → T (is_lt r && b) → (is_eq r ≡ false) × T b
both_less Less b h = (refl, h)
both_less Equal b h = absurd h
both_less Greater b h = absurd h

pub not_found : {X : Type 0} (q : ℕ) (es : List (ℕ × X)) → T (below_all nat_cmp q es) → find nat_cmp q es ≡ None
not_found q [] h = refl
not_found q (e ∷ es) h =
    let b = both_less (nat_cmp q e.0) (below_all nat_cmp q es) h in
    ap (λ t. cond t (Some e.1) (find nat_cmp q es)) b.0 ∙ not_found q es b.1

pub second : (a b : Bool) → T (a && b) → T b
second true b h = h
second false b h = absurd h

pub first : (a b : Bool) → T (a && b) → T a
first true b h = tt
first false b h = absurd h

pub found : {X : Type 0} (n : ℕ) (e : ℕ × X) (es : List (ℕ × X)) → n ≡ e.0 → find nat_cmp n (e ∷ es) ≡ None → ⊥
found n e es s none =
    let here : find nat_cmp n (e ∷ es) ≡ Some e.1 = ap (λ t. cond t (Some e.1) (find nat_cmp n es)) (ap (λ y. eq_by_cmp nat_cmp n y) (sym s) ∙ tied nat_cmp_total nat_cmp-IsAntisymmetric n) in
    none_some e.1 (sym none ∙ here)

module _ {K : Type 0} (ks : Kinds K) where
  -- each element of a list is as its laws want it
  abbrev LawfulList : List (ℕ × Entry K) → Type 0
  LawfulList [] = Unit {0}
  LawfulList (e ∷ es) = ks.lawful e.0 e.1.kind × LawfulList es

  lawful_list : (es : List (ℕ × Entry K)) → T (is_sorted nat_cmp es) → ((n : ℕ) (d : Entry K) → find nat_cmp n es ≡ Some d → ks.lawful n d.kind) → LawfulList es
  lawful_list [] sorted h = tt
  lawful_list (e ∷ es) sorted h = (
    h e.0 e.1 (ap (λ t. cond t (Some e.1) (find nat_cmp e.0 es)) (tied nat_cmp_total nat_cmp-IsAntisymmetric e.0)),
    lawful_list es (second _ _ sorted) (λ n d is. elim (same_or_apart nat_cmp_total nat_cmp-IsAntisymmetric n e.0) [
      | inl s ↦ absurd (none_some d (sym (ap (λ y. find nat_cmp y es) s ∙ not_found e.0 es (first _ _ sorted)) ∙ is))
      | inr ne ↦ h n d (ap (λ t. cond t (Some e.1) (find nat_cmp n es)) (apart nat_cmp_total nat_cmp-IsAntisymmetric n e.0 ne) ∙ is)
    ]),
  )

  lawful_entries : (s : Schema K) → AreLawful ks s → LawfulList (entries s)
  lawful_entries s h = lawful_list (entries s) (entries_sorted s) (λ n d is. h n d (get-entries s n ∙ is))

  module _ (c : Change) (both : IsStorableChange c) where
    -- one entry of another number
    one_other : (n : ℕ) (x : Bytes) → owner x ≡ Some n → (e : ℕ × Entry K) → ks.lawful e.0 e.1.kind → n ≢ e.0 → (P : Pairs) → get (pairs_after (ks.meaning e.0 e.1.kind) e.1.state c P) x ≡ get P x
    one_other n x own e lawful ne P =
        let m = ks.meaning e.0 e.1.kind in
        written_all-outside bytes_cmp_total bytes_cmp-IsAntisymmetric (IsKeyOfElement m.number) x
        (λ is. ne (some_one n e.0 (sym own ∙ owner_named m.number x is ∙ ap Some (ks.numbered e.0 e.1.kind))))
        (m.writes e.1.state c) ((ks.laws e.0 e.1.kind lawful).writes_owned e.1.state c both) P

    -- an element whose number no entry has
    others_write : (n : ℕ) (x : Bytes) → owner x ≡ Some n → (es : List (ℕ × Entry K)) → LawfulList es → find nat_cmp n es ≡ None → (P : Pairs) → get (written_all P (writes_of ks.meaning es c)) x ≡ get P x
    others_write n x own [] lawful none P = refl
    others_write n x own (e ∷ es) lawful none P =
        elim (same_or_apart nat_cmp_total nat_cmp-IsAntisymmetric n e.0) [
          | inl s ↦ absurd (found n e es s none)
          | inr ne ↦
              let none_later : find nat_cmp n es ≡ None = sym (ap (λ t. cond t (Some e.1) (find nat_cmp n es)) (apart nat_cmp_total nat_cmp-IsAntisymmetric n e.0 ne)) ∙ none in
              ap (λ m. get m x) (written_all-append P ((ks.meaning e.0 e.1.kind).writes e.1.state c) (writes_of ks.meaning es c))
              ∙ others_write n x own es lawful.1 none_later (pairs_after (ks.meaning e.0 e.1.kind) e.1.state c P)
              ∙ one_other n x own e lawful.0 ne P
        ]

    -- an element's pairs change by its own writes alone
    own_write : (n : ℕ) (x : Bytes) (d : Entry K) → owner x ≡ Some n → (es : List (ℕ × Entry K)) → LawfulList es → T (is_sorted nat_cmp es) → find nat_cmp n es ≡ Some d → (P : Pairs)
        → get (written_all P (writes_of ks.meaning es c)) x ≡ get (pairs_after (ks.meaning n d.kind) d.state c P) x
    own_write n x d own [] lawful sorted is P = absurd (none_some d is)
    own_write n x d own (e ∷ es) lawful sorted is P =
        ap (λ m. get m x) (written_all-append P ((ks.meaning e.0 e.1.kind).writes e.1.state c) (writes_of ks.meaning es c))
        ∙ elim (same_or_apart nat_cmp_total nat_cmp-IsAntisymmetric n e.0) [
          | inl s ↦
              let here : find nat_cmp n (e ∷ es) ≡ Some e.1 = ap (λ t. cond t (Some e.1) (find nat_cmp n es)) (ap (λ y. eq_by_cmp nat_cmp n y) (sym s) ∙ tied nat_cmp_total nat_cmp-IsAntisymmetric n) in
              let same : e.1 ≡ d = some_one e.1 d (sym here ∙ is) in
              others_write n x own es lawful.1 (ap (λ y. find nat_cmp y es) s ∙ not_found e.0 es (first _ _ sorted)) (pairs_after (ks.meaning e.0 e.1.kind) e.1.state c P)
              ∙ ap (λ y. get (pairs_after (ks.meaning y e.1.kind) e.1.state c P) x) (sym s)
              ∙ ap (λ y. get (pairs_after (ks.meaning n y.kind) y.state c P) x) same
          | inr ne ↦
              let later : find nat_cmp n es ≡ Some d = sym (ap (λ t. cond t (Some e.1) (find nat_cmp n es)) (apart nat_cmp_total nat_cmp-IsAntisymmetric n e.0 ne)) ∙ is in
              own_write n x d own es lawful.1 (second _ _ sorted) later (pairs_after (ks.meaning e.0 e.1.kind) e.1.state c P)
              ∙ written_all-local bytes_cmp_total bytes_cmp-IsAntisymmetric x ((ks.meaning n d.kind).writes d.state c) (pairs_after (ks.meaning e.0 e.1.kind) e.1.state c P) P (one_other n x own e lawful.0 ne P)
        ]

  formed_list : (c : Change) → IsStorableChange c → (es : List (ℕ × Entry K)) → LawfulList es → AllKeys HasForm (writes_of ks.meaning es c)
  formed_list c both [] lawful = tt
  formed_list c both (e ∷ es) lawful =
      let m = ks.meaning e.0 e.1.kind in
      AllKeys-append HasForm (m.writes e.1.state c) (writes_of ks.meaning es c)
      (AllKeys-map (IsKeyOfElement m.number) HasForm (form_named m.number) (m.writes e.1.state c) ((ks.laws e.0 e.1.kind lawful.0).writes_owned e.1.state c both))
      (formed_list c both es lawful.1)

  -- a version writes pairs alone
  pub formed_writes : (s : Schema K) → AreLawful ks s → (c : Change) → IsStorableChange c → AllKeys HasForm (version_writes ks s c)
  formed_writes s lawful c both = formed_list c both (entries s) (lawful_entries s lawful)

  -- what a version's writes do to the pairs of element n, in the words of any of its meanings
  pub at_own : (s : Schema K) → AreLawful ks s → (c : Change) → IsStorableChange c → (n : ℕ) (k : K) → ks.lawful n k → (P : Pairs) (x : Bytes) → owner x ≡ Some n → ((e : Entry K) → get s n ≡ Some e → e.kind ≡ k)
      → get (written_all P (version_writes ks s c)) x ≡ get (pairs_after (ks.meaning n k) (state_of (get s n)) c P) x
  at_own s lawful c both n k kind P x own of_kind = elim (get s n) as (λ o. get s n ≡ o → get (written_all P (version_writes ks s c)) x ≡ get (pairs_after (ks.meaning n k) (state_of o) c P) x) [
    | None ↦ λ e. others_write c both n x own (entries s) (lawful_entries s lawful) (sym (get-entries s n) ∙ e) P ∙ ap (λ ws. get (written_all P ws) x) (sym ((ks.laws n k kind).absent c))
    | Some d ↦ λ e. own_write c both n x d own (entries s) (lawful_entries s lawful) (entries_sorted s) (sym (get-entries s n) ∙ e) P ∙ ap (λ y. get (pairs_after (ks.meaning n y) d.state c P) x) (of_kind d e)
  ] refl

  pub at_none : (s : Schema K) → AreLawful ks s → (c : Change) → IsStorableChange c → (n : ℕ) (P : Pairs) (x : Bytes) → owner x ≡ Some n → get s n ≡ None → get (written_all P (version_writes ks s c)) x ≡ get P x
  at_none s lawful c both n P x own none = others_write c both n x own (entries s) (lawful_entries s lawful) (sym (get-entries s n) ∙ none) P
