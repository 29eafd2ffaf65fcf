-- The cells of a version's elements are of their types: kept by each event that changes rows or versions.
use Rattle.std.specs.Prelude.{◌≡◌, ◌≢◌, ◌⊎◌, ℕ, ◌≤◌, Option, Some, None, refl}
use Rattle.std.specs.FinMap.{FinMap, get}
use Rattle.std.specs.Ordering.{nat_cmp}
use Rattle.std.proofs.Common.{sym, ap, subst, ◌∙◌, inl, inr}
use Rattle.keycode.specs.declared.value.Value.{Value}
use Rattle.row_map.specs.Rows.{RowKey, Cells, Rows}
use Rattle.schema_version.specs.declared.element.ElementState.{ElementState}
use Rattle.schema_version.specs.declared.element.ElementState.TheVariants.{Absent, DeleteOnly, WriteOnly, Public}
use Rattle.element_state.specs.Elements.{Change, rows_after, cell}
use Rattle.element_state.specs.lemmas.Effects.{row_here, row_apart, key_one}
use Rattle.element_state.specs.Schemas.{Entry, Schema, state_of, Kinds}
use Rattle.element_state.specs.Core.{Core, JoinedAt, Runs, NeverPublic, CoreProgress, Invariant}
use Rattle.element_state.specs.Publish.{Steps}
use Rattle.element_state.specs.lemmas.Apart.{hidden_not_public, none_some, some_one}

no_value : {A B : Type 0} (v : A) → None ≡ Some v → B
no_value v e = absurd (none_some v e)

public_or_not : (q : ElementState) → (q ≡ Public) ⊎ (q ≢ Public)
public_or_not Absent = inr (hidden_not_public Absent tt)
public_or_not DeleteOnly = inr (hidden_not_public DeleteOnly tt)
public_or_not WriteOnly = inr (hidden_not_public WriteOnly tt)
public_or_not Public = inl refl

-- of_kind says whether a value can be a cell of an element of the kind
module _ {K : Type 0} (ks : Kinds K) (of_kind : K → Value → Type 0) where
  -- each cell of an element of the version is of its kind's type
  abbrev pub AreTyped : Schema K → Rows → Type 0
  AreTyped s R = (n : ℕ) (e : Entry K) (k : RowKey) (r : Cells) (v : Value) → get s n ≡ Some e → get R k ≡ Some r → get r n ≡ Some v → of_kind e.kind v

  -- what an operation gives the public elements of its version
  abbrev pub GivesTyped : Schema K → Change → Type 0
  GivesTyped s c = (n : ℕ) (e : Entry K) (r : Cells) (v : Value) → get s n ≡ Some e → e.state ≡ Public → c.new ≡ Some r → get r n ≡ Some v → of_kind e.kind v

  old_typed : (t : Schema K) (R : Rows) → AreTyped t R → (n : ℕ) (e : Entry K) → get t n ≡ Some e → (k : RowKey) (o : Option Cells) → get R k ≡ o → (v : Value) → cell o n ≡ Some v → of_kind e.kind v
  old_typed t R typed n e at k None was v is = no_value v is
  old_typed t R typed n e at k (Some r) was v is = typed n e k r v at was is

  -- the kind that the version of the operation gives a public element is the one of any version beside it
  new_typed : (s t : Schema K) (R : Rows) (c : Change) → ((n : ℕ) (d e : Entry K) → get s n ≡ Some d → get t n ≡ Some e → d.kind ≡ e.kind) → Runs ks s R c → GivesTyped s c → AreTyped t R → AreTyped t (rows_after R c)
  new_typed s t R c same runs gives typed n e k r v at row is = elim (key_one k c.key) [
    | inl here ↦
        let new : c.new ≡ Some r = sym (row_here R c) ∙ ap (get (rows_after R c)) (sym here) ∙ row in
        elim (public_or_not (state_of (get s n))) [
          | inl public ↦ shown new (get s n) refl public
          | inr hidden ↦ old_typed t R typed n e at c.key c.old runs.fits v (sym (runs.public_only n hidden r new) ∙ is)
        ]
    | inr away ↦ typed n e k r v at (sym (row_apart R c k away) ∙ row) is
  ]
    where
      not_absent : {A : Type 0} → Absent ≡ Public → A
      not_absent e = absurd (hidden_not_public Absent tt e)

      shown : c.new ≡ Some r → (o : Option (Entry K)) → get s n ≡ o → state_of o ≡ Public → of_kind e.kind v
      shown new None visible public = not_absent public
      shown new (Some d) visible public = subst (λ y. of_kind y v) (same n d e visible at) (gives n d r v visible public new is)

  joined_kinds : (n : ℕ) (o u : Option (Entry K)) → JoinedAt ks n o u → (d e : Entry K) → o ≡ Some d → u ≡ Some e → d.kind ≡ e.kind
  joined_kinds n None u j d e p q = no_value d p
  joined_kinds n (Some f) None j d e p q = no_value e q
  joined_kinds n (Some f) (Some h) j d e p q = ap (λ (x : Entry K). x.kind) (some_one d f (sym p)) ∙ j.0 ∙ ap (λ (x : Entry K). x.kind) (some_one h e q)

  one_kind : (s : Schema K) (n : ℕ) (d e : Entry K) → get s n ≡ Some d → get s n ≡ Some e → d.kind ≡ e.kind
  one_kind s n d e p q = ap (λ (x : Entry K). x.kind) (some_one d e (sym p ∙ q))

  -- an operation under either version keeps the types of both
  pub commit_typed : (w : Core K) (s : Schema K) (c : Change) → (s ≡ w.before) ⊎ (s ≡ w.newest) → Runs ks s w.rows c → GivesTyped s c → Invariant ks w → AreTyped w.before w.rows → AreTyped w.newest w.rows
      → AreTyped w.before (rows_after w.rows c) × AreTyped w.newest (rows_after w.rows c)
  commit_typed w s c used runs gives i before newest = (
    new_typed s w.before w.rows c (λ n d e p q. elim used [
      | inl y ↦ one_kind w.before n d e (ap (λ (t : Schema K). get t n) (sym y) ∙ p) q
      | inr y ↦ sym (joined_kinds n (get w.before n) (get w.newest n) (i.joined n) e d q (ap (λ (t : Schema K). get t n) (sym y) ∙ p))
    ]) runs gives before,
    new_typed s w.newest w.rows c (λ n d e p q. elim used [
      | inl y ↦ joined_kinds n (get w.before n) (get w.newest n) (i.joined n) d e (ap (λ (t : Schema K). get t n) (sym y) ∙ p) q
      | inr y ↦ one_kind w.newest n d e (ap (λ (t : Schema K). get t n) (sym y) ∙ p) q
    ]) runs gives newest,
  )

  -- what a step enters has a number that was never given
  abbrev pub EntersFresh : Core K → Schema K → Type 0
  EntersFresh w s = (n : ℕ) (e : Entry K) → get s n ≡ Some e → get w.newest n ≡ None → w.next ≤ n

  pub publish_typed : (w : Core K) (s : Schema K) (next : ℕ) (progress : FinMap nat_cmp CoreProgress) → Steps ks w s next progress → EntersFresh w s → Invariant ks w → AreTyped w.newest w.rows → AreTyped s w.rows
  publish_typed w s next progress st fresh i typed n e k r v at row is = was (get w.newest n) refl
    where
      no_cell : get r n ≡ None → of_kind e.kind v
      no_cell none = no_value v (sym none ∙ is)

      was : (o : Option (Entry K)) → get w.newest n ≡ o → of_kind e.kind v
      was None visible = no_cell ((i.bare n (subst (λ o. NeverPublic ks w.next n o) (sym visible) (fresh n e at visible))).0 k r row)
      was (Some d) visible = subst (λ y. of_kind y v) (joined_kinds n (get w.newest n) (get s n) (st.joined n) d e visible at) (typed n d k r v visible row is)
