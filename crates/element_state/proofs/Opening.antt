-- Why an empty core keeps what the core keeps.
use Rattle.std.specs.Prelude.{◌≡◌, ◌≢◌, ℕ, Option, Some, None, refl}
use Rattle.std.specs.FinMap.{get, empty, get-empty}
use Rattle.std.specs.Ordering.{nat_cmp}
use Rattle.std.proofs.Common.{inl}
use Rattle.keycode.specs.Order.{bytes_cmp}
use Rattle.row_map.specs.Rows.{Bytes, RowKey, Cells, row_cmp}
use Rattle.schema_version.specs.declared.element.ElementState.{ElementState}
use Rattle.schema_version.specs.declared.element.ElementState.TheVariants.{Absent, DeleteOnly, WriteOnly, Public}
use Rattle.element_state.specs.Elements.{Meaning, Subset, Demand}
use Rattle.element_state.specs.Schemas.{Entry, Schema, state_of, Kinds, AreLawful}
use Rattle.element_state.specs.Core.{Meets, JoinedAt, NeverPublic, Invariant}
use Rattle.element_state.specs.lemmas.Apart.{hidden_not_public, not_none}
use Rattle.element_state.specs.Opening.{opened}

nothing_there : {A B : Type 0} (v : A) (o : Option A) → o ≡ None → o ≡ Some v → B
nothing_there v o e f = absurd (not_none v o f e)

no_pair : {A : Type 0} (x v : Bytes) → get {R = bytes_cmp} empty x ≡ Some v → A
no_pair x v is = nothing_there v _ (get-empty bytes_cmp x) is

no_row : {A : Type 0} (k : RowKey) (r : Cells) → get {R = row_cmp} empty k ≡ Some r → A
no_row k r at = nothing_there r _ (get-empty row_cmp k) at

absent_public : Absent ≢ Public
absent_public = hidden_not_public Absent tt

empty_subset : (m : Meaning) → Subset m empty empty
empty_subset m x v own is = no_pair x v is

empty_demand : (m : Meaning) (q : ElementState) → Demand m q empty empty
empty_demand m Absent = λ x own. get-empty bytes_cmp x
empty_demand m DeleteOnly = empty_subset m
empty_demand m WriteOnly = empty_subset m
empty_demand m Public = record { subset = empty_subset m; covered = λ k r v at val. no_row k r at }

module _ {K : Type 0} (ks : Kinds K) where
  empty_meets : (n : ℕ) (o : Option (Entry K)) → Meets ks n o empty empty
  empty_meets n None = λ x own. get-empty bytes_cmp x
  empty_meets n (Some e) = empty_demand (ks.meaning n e.kind) e.state

  joined_itself : (n : ℕ) (o : Option (Entry K)) → JoinedAt ks n o o
  joined_itself n None = tt
  joined_itself n (Some e) = (refl, inl refl)

  not_public : (next n : ℕ) (o : Option (Entry K)) → NeverPublic ks next n o → state_of o ≢ Public
  not_public next n None h = absent_public
  not_public next n (Some e) h = h.1

  pub opened_holds : (s : Schema K) (next : ℕ) → AreLawful ks s → Invariant ks (opened s next)
  opened_holds s next lawful = record {
    held = λ k r at. no_row k r at;
    formed = λ x v is. no_pair x v is;
    lawful_before = lawful;
    lawful_newest = lawful;
    joined = λ n. joined_itself n (get s n);
    before = λ n. empty_meets n (get s n);
    newest = λ n. empty_meets n (get s n);
    reached = λ n p at. nothing_there p _ (get-empty nat_cmp n) at;
    bare = λ n never. (λ k r at. no_row k r at, not_public next n (get s n) never);
  }
