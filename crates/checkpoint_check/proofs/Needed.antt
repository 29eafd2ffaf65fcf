-- Versions that may be in use beside each other, as the core sees them, are found to be.
use Rattle.std.specs.Prelude.{◌≡◌, ◌≢◌, ℕ, zero, suc, ◌≤◌, ◌||◌, Bool, true, false, IsTrue, cond, List, [], ◌∷◌, Option, Some, None, option_map, refl}
use Rattle.std.specs.FinMap as map
use Rattle.std.proofs.Common.{sym, ap, subst, ◌∙◌, arith, inl, inr}
use mathlib.Core.List.{map as each}
use Rattle.keycode.specs.declared.value.Value.{Value}
use Rattle.schema_version.specs.declared.element.ElementState.{ElementState}
use Rattle.schema_version.specs.declared.element.ElementState.TheVariants.{Absent, DeleteOnly, WriteOnly, Public}
use Rattle.schema_version.specs.declared.element.Kind.{Kind}
use Rattle.schema_version.specs.declared.element.Kind.TheVariants.{Index, Optional, Required}
use Rattle.schema_version.specs.declared.element.ElementDef.{ElementDef}
use Rattle.schema_version.specs.Edges.{is_filled}
use Rattle.schema_version.specs.Sound.{IsSoundVersion}
use Rattle.schema_version.specs.Version.{Version, element_at}
use Rattle.element_state.specs.Column.{column_edge}
use Rattle.element_state.specs.Core.{JoinedAt, NeverPublic}
use Rattle.element_state.specs.Index.{index_edge}
use Rattle.element_state.specs.Kinds.{kind_meaning}
use Rattle.element_state.specs.Laws.{Joined}
use Rattle.element_state.specs.Schemas.{state_of}
use Rattle.element_state.specs.Sources.{Source, IndexOn, OptionalIn, RequiredIn, source_in, default_value_at}
use Rattle.element_state.specs.Tables.{within}
use Rattle.element_state.specs.Versions.{ElementKind, Row, Of, the_kinds, schema_of, entry_of, is_adding}
use Rattle.replay.proofs.Agree.{at_number}
use Rattle.checkpoint_check.specs.inner.Beside.{is_same_state, are_states_beside, AreElementsBeside, AreBeside}

-- ---- states

same_itself : (q : ElementState) → is_same_state q q ≡ true
same_itself Absent = refl
same_itself DeleteOnly = refl
same_itself WriteOnly = refl
same_itself Public = refl

or_right : (a b : Bool) → b ≡ true → (a || b) ≡ true
or_right true b e = refl
or_right false b e = e

states_beside : (table number : ℕ) (version : Version) (kind : Kind) (p q : ElementState) → Joined (within table (kind_meaning number (source_in version kind))) p q → are_states_beside (is_filled kind) p q ≡ true
states_beside table number version kind p q (inl same) =
    ap (λ (s : ElementState). are_states_beside (is_filled kind) s q) same
    ∙ ap (λ b. b || cond (is_filled kind) (index_edge q q) (column_edge q q)) (same_itself q)
states_beside table number version kind p q (inr edge) = or_right (is_same_state p q) (cond (is_filled kind) (index_edge p q) (column_edge p q)) (by kind edge)
  where
    by : (k : Kind) → IsTrue ((within table (kind_meaning number (source_in version k))).edge p q) → cond (is_filled k) (index_edge p q) (column_edge p q) ≡ true
    by (Index columns) edge = edge
    by (Optional type) edge = edge
    by (Required type fallback) edge = edge

-- ---- kinds

abbrev kind_of : Source → Kind
kind_of (IndexOn columns) = Index (each (λ (c : ℕ × Value). c.0) columns)
kind_of (OptionalIn type) = Optional type
kind_of (RequiredIn type fallback) = Required type fallback

numbers_of : (version : Version) (columns : List ℕ) → each (λ (c : ℕ × Value). c.0) (each (λ c. (c, default_value_at version c)) columns) ≡ columns
numbers_of version [] = refl
numbers_of version (c ∷ cs) = ap (λ (l : List ℕ). c ∷ l) (numbers_of version cs)

kind_again : (version : Version) (kind : Kind) → kind_of (source_in version kind) ≡ kind
kind_again version (Index columns) = ap Index (numbers_of version columns)
kind_again version (Optional type) = refl
kind_again version (Required type fallback) = refl

abbrev table_of : ElementKind → ℕ
table_of Row = 0
table_of (Of table source) = table

abbrev source_of : ElementKind → Source
source_of Row = IndexOn []
source_of (Of table source) = source

-- ---- versions

public_or : (q : ElementState) → ((q ≢ Public) → ⊥) → q ≡ Public
public_or Absent not = absurd (not (λ e. absurd cc))
public_or DeleteOnly not = absurd (not (λ e. absurd cc))
public_or WriteOnly not = absurd (not (λ e. absurd cc))
public_or Public not = refl

module _ (before newest : Version) (sound : IsSoundVersion before) (sound_newest : IsSoundVersion newest) (tables : before.tables ≡ newest.tables)
    (joined : (n : ℕ) → JoinedAt the_kinds n (map.get (schema_of before) n) (map.get (schema_of newest) n))
    (hidden : (n : ℕ) → NeverPublic the_kinds newest.next n (map.get (schema_of newest) n) → state_of (map.get (schema_of before) n) ≢ Public) where
  joined_at : (n : ℕ) → 1 ≤ n → JoinedAt the_kinds n (option_map (entry_of before) (element_at before n)) (option_map (entry_of newest) (element_at newest n))
  joined_at n some =
      subst (λ o. JoinedAt the_kinds n o (option_map (entry_of newest) (element_at newest n))) (at_number before n some)
      (subst (λ p. JoinedAt the_kinds n (map.get (schema_of before) n) p) (at_number newest n some) (joined n))

  hidden_at : (n : ℕ) → 1 ≤ n → NeverPublic the_kinds newest.next n (option_map (entry_of newest) (element_at newest n)) → state_of (option_map (entry_of before) (element_at before n)) ≢ Public
  hidden_at n some never =
      subst (λ o. state_of o ≢ Public) (at_number before n some)
      (hidden n (subst (NeverPublic the_kinds newest.next n) (sym (at_number newest n some)) never))

  elements_at : (n : ℕ) (o p : Option ElementDef) → JoinedAt the_kinds n (option_map (entry_of before) o) (option_map (entry_of newest) p)
      → (NeverPublic the_kinds newest.next n (option_map (entry_of newest) p) → state_of (option_map (entry_of before) o) ≢ Public) → AreElementsBeside o p
  elements_at n None None j h = tt
  elements_at n None (Some e) j h = states_beside e.table n newest e.kind Absent e.state j
  elements_at n (Some d) None j h = states_beside d.table n before d.kind d.state Absent j
  elements_at n (Some d) (Some e) j h =
      let kind : d.kind ≡ e.kind = sym (kind_again before d.kind) ∙ ap (λ (k : ElementKind). kind_of (source_of k)) j.0 ∙ kind_again newest e.kind in
      record {
        table = ap table_of j.0;
        kind = kind;
        states = subst (λ (k : Kind). are_states_beside (is_filled k) d.state e.state ≡ true) kind (states_beside d.table n before d.kind d.state e.state j.1);
        hidden = λ public adding. public_or e.state (λ other. h (ap is_adding adding, other) public);
      }

  first : (version : Version) → IsSoundVersion version → element_at version 0 ≡ None
  first version s = by (element_at version 0) refl
    where
      by : (o : Option ElementDef) → element_at version 0 ≡ o → element_at version 0 ≡ None
      by None is = is
      by (Some e) is = absurd (omega (arith, (s.elements 0 e is).first))

  elements : (n : ℕ) → AreElementsBeside (element_at before n) (element_at newest n)
  elements zero = subst (λ o. AreElementsBeside o (element_at newest 0)) (sym (first before sound)) (subst (λ p. AreElementsBeside None p) (sym (first newest sound_newest)) tt)
  elements (suc n) = elements_at (suc n) (element_at before (suc n)) (element_at newest (suc n)) (joined_at (suc n) (omega arith)) (hidden_at (suc n) (omega arith))

  pub are_beside : AreBeside before newest
  are_beside = record { tables = tables; elements = elements }
