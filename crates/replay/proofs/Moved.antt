-- What an allowed step makes of a version, as the elements' laws see it.
use Rattle.std.proofs.Common.{◌≡◌, ℕ, ◌≤◌, List, [], ◌∷◌, Option, Some, None, option_map, refl, sym, ap, ap₂, subst, Contains, ◌∙◌, inl, inr, Bool, true, false, cond, arith}
use Rattle.std.specs.Prelude.{◌≢◌, IsTrue}
use Rattle.std.specs.FinMap as map
use Rattle.std.specs.Ordering.{nat_cmp, eq_by_cmp}
use Rattle.schema_version.specs.declared.element.ElementState.{ElementState}
use Rattle.schema_version.specs.declared.element.ElementState.TheVariants.{Absent, DeleteOnly, WriteOnly, Public}
use Rattle.schema_version.specs.declared.element.Way.{Way}
use Rattle.schema_version.specs.declared.element.Way.TheVariants.{Adding, Dropping}
use Rattle.schema_version.specs.declared.element.Kind.{Kind}
use Rattle.schema_version.specs.declared.element.Kind.TheVariants.{Index, Optional, Required}
use Rattle.schema_version.specs.declared.element.ElementDef.{ElementDef}
use Rattle.schema_version.specs.declared.step.Move.{Move}
use Rattle.schema_version.specs.declared.step.Move.TheVariants.{Enter, Go, Turn}
use Rattle.schema_version.specs.Edges.{edge, edge_by, is_filled, HasEdge}
use Rattle.schema_version.specs.Version.{Version, element_at, indexed_columns}
use Rattle.schema_version.proofs.Lists.{here, later}
use Rattle.keycode.specs.declared.value.Value.{Value}
use Rattle.element_state.specs.Column.{column_edge}
use Rattle.element_state.specs.Index.{index_edge}
use Rattle.element_state.specs.Sources.{Source, IndexOn, OptionalIn, RequiredIn, source_in, default_value_at, default_or_null}
use mathlib.Core.List.{map as each}
use Rattle.schema_version.specs.Moves.{moved, turned, after_move, after_step}
use Rattle.schema_version.specs.Steps.{in_state_or_none, StepOf, Same, New, Next, Back}
use Rattle.schema_version.proofs.Changes.{moved_next, turned_next}
use Rattle.element_state.specs.Core.{JoinedAt}
use Rattle.element_state.specs.Laws.{IsLive}
use Rattle.element_state.specs.Schemas.{Entry}
use Rattle.element_state.specs.Versions.{ElementKind, Of, the_kinds, meaning_of, schema_of, entry_of, row_entry}
use Rattle.element_state.proofs.Versions.{get-schema_of}
use Rattle.replay.proofs.Time.{joined_itself}

no_way : {B : Type 0} {next : Way} → None ≡ Some next → B
no_way e = absurd cc

-- ---- edges

-- whether a fill puts the pairs that are built so
abbrev pub filled_of : Source → Bool
filled_of (IndexOn columns) = true
filled_of (OptionalIn type) = false
filled_of (RequiredIn type fallback) = true

pub filled_in : (version : Version) (kind : Kind) → filled_of (source_in version kind) ≡ is_filled kind
filled_in version (Index columns) = refl
filled_in version (Optional type) = refl
filled_in version (Required type fallback) = refl

filled_edge : (way : Way) (from to : ElementState) (next : Way) → edge_by true way from to ≡ Some next → IsTrue (index_edge from to)
filled_edge Adding Absent DeleteOnly next e = refl
filled_edge Adding DeleteOnly WriteOnly next e = refl
filled_edge Adding WriteOnly Public next e = refl
filled_edge way Public WriteOnly next e = refl
filled_edge Dropping WriteOnly DeleteOnly next e = refl
filled_edge Dropping DeleteOnly Absent next e = refl
filled_edge way from to next e = no_way e

plain_edge : (way : Way) (from to : ElementState) (next : Way) → edge_by false way from to ≡ Some next → IsTrue (column_edge from to)
plain_edge Adding Absent DeleteOnly next e = refl
plain_edge Adding DeleteOnly Public next e = refl
plain_edge way Public DeleteOnly next e = refl
plain_edge Dropping DeleteOnly Absent next e = refl
plain_edge way from to next e = no_way e

-- an edge of a kind is one in the words of the laws
edges_in : (table n : ℕ) (source : Source) (filled : Bool) (way : Way) (from to : ElementState) (next : Way) → filled_of source ≡ filled → edge_by filled way from to ≡ Some next → IsTrue ((meaning_of n (Of table source)).edge from to)
edges_in table n (IndexOn columns) true way from to next is e = filled_edge way from to next e
edges_in table n (RequiredIn type fallback) true way from to next is e = filled_edge way from to next e
edges_in table n (OptionalIn type) false way from to next is e = plain_edge way from to next e
edges_in table n (IndexOn columns) false way from to next is e = absurd cc
edges_in table n (RequiredIn type fallback) false way from to next is e = absurd cc
edges_in table n (OptionalIn type) true way from to next is e = absurd cc

pub edge_in : (version : Version) (table n : ℕ) (kind : Kind) (way : Way) (from to : ElementState) (next : Way) → edge kind way from to ≡ Some next → IsTrue ((meaning_of n (Of table (source_in version kind))).edge from to)
edge_in version table n kind way from to next e = edges_in table n (source_in version kind) (is_filled kind) way from to next (filled_in version kind) e

-- nothing enters as public
none_at_once : (filled : Bool) (way next : Way) → edge_by filled way Absent Public ≡ Some next → ⊥
none_at_once true Adding next e = no_way e
none_at_once true Dropping next e = no_way e
none_at_once false Adding next e = no_way e
none_at_once false Dropping next e = no_way e

pub not_at_once : (kind : Kind) → HasEdge kind Absent Public → ⊥
not_at_once kind (way, next, e) = none_at_once (is_filled kind) way next e

-- ---- a version as the laws see it

-- the `exists` pairs under number 0, and else the element
abbrev pub visible : Version → Bool → Option ElementDef → Option (Entry ElementKind)
visible version b o = cond b (Some row_entry) (option_map (entry_of version) o)

abbrev pub is_zero : ℕ → Bool
is_zero n = eq_by_cmp nat_cmp n 0

pub get_visible : (version : Version) (n : ℕ) → map.get (schema_of version) n ≡ visible version (is_zero n) (element_at version n)
get_visible version n = get-schema_of version n

module _ (version : Version) where
  next_joined : (n : ℕ) (x : ElementDef) (to : ElementState) (way : Way) → edge x.kind x.way x.state to ≡ Some way → JoinedAt the_kinds n (Some (entry_of version x)) (option_map (entry_of version) (in_state_or_none x to))
  next_joined n x Absent way e = inr (edge_in version x.table n x.kind x.way x.state Absent way e)
  next_joined n x DeleteOnly way e = (refl, inr (edge_in version x.table n x.kind x.way x.state DeleteOnly way e))
  next_joined n x WriteOnly way e = (refl, inr (edge_in version x.table n x.kind x.way x.state WriteOnly way e))
  next_joined n x Public way e = (refl, inr (edge_in version x.table n x.kind x.way x.state Public way e))

  abbrev Joins : ℕ → Option ElementDef → Option ElementDef → Type 0
  Joins n a b = JoinedAt the_kinds n (option_map (entry_of version) a) (option_map (entry_of version) b)

  joined_def : (n next : ℕ) (old new : Option ElementDef) → StepOf next n old new → Joins n old new
  joined_def n next old new (Same e) = subst (λ (o : Option ElementDef). Joins n old o) (sym e) (joined_itself n (option_map (entry_of version) old))
  joined_def n next old new (New fresh to le has none is) =
      subst (λ (o : Option ElementDef). Joins n o new) (sym none)
      (subst (λ (o : Option ElementDef). JoinedAt the_kinds n None (option_map (entry_of version) o)) (sym is) (inr (edge_in version fresh.table n fresh.kind has.0 Absent to has.1 has.2)))
  joined_def n next old new (Next x to way e was is) =
      subst (λ (o : Option ElementDef). Joins n o new) (sym was)
      (subst (λ (o : Option ElementDef). JoinedAt the_kinds n (Some (entry_of version x)) (option_map (entry_of version) o)) (sym is) (next_joined n x to way e))
  joined_def n next old new (Back x private way was is) =
      subst (λ (o : Option ElementDef). Joins n o new) (sym was)
      (subst (λ (o : Option ElementDef). JoinedAt the_kinds n (Some (entry_of version x)) (option_map (entry_of version) o)) (sym is) (refl, inl refl))

  -- an element and what a step makes of it, seen by one version, are built from the same, and in equal states or in states that an edge joins
  pub joined_step : (b : Bool) (n next : ℕ) (old new : Option ElementDef) → StepOf next n old new → JoinedAt the_kinds n (visible version b old) (visible version b new)
  joined_step true n next old new st = joined_itself n (Some row_entry)
  joined_step false n next old new st = joined_def n next old new st

-- ---- what pairs are built from, in a version and in one where the columns that an index lists are the same

listed_same : (v s : Version) (cs : List ℕ) → ((c : ℕ) → Contains cs c → element_at s c ≡ element_at v c) → each {B = ℕ × Value} (λ c. (c, default_value_at s c)) cs ≡ each (λ c. (c, default_value_at v c)) cs
listed_same v s [] same = refl
listed_same v s (c ∷ cs) same =
    ap₂ (λ (x : ℕ × Value) (xs : List (ℕ × Value)). x ∷ xs) (ap (λ o. (c, default_or_null o)) (same c (here c cs))) (listed_same v s cs (λ d there. same d (later c d cs there)))

pub source_same : (v s : Version) (kind : Kind) → ((c : ℕ) → Contains (indexed_columns kind) c → element_at s c ≡ element_at v c) → source_in s kind ≡ source_in v kind
source_same v s (Index columns) same = ap IndexOn (listed_same v s columns same)
source_same v s (Optional type) same = refl
source_same v s (Required type fallback) same = refl

pub live_state : (q : ElementState) → q ≢ Absent → IsLive q
live_state Absent ne = absurd (ne refl)
live_state DeleteOnly ne = tt
live_state WriteOnly ne = tt
live_state Public ne = tt

-- ---- what a step leaves

moved_tables : (u : Version) (o : Option ElementDef) (to : ElementState) → (moved u o to).tables ≡ u.tables
moved_tables u None to = refl
moved_tables u (Some e) Absent = refl
moved_tables u (Some e) DeleteOnly = refl
moved_tables u (Some e) WriteOnly = refl
moved_tables u (Some e) Public = refl

turned_tables : (u : Version) (o : Option ElementDef) → (turned u o).tables ≡ u.tables
turned_tables u None = refl
turned_tables u (Some e) = refl

move_tables : (u : Version) (m : Move) → (after_move u m).tables ≡ u.tables
move_tables u (Enter fresh to) = refl
move_tables u (Go n to) = moved_tables u (element_at u n) to
move_tables u (Turn n) = turned_tables u (element_at u n)

-- no step changes the tables
pub same_tables : (u : Version) (moves : List Move) → (after_step u moves).tables ≡ u.tables
same_tables u [] = refl
same_tables u (m ∷ moves) = same_tables (after_move u m) moves ∙ move_tables u m

move_next : (u : Version) (m : Move) → u.next ≤ (after_move u m).next
move_next u (Enter fresh to) = omega arith
move_next u (Go n to) = omega (arith, moved_next u (element_at u n) to)
move_next u (Turn n) = omega (arith, turned_next u (element_at u n))

-- numbers only rise
pub next_rises : (u : Version) (moves : List Move) → u.next ≤ (after_step u moves).next
next_rises u [] = omega arith
next_rises u (m ∷ moves) = omega (arith, move_next u m, next_rises (after_move u m) moves)
