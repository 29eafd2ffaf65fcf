-- What an allowed move needs, and what a move makes of each element.
use Rattle.std.specs.Prelude.{◌≡◌, ◌≢◌, ℕ, ◌+◌, ◌≤◌, List, [], ◌∷◌, Bool, true, false, ◌==◌, Option, Some, None, IsTrue, ◌⊎◌, cond, count_by, refl, ◌&&◌}
use Rattle.std.specs.List.{AllByRecursion}
use Rattle.std.specs.FinMap as map
use Rattle.std.specs.FinMap.{nat_cmp-IsAntisymmetric}
use Rattle.std.specs.Cmp.{nat_cmp_total, tied_itself, Equal-is}
use Rattle.std.specs.Ordering.{nat_cmp, eq_by_cmp, is_eq}
use Rattle.std.proofs.Common.{sym, ap, ◌∙◌, inl, inr, true≢false, arith}
use Rattle.schema_version.specs.declared.element.ElementState.{ElementState}
use Rattle.schema_version.specs.declared.element.ElementState.TheVariants.{Absent, DeleteOnly, WriteOnly, Public}
use Rattle.schema_version.specs.declared.element.Way.{Way}
use Rattle.schema_version.specs.declared.element.Way.TheVariants.{Adding, Dropping}
use Rattle.schema_version.specs.declared.element.Kind.{Kind}
use Rattle.schema_version.specs.declared.element.Kind.TheVariants.{Index, Optional, Required}
use Rattle.schema_version.specs.declared.element.ElementDef.{ElementDef}
use Rattle.schema_version.specs.declared.element.NewElement.{NewElement}
use Rattle.schema_version.specs.declared.step.Move.{Move}
use Rattle.schema_version.specs.declared.step.Move.TheVariants.{Enter, Go, Turn}
use Rattle.schema_version.specs.declared.step.StepFault.{StepFault}
use Rattle.schema_version.specs.declared.step.StepFault.TheVariants.{Unknown, NotAdjacent, WrongWay, Dependent}
use mathlib.Core.List.{map as each}
use Rattle.schema_version.specs.Version.{Version, element_at, indexed_columns, is_like, count_live}
use Rattle.schema_version.proofs.Counts.{count_insert, count_change, count_remove}
use Rattle.schema_version.proofs.Live.{element_at-lookup}
use Rattle.schema_version.specs.Steps.{in_state_or_none}
use Rattle.schema_version.specs.Edges.{edge_by, is_filled, edge}
use Rattle.schema_version.specs.Moves.{as_element, entered, moved, moves_element, is_unready, IsFirstSuch, DependsOn, GoFaultAt, TurnFaultAt, MoveFault, is_entry_like}

-- ---- one number of the map of elements is written

tied : (k : ℕ) → eq_by_cmp nat_cmp k k ≡ true
tied k = ap is_eq (tied_itself nat_cmp_total k)

apart : (q k : ℕ) → q ≢ k → eq_by_cmp nat_cmp q k ≡ false
apart q k ne = elim (eq_by_cmp nat_cmp q k) as (λ b. eq_by_cmp nat_cmp q k ≡ b → b ≡ false) [
  | true ↦ λ e. absurd (ne (nat_cmp-IsAntisymmetric q k ((Equal-is (nat_cmp q k)).0 e)))
  | false ↦ λ e. refl
] refl

pub same_or_apart : (q k : ℕ) → (q ≡ k) ⊎ (q ≢ k)
same_or_apart q k = elim (eq_by_cmp nat_cmp q k) as (λ b. eq_by_cmp nat_cmp q k ≡ b → (q ≡ k) ⊎ (q ≢ k)) [
  | true ↦ λ e. inl (nat_cmp-IsAntisymmetric q k ((Equal-is (nat_cmp q k)).0 e))
  | false ↦ λ e. inr (λ (s : q ≡ k). true≢false (sym (tied k) ∙ ap (λ x. eq_by_cmp nat_cmp x k) (sym s) ∙ e))
] refl

module _ {X : Type 0} where
  pub put_here : (m : map.FinMap nat_cmp X) (k : ℕ) (v : X) → map.get (map.insert m k v) k ≡ Some v
  put_here m k v = map.get-insert nat_cmp_total m k v k ∙ ap (λ b. cond b (Some v) (map.get m k)) (tied k)

  pub put_apart : (m : map.FinMap nat_cmp X) (k : ℕ) (v : X) (q : ℕ) → q ≢ k → map.get (map.insert m k v) q ≡ map.get m q
  put_apart m k v q ne = map.get-insert nat_cmp_total m k v q ∙ ap (λ b. cond b (Some v) (map.get m q)) (apart q k ne)

  pub cut_here : (m : map.FinMap nat_cmp X) (k : ℕ) → map.get (map.remove m k) k ≡ None
  cut_here m k = map.get-remove nat_cmp_total m k k ∙ ap (λ b. cond b None (map.get m k)) (tied k)

  pub cut_apart : (m : map.FinMap nat_cmp X) (k : ℕ) (q : ℕ) → q ≢ k → map.get (map.remove m k) q ≡ map.get m q
  cut_apart m k q ne = map.get-remove nat_cmp_total m k q ∙ ap (λ b. cond b None (map.get m q)) (apart q k ne)

-- ---- one move

pub moved_here : (v : Version) (e : ElementDef) (to : ElementState) → element_at (moved v (Some e) to) e.number ≡ in_state_or_none e to
moved_here v e Absent = cut_here v.elements e.number
moved_here v e DeleteOnly = put_here v.elements e.number _
moved_here v e WriteOnly = put_here v.elements e.number _
moved_here v e Public = put_here v.elements e.number _

pub moved_apart : (v : Version) (e : ElementDef) (to : ElementState) (n : ℕ) → n ≢ e.number → element_at (moved v (Some e) to) n ≡ element_at v n
moved_apart v e Absent n ne = cut_apart v.elements e.number n ne
moved_apart v e DeleteOnly n ne = put_apart v.elements e.number _ n ne
moved_apart v e WriteOnly n ne = put_apart v.elements e.number _ n ne
moved_apart v e Public n ne = put_apart v.elements e.number _ n ne

pub moved_next : (v : Version) (e : ElementDef) (to : ElementState) → (moved v (Some e) to).next ≡ v.next
moved_next v e Absent = refl
moved_next v e DeleteOnly = refl
moved_next v e WriteOnly = refl
moved_next v e Public = refl

pub moved_tables : (v : Version) (e : ElementDef) (to : ElementState) → (moved v (Some e) to).tables ≡ v.tables
moved_tables v e Absent = refl
moved_tables v e DeleteOnly = refl
moved_tables v e WriteOnly = refl
moved_tables v e Public = refl

pub entered_here : (v : Version) (fresh : NewElement) (to : ElementState) → element_at (entered v fresh to) v.next ≡ Some (as_element v.next fresh to)
entered_here v fresh to = put_here v.elements v.next _

pub entered_apart : (v : Version) (fresh : NewElement) (to : ElementState) (n : ℕ) → n ≢ v.next → element_at (entered v fresh to) n ≡ element_at v n
entered_apart v fresh to n ne = put_apart v.elements v.next _ n ne

-- ---- what an allowed move has

pub not_both : {A : Type 0} (v : A) (o : Option A) → o ≡ Some v → o ≡ None → ⊥
not_both v o e f = cc

some_way : (o : Option Way) → ¬ (o ≡ None) → (way : Way) × (o ≡ Some way)
some_way None h = absurd (h refl)
some_way (Some way) h = (way, refl)

pub not_true : (b : Bool) → ¬ (IsTrue b) → b ≡ false
not_true true h = absurd (h refl)
not_true false h = refl

pub record MayGo (version : Version) (step earlier : List Move) (number : ℕ) (to : ElementState) : Type 0 where
  pub element : ElementDef
  pub there : element_at version number ≡ Some element
  pub first : moves_element earlier number ≡ false
  pub way : Way
  pub along : edge element.kind element.way element.state to ≡ Some way
  pub free : (on : ℕ) → ¬ (DependsOn version step number element.kind on)

pub may_go : (version : Version) (step earlier : List Move) (number : ℕ) (to : ElementState) → ((fault : StepFault) → ¬ (MoveFault version step earlier (Go number to) fault)) → MayGo version step earlier number to
may_go version step earlier number to h = pick (element_at version number) refl h
  where
    pick : (o : Option ElementDef) → element_at version number ≡ o → ((fault : StepFault) → ¬ (GoFaultAt version step earlier number o to fault)) → MayGo version step earlier number to
    pick None at h = absurd (h Unknown refl)
    pick (Some e) at h =
        let own : (way : Way) × (edge e.kind e.way e.state to ≡ Some way) = some_way (edge e.kind e.way e.state to) (λ none. h WrongWay none) in
        record { element = e; there = at; first = not_true (moves_element earlier number) (λ t. h NotAdjacent (inr t)); way = own.0; along = own.1; free = λ on d. h (Dependent on) d }

pub record MayTurn (version : Version) (earlier : List Move) (number : ℕ) : Type 0 where
  pub element : ElementDef
  pub there : element_at version number ≡ Some element
  pub first : moves_element earlier number ≡ false
  pub private : element.state ≢ Public
  pub adding : element.way ≡ Adding

pub may_turn : (version : Version) (step earlier : List Move) (number : ℕ) → ((fault : StepFault) → ¬ (MoveFault version step earlier (Turn number) fault)) → MayTurn version earlier number
may_turn version step earlier number h = pick (element_at version number) refl h
  where
    is_adding : (way : Way) → ¬ (way ≡ Dropping) → way ≡ Adding
    is_adding Adding h = refl
    is_adding Dropping h = absurd (h refl)

    pick : (o : Option ElementDef) → element_at version number ≡ o → ((fault : StepFault) → ¬ (TurnFaultAt earlier number o fault)) → MayTurn version earlier number
    pick None at h = absurd (h Unknown refl)
    pick (Some e) at h = record { element = e; there = at; first = not_true (moves_element earlier number) (λ t. h NotAdjacent (inr t)); private = λ public. h NotAdjacent (inl public); adding = is_adding e.way (λ dropping. h WrongWay dropping) }

-- the list has no first such, so none of it is such
pub none_such : (test : ℕ → Bool) (list : List ℕ) → ((found : ℕ) → ¬ (IsFirstSuch test list found)) → AllByRecursion (λ x. test x ≡ false) list
none_such test [] h = tt
none_such test (x ∷ xs) h =
    let e : test x ≡ false = not_true (test x) (λ t. h x ([], xs, refl, t, tt)) in
    (e, none_such test xs (λ found s. h found (x ∷ s.0, s.1, ap (λ r. x ∷ r) s.2, s.3, (e, s.4))))

-- none of the columns moves
abbrev pub AreReady : Version → List Move → Kind → Type 0
AreReady version step kind = AllByRecursion (λ c. is_unready version step c ≡ false) (indexed_columns kind)

pub ready_go : (version : Version) (step : List Move) (number : ℕ) (kind : Kind) → ((on : ℕ) → ¬ (DependsOn version step number kind on)) → AreReady version step kind
ready_go version step number (Index columns) h = none_such (is_unready version step) columns h
ready_go version step number (Optional type) h = tt
ready_go version step number (Required type fallback) h = tt

pub record MayEnter (version : Version) (step : List Move) (fresh : NewElement) (to : ElementState) : Type 0 where
  pub edge : to ≡ DeleteOnly
  pub ready : AreReady version step fresh.kind

enters_delete_only : (filled : Bool) (to : ElementState) → ¬ ((edge_by filled Adding Absent to ≡ None) × (edge_by filled Dropping Absent to ≡ None)) → to ≡ DeleteOnly
enters_delete_only filled DeleteOnly some = refl
enters_delete_only true Absent some = absurd (some (refl, refl))
enters_delete_only true WriteOnly some = absurd (some (refl, refl))
enters_delete_only true Public some = absurd (some (refl, refl))
enters_delete_only false Absent some = absurd (some (refl, refl))
enters_delete_only false WriteOnly some = absurd (some (refl, refl))
enters_delete_only false Public some = absurd (some (refl, refl))

pub may_enter : (version : Version) (step earlier : List Move) (fresh : NewElement) (to : ElementState) → ((fault : StepFault) → ¬ (MoveFault version step earlier (Enter fresh to) fault)) → MayEnter version step fresh to
may_enter version step earlier fresh to h =
    record { edge = enters_delete_only (is_filled fresh.kind) to (λ none. h NotAdjacent none); ready = none_such (is_unready version step) (indexed_columns fresh.kind) (λ on. h (Dependent on)) }

-- ---- how many are alike

-- an element of the table that is an index, or else a column
abbrev pub is_like_in : ℕ → Bool → ElementDef → Bool
is_like_in table index element = (element.table == table) && is_like index element.kind

-- an entered element is one more, and a moved one no more
pub like_entered : (table : ℕ) (index : Bool) (v : Version) (fresh : NewElement) (to : ElementState) → count_live (entered v fresh to) table index ≤ count_live v table index + cond (is_entry_like table index (Enter fresh to)) 1 0
like_entered table index v fresh to = count_insert (is_like_in table index) v.elements v.next (as_element v.next fresh to)

pub like_written : (table : ℕ) (index : Bool) (v : Version) (e : ElementDef) → element_at v e.number ≡ Some e → (again : ElementDef) → is_like_in table index again ≡ is_like_in table index e
    → count_by (is_like_in table index) (each (λ x. x.1) (map.entries (map.insert v.elements e.number again))) ≤ count_live v table index
like_written table index v e at again alike =
    let same = count_change (is_like_in table index) v.elements e.number again e (sym (element_at-lookup v e.number) ∙ at) alike in
    omega (arith, same)

pub like_moved : (table : ℕ) (index : Bool) (v : Version) (e : ElementDef) → element_at v e.number ≡ Some e → (to : ElementState) → count_live (moved v (Some e) to) table index ≤ count_live v table index
like_moved table index v e at Absent = count_remove (is_like_in table index) v.elements e.number
like_moved table index v e at DeleteOnly = like_written table index v e at _ refl
like_moved table index v e at WriteOnly = like_written table index v e at _ refl
like_moved table index v e at Public = like_written table index v e at _ refl
