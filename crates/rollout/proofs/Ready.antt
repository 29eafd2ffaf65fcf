-- The step that is ready is allowed, and what it needs is finished.
use Rattle.std.proofs.Common.{◌≡◌, ◌≢◌, ℕ, ◌<◌, Bool, true, false, cond, T, List, [], ◌∷◌, ◌++◌, Option, Some, None, inl, inr, refl, sym, ap, subst, ◌∙◌, arith, nat_eq, Contains, option_map}
use Rattle.std.proofs.lemmas.Bool.Decides.{Decides-eqb}
use Rattle.std.proofs.lemmas.List.Elements.{Contains-append_right}
use Rattle.std.specs.Prelude.{not, ◌||◌}
use Rattle.std.specs.List.{filter_map, cons_option}
use Rattle.std.specs.Map.{lookup, values_of}
use Rattle.std.specs.Ordering.{nat_cmp}
use Rattle.std.specs.FinMap as map
use Rattle.std.specs.FinMap.Entries.{is_sorted, below_all}
use Rattle.schema_version.specs.declared.element.ElementState.{ElementState}
use Rattle.schema_version.specs.declared.element.Way.{Way}
use Rattle.schema_version.specs.declared.element.Way.TheVariants.{Adding, Dropping}
use Rattle.schema_version.specs.declared.element.Kind.{Kind}
use Rattle.schema_version.specs.declared.element.Kind.TheVariants.{Index, Optional, Required}
use Rattle.schema_version.specs.declared.element.ElementDef.{ElementDef}
use Rattle.schema_version.specs.declared.element.Work.{Work}
use Rattle.schema_version.specs.declared.step.Move.{Move}
use Rattle.schema_version.specs.declared.step.Move.TheVariants.{Go}
use Rattle.schema_version.specs.declared.step.StepFault.{StepFault}
use Rattle.schema_version.specs.declared.step.StepFault.TheVariants as fault
use Rattle.schema_version.specs.Edges.{edge, needed_work, wanted_work}
use Rattle.schema_version.specs.Version.{Version, element_at, live, indexed_columns, state_of, state_or_absent, is_public, IsPublicColumn}
use Rattle.schema_version.specs.Sound.{IsSoundVersion}
use Rattle.schema_version.specs.Moves.{is_move_of, moves_element, is_unready, IsFirstSuch, DependsOn, HasNoEdge, GoFault, GoFaultAt, MoveFault, IsAllowed}
use Rattle.schema_version.proofs.Changes.{AreMovedOnce, its_go}
use Rattle.schema_version.proofs.Entries.{tells, found_above, one, other}
use Rattle.schema_version.proofs.Lists.{here, later, here_or_later, some_same, not_both, any_says, any_from}
use Rattle.schema_version.proofs.Live.{live_from, from_values, element_at-lookup}
use Rattle.schema_version.proofs.StepEffects.{not_true}
use Rattle.reorganise.specs.declared.work.Progress.{Progress}
use Rattle.replay.specs.Kept.{IsKept, IsBegun}
use Rattle.replay.specs.Laws.{IsDone, IsFinished, AreFinished}
use Rattle.replay.specs.Replay.{Facts, progress_of}
use Rattle.replay.proofs.Begun.{found}
use Rattle.world.specs.Piece.{standing}
use Rattle.rollout.specs.StatePath.{next_state}
use Rattle.rollout.specs.Due.{ended_in, is_ended_at, is_ready_by, move_by, move_of, ready_moves}
use Rattle.rollout.proofs.Onward.{edge_next, not_public, wants_next}

none_some : {A B : Type 0} {x : A} → None ≡ Some x → B
none_some e = absurd cc

-- ---- what the moves are

-- a move that is ready, with its element
pub record IsReadyMove (facts : Facts) (element : ElementDef) (move : Move) : Type 0 where
  pub there : element_at facts.newest element.number ≡ Some element
  pub to : ElementState
  pub next : next_state element ≡ Some to
  pub is : move ≡ Go element.number to
  pub ready : is_ready_by (needed_work element.kind to) (is_ended_at facts element.number) ≡ true

from_filter : {X Y : Type 0} (f : X → Option Y) (xs : List X) (y : Y) → Contains (filter_map f xs) y → (x : X) × Contains xs x × (f x ≡ Some y)
from_filter f [] y (k, below, is) = absurd (omega (arith, below))
from_filter {X} {Y} f (x ∷ xs) y there = by (from_filter f xs y) (f x) refl there
  where
    by : (Contains (filter_map f xs) y → (z : X) × Contains xs z × (f z ≡ Some y)) → (o : Option Y) → f x ≡ o → Contains (cons_option o (filter_map f xs)) y → (z : X) × Contains (x ∷ xs) z × (f z ≡ Some y)
    by rest None e c = let r = rest c in (r.0, later x r.0 xs r.1, r.2)
    by rest (Some z) e c = elim (here_or_later z y (filter_map f xs) c) [
      | inl is ↦ (x, here x xs, e ∙ ap Some is)
      | inr more ↦ (let r = rest more in (r.0, later x r.0 xs r.1, r.2))
    ]

-- an element is found under its number
own_at : (v : Version) (e : ElementDef) → IsSoundVersion v → Contains (live v) e → element_at v e.number ≡ Some e
own_at v e sound there =
    let r = live_from v e there in
    ap (element_at v) ((sound.elements r.0 e r.1).own) ∙ r.1

move_says : (facts : Facts) (e : ElementDef) (m : Move) → element_at facts.newest e.number ≡ Some e → move_of facts e ≡ Some m → IsReadyMove facts e m
move_says facts e m there is = by (next_state e) refl is
  where
    ready_by : (to : ElementState) → next_state e ≡ Some to → (b : Bool) → is_ready_by (needed_work e.kind to) (is_ended_at facts e.number) ≡ b → (cond b (Some (Go e.number to)) None) ≡ Some m → IsReadyMove facts e m
    ready_by to next true ready is = record { there = there; to = to; next = next; is = sym (some_same is); ready = ready }
    ready_by to next false ready is = none_some is

    by : (o : Option ElementState) → next_state e ≡ o → move_by facts e o ≡ Some m → IsReadyMove facts e m
    by None next is = none_some is
    by (Some to) next is = ready_by to next (is_ready_by (needed_work e.kind to) (is_ended_at facts e.number)) refl is

pub ready_says : (facts : Facts) (m : Move) → IsSoundVersion facts.newest → Contains (ready_moves facts) m → (e : ElementDef) × IsReadyMove facts e m
ready_says facts m sound there =
    let r = from_filter (move_of facts) (live facts.newest) m there in
    (r.0, move_says facts r.0 m (own_at facts.newest r.0 sound r.1) r.2)

-- ---- no element moves twice

abbrev pub AreApart : List ElementDef → Type 0
AreApart [] = Unit {0}
AreApart (e ∷ es) = ((x : ElementDef) → Contains es x → x.number ≢ e.number) × AreApart es

abbrev OwnNumbers : List (ℕ × ElementDef) → Type 0
OwnNumbers es = (n : ℕ) (x : ElementDef) → lookup (nat_eq n) es ≡ Some x → x.number ≡ n

in_rest : (q : ℕ) (e : ℕ × ElementDef) (es : List (ℕ × ElementDef)) (x : ElementDef) → e.0 < q → lookup (nat_eq q) es ≡ Some x → lookup (nat_eq q) (e ∷ es) ≡ Some x
in_rest q e es x up found =
    elim (tells q e.0) [
      | inl p ↦ absurd (omega (arith, p.1, up))
      | inr p ↦ ap (λ b. cond b (Some e.1) (lookup (nat_eq q) es)) p.0 ∙ found
    ]

found_itself : (e : ℕ × ElementDef) (es : List (ℕ × ElementDef)) → lookup (nat_eq e.0) (e ∷ es) ≡ Some e.1
found_itself e es =
    elim (tells e.0 e.0) [
      | inl p ↦ ap (λ b. cond b (Some e.1) (lookup (nat_eq e.0) es)) p.0
      | inr p ↦ absurd (p.1 refl)
    ]

rest_sorted : (e : ℕ × ElementDef) (es : List (ℕ × ElementDef)) → T (is_sorted nat_cmp (e ∷ es)) → T (is_sorted nat_cmp es)
rest_sorted e es sorted = other (below_all nat_cmp e.0 es) (is_sorted nat_cmp es) sorted

above_sorted : (e : ℕ × ElementDef) (es : List (ℕ × ElementDef)) → T (is_sorted nat_cmp (e ∷ es)) → (q : ℕ) (x : ElementDef) → lookup (nat_eq q) es ≡ Some x → e.0 < q
above_sorted e es sorted q x found = found_above e.0 q es x (one (below_all nat_cmp e.0 es) (is_sorted nat_cmp es) sorted) found

apart_entries : (es : List (ℕ × ElementDef)) → T (is_sorted nat_cmp es) → OwnNumbers es → AreApart (values_of es)
apart_entries [] sorted own = tt
apart_entries (e ∷ es) sorted own = (
  λ x there same.
      (let r = from_values es x (rest_sorted e es sorted) there in
      let up : e.0 < r.0 = above_sorted e es sorted r.0 x r.1 in
      let second : x.number ≡ r.0 = own r.0 x (in_rest r.0 e es x up r.1) in
      let first : e.1.number ≡ e.0 = own e.0 e.1 (found_itself e es) in
      omega (arith, up, second, first, same)),
  apart_entries es (rest_sorted e es sorted) (λ n x found. own n x (in_rest n e es x (above_sorted e es sorted n x found) found)),
)

pub live_apart : (v : Version) → IsSoundVersion v → AreApart (live v)
live_apart v sound = apart_entries (map.entries v.elements) (map.entries_sorted v.elements) (λ n x found. (sound.elements n x (element_at-lookup v n ∙ found)).own)

go_number : (facts : Facts) (e : ElementDef) (m : Move) → move_of facts e ≡ Some m → (n : ℕ) → is_move_of n m ≡ true → n ≡ e.number
go_number facts e m is n its = by (next_state e) is
  where
    ready_by : (to : ElementState) (b : Bool) → (cond b (Some (Go e.number to)) None) ≡ Some m → n ≡ e.number
    ready_by to true is = sym ((Decides-eqb e.number n).0 (ap (is_move_of n) (some_same is) ∙ its))
    ready_by to false is = none_some is

    by : (o : Option ElementState) → move_by facts e o ≡ Some m → n ≡ e.number
    by None is = none_some is
    by (Some to) is = ready_by to (is_ready_by (needed_work e.kind to) (is_ended_at facts e.number)) is

once_in : (facts : Facts) (es : List ElementDef) → AreApart es → AreMovedOnce (filter_map (move_of facts) es)
once_in facts [] apart = tt
once_in facts (e ∷ es) apart = by (once_in facts es apart.1) (move_of facts e) refl
  where
    by : AreMovedOnce (filter_map (move_of facts) es) → (o : Option Move) → move_of facts e ≡ o → AreMovedOnce (cons_option o (filter_map (move_of facts) es))
    by rest None is = rest
    by rest (Some m) is = (
      λ n its. not_true (moves_element (filter_map (move_of facts) es) n)
          (λ twice.
          let r = any_says (is_move_of n) (filter_map (move_of facts) es) twice in
          let s = from_filter (move_of facts) es r.0 r.1 in
          apart.0 s.0 s.1 (sym (go_number facts s.0 r.0 s.2 n r.2) ∙ go_number facts e m is n its)),
      rest,
    )

pub moved_once : (facts : Facts) → IsSoundVersion facts.newest → AreMovedOnce (ready_moves facts)
moved_once facts sound = once_in facts (live facts.newest) (live_apart facts.newest sound)

-- what moves did not move before
not_before : (step earlier later : List Move) (m : Move) (n : ℕ) → AreMovedOnce step → step ≡ earlier ++ m ∷ later → is_move_of n m ≡ true → moves_element earlier n ≡ false
not_before step earlier later m n once split its = by earlier (subst AreMovedOnce split once)
  where
    by : (earlier : List Move) → AreMovedOnce (earlier ++ m ∷ later) → moves_element earlier n ≡ false
    by [] once = refl
    by (x ∷ xs) once =
        elim (is_move_of n x) as (λ b. is_move_of n x ≡ b → (b || moves_element xs n) ≡ false) [
          | true ↦ λ p. absurd (not_both (any_from (is_move_of n) (xs ++ m ∷ later) m (Contains-append_right xs (m ∷ later) m (here m later)) its) (once.0 n p))
          | false ↦ λ p. by xs once.1
        ] refl

-- ---- the step is allowed

module _ (facts : Facts) (sound : IsSoundVersion facts.newest) where
  -- nothing that a live index lists moves
  column_stays : (n column : ℕ) (index : ElementDef) → element_at facts.newest n ≡ Some index → Contains (indexed_columns index.kind) column → (e : ElementDef) (to : ElementState) → element_at facts.newest column ≡ Some e → next_state e ≡ Some to → ⊥
  column_stays n column index at lists e to there next =
      let c : IsPublicColumn facts.newest index.table column = (sound.elements n index at).columns column lists in
      not_public e to next (ap (λ (x : ElementDef). x.state) (some_same (sym there ∙ c.2)) ∙ c.5)

  ready_column : (n column : ℕ) (index : ElementDef) → element_at facts.newest n ≡ Some index → Contains (indexed_columns index.kind) column → is_unready facts.newest (ready_moves facts) column ≡ false
  ready_column n column index at lists =
      let c : IsPublicColumn facts.newest index.table column = (sound.elements n index at).columns column lists in
      let public : is_public (state_of facts.newest column) ≡ true = ap (λ (o : Option ElementDef). is_public (state_or_absent o)) c.2 ∙ ap is_public c.5 in
      ap (λ b. not b || moves_element (ready_moves facts) column) public
      ∙ not_true (moves_element (ready_moves facts) column)
      (λ moves.
      let r = any_says (is_move_of column) (ready_moves facts) moves in
      let s = ready_says facts r.0 sound r.1 in
      let same : s.0.number ≡ column = (Decides-eqb s.0.number column).0 (ap (is_move_of column) (sym s.1.is) ∙ r.2) in
      column_stays n column index at lists s.0 s.1.to (ap (element_at facts.newest) (sym same) ∙ s.1.there) s.1.next)

  first_unready : (test : ℕ → Bool) (columns : List ℕ) (on : ℕ) → ((c : ℕ) → Contains columns c → test c ≡ false) → IsFirstSuch test columns on → ⊥
  first_unready test columns on none (before, after, split, holds, rest) =
      not_both holds (none on (subst (λ (l : List ℕ). Contains l on) (sym split) (Contains-append_right before (on ∷ after) on (here on after))))

  depends : (e : ElementDef) (to : ElementState) (on : ℕ) → element_at facts.newest e.number ≡ Some e → next_state e ≡ Some to → (k : Kind) → e.kind ≡ k → DependsOn facts.newest (ready_moves facts) e.number k on → ⊥
  depends e to on there next (Index columns) is h =
      first_unready (is_unready facts.newest (ready_moves facts)) columns on (λ c lists. ready_column e.number c e there (subst (λ (k : Kind). Contains (indexed_columns k) c) (sym is) lists)) h
  depends e to on there next (Optional type) is h = column_stays on e.number h.0.0 h.0.1 h.0.2 e to there next
  depends e to on there next (Required type fallback) is h = column_stays on e.number h.0.0 h.0.1 h.0.2 e to there next

  no_edge : (e : ElementDef) (to : ElementState) (w way : Way) → e.way ≡ w → edge e.kind w e.state to ≡ Some way → HasNoEdge e.kind e.state to → ⊥
  no_edge e to Adding way is has none = none_some (sym none.0 ∙ has)
  no_edge e to Dropping way is has none = none_some (sym none.1 ∙ has)

  go_fault : (earlier later : List Move) (e : ElementDef) (to : ElementState) (why : StepFault) → ready_moves facts ≡ earlier ++ Go e.number to ∷ later → element_at facts.newest e.number ≡ Some e → next_state e ≡ Some to
      → GoFault facts.newest (ready_moves facts) earlier e.number e to why → ⊥
  go_fault earlier later e to fault.NotAdjacent split there next (inl none) = no_edge e to e.way e.way refl (edge_next e to next) none
  go_fault earlier later e to fault.NotAdjacent split there next (inr twice) =
      not_both twice (not_before (ready_moves facts) earlier later (Go e.number to) e.number (moved_once facts sound) split (its_go e.number to))
  go_fault earlier later e to fault.WrongWay split there next h = none_some (sym h ∙ edge_next e to next)
  go_fault earlier later e to (fault.Dependent on) split there next h = depends e to on there next e.kind refl h
  go_fault earlier later e to fault.Unknown split there next h = h
  go_fault earlier later e to fault.NameTaken split there next h = h
  go_fault earlier later e to fault.Limit split there next h = h
  go_fault earlier later e to fault.Memory split there next h = h

  pub step_allowed : IsAllowed facts.newest (ready_moves facts)
  step_allowed earlier later m why split h =
      let r = ready_says facts m sound (subst (λ (ms : List Move). Contains ms m) (sym split) (Contains-append_right earlier (m ∷ later) m (here m later))) in
      let f : MoveFault facts.newest (ready_moves facts) earlier (Go r.0.number r.1.to) why = subst (λ (x : Move). MoveFault facts.newest (ready_moves facts) earlier x why) r.1.is h in
      go_fault earlier later r.0 r.1.to why (split ∙ ap (λ (x : Move). earlier ++ x ∷ later) r.1.is) r.1.there r.1.next
      (subst (λ (o : Option ElementDef). GoFaultAt facts.newest (ready_moves facts) earlier r.0.number o r.1.to why) r.1.there f)

-- ---- what it needs is finished

done_by : (facts : Facts) (e : ElementDef) (to : ElementState) (work : Work) → IsKept facts → element_at facts.newest e.number ≡ Some e → next_state e ≡ Some to → needed_work e.kind to ≡ Some work → is_ended_at facts e.number ≡ true → IsDone facts e.number work
done_by facts e to work kept there next needs ended = by (progress_of facts.progress e.number) refl ended
  where
    by : (o : Option Progress) → progress_of facts.progress e.number ≡ o → ended_in (option_map standing o) ≡ true → IsDone facts e.number work
    by None is ended = absurd cc
    by (Some p) is ended =
        let r = found (IsBegun facts.newest) facts.progress e.number p kept.begun is in
        let same : p.element ≡ e = some_same (sym r.0.element ∙ ap (element_at facts.newest) r.1 ∙ there) in
        record {
          progress = p;
          here = is;
          work_is = some_same (sym r.0.wanted_so ∙ ap wanted_work same ∙ wants_next e to next ∙ needs);
          ended = ended;
        }

finished_by : (facts : Facts) (e : ElementDef) (to : ElementState) → IsKept facts → element_at facts.newest e.number ≡ Some e → next_state e ≡ Some to → (o : Option Work) → needed_work e.kind to ≡ o → is_ready_by o (is_ended_at facts e.number) ≡ true → IsFinished facts e.number o
finished_by facts e to kept there next None needs ready = tt
finished_by facts e to kept there next (Some work) needs ready = done_by facts e to work kept there next needs ready

go_to : (n m : ℕ) (s t : ElementState) → Go n s ≡ Go m t → s ≡ t
go_to n m s t e = cc

go_of : (n m : ℕ) (s t : ElementState) → Go n s ≡ Go m t → n ≡ m
go_of n m s t e = cc

pub step_finished : (facts : Facts) → IsKept facts → AreFinished facts (ready_moves facts)
step_finished facts kept number to element there at =
    let r = ready_says facts (Go number to) kept.sound there in
    let own : number ≡ r.0.number = go_of number r.0.number to r.1.to r.1.is in
    let where_to : to ≡ r.1.to = go_to number r.0.number to r.1.to r.1.is in
    let same : r.0 ≡ element = some_same (sym r.1.there ∙ ap (element_at facts.newest) (sym own) ∙ at) in
    let f : IsFinished facts r.0.number (needed_work r.0.kind r.1.to) = finished_by facts r.0 r.1.to kept r.1.there r.1.next (needed_work r.0.kind r.1.to) refl r.1.ready in
    let g : IsFinished facts number (needed_work r.0.kind r.1.to) = subst (λ (n : ℕ). IsFinished facts n (needed_work r.0.kind r.1.to)) (sym own) f in
    let h : IsFinished facts number (needed_work element.kind r.1.to) = subst (λ (e : ElementDef). IsFinished facts number (needed_work e.kind r.1.to)) same g in
    subst (λ (s : ElementState). IsFinished facts number (needed_work element.kind s)) (sym where_to) h
