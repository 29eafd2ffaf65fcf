-- What an allowed step does to each element, and to the columns of indexes.
use Rattle.std.proofs.Common.{◌≡◌, ◌≢◌, ℕ, zero, suc, Bool, true, false, List, [], ◌∷◌, ◌++◌, Option, Some, None, inl, inr, refl, sym, ap, subst, ◌∙◌, arith, append_assoc, Contains}
use Rattle.std.proofs.lemmas.Bool.Decides.{Decides-eqb}
use Rattle.std.proofs.lemmas.List.Elements.{Contains-append_right}
use Rattle.schema_version.specs.declared.element.ElementState.{ElementState}
use Rattle.schema_version.specs.declared.element.ElementState.TheVariants.{Absent, DeleteOnly, WriteOnly, Public}
use Rattle.schema_version.specs.declared.element.Way.{Way}
use Rattle.schema_version.specs.declared.element.Way.TheVariants.{Adding, Dropping}
use Rattle.schema_version.specs.declared.element.Kind.{Kind}
use Rattle.schema_version.specs.declared.element.ElementDef.{ElementDef}
use Rattle.schema_version.specs.declared.step.Move.{Move}
use Rattle.schema_version.specs.declared.step.Move.TheVariants.{Enter, Go, Turn}
use Rattle.schema_version.specs.declared.step.StepFault.{StepFault}
use Rattle.schema_version.specs.declared.step.StepFault.TheVariants.{Unknown, NotAdjacent, WrongWay}
use Rattle.schema_version.specs.Version.{Version, element_at}
use Rattle.schema_version.specs.Edges.{edge, has_state, HasEdge, edge_by, is_filled, state_by}
use Rattle.schema_version.specs.Moves.{HasNoEdge, is_move_of, moves_element, GoFaultAt, TurnFaultAt, IsAllowed, after_step}
use Rattle.schema_version.specs.Steps.{Change, Stays, Enters, Goes, Turns, StepOf, Same, New, Next, Back, IsOrdered, StepsKeepToEdges}
use Rattle.schema_version.proofs.Lists.{here, not_both, any_says, any_from}
use Rattle.schema_version.proofs.Changes.{change_of, AreKnown, AreMovedOnce}

pub split_at : {X : Type 0} (xs : List X) (x : X) → Contains xs x → (before after : List X) × (xs ≡ before ++ x ∷ after)
split_at [] x (k, below, is) = absurd (omega (arith, below))
split_at (y ∷ xs) x (zero, below, is) = ([], xs, ap (λ z. z ∷ xs) is)
split_at (y ∷ xs) x (suc k, below, is) = let r = split_at xs x (k, omega (arith, below), is) in (y ∷ r.0, r.1, ap (λ l. y ∷ l) r.2)

pub some_edge : (kind : Kind) (from to : ElementState) → ¬ (HasNoEdge kind from to) → HasEdge kind from to
some_edge kind from to h = by (edge kind Adding from to) (edge kind Dropping from to) refl refl
  where
    by : (a d : Option Way) → edge kind Adding from to ≡ a → edge kind Dropping from to ≡ d → HasEdge kind from to
    by (Some next) d p q = (Adding, next, p)
    by None (Some next) p q = (Dropping, next, q)
    by None None p q = absurd (h (p, q))

pub not_true : (b : Bool) → ¬ (b ≡ true) → b ≡ false
not_true true h = absurd (h refl)
not_true false h = refl

none_some : {A B : Type 0} {x : A} → None ≡ Some x → B
none_some e = absurd cc

-- what comes to public is being added, was not public, and is being added still
public_by : (filled : Bool) (way : Way) (from : ElementState) (next : Way) → edge_by filled way from Public ≡ Some next → (way ≡ Adding) × (from ≢ Public) × (next ≡ Adding)
public_by true Adding WriteOnly next e = (refl, λ p. absurd cc, cc)
public_by false Adding DeleteOnly next e = (refl, λ p. absurd cc, cc)
public_by true Dropping Absent next e = none_some e
public_by false Dropping Absent next e = none_some e
public_by filled way from next e = none_some e

pub adding_to_public : (kind : Kind) (way : Way) (from : ElementState) (next : Way) → edge kind way from Public ≡ Some next → (way ≡ Adding) × (from ≢ Public) × (next ≡ Adding)
adding_to_public kind way from next e = public_by (is_filled kind) way from next e

-- an edge leads to a state of the kind
state_behind : (filled : Bool) (way next : Way) (from to : ElementState) → edge_by filled way from to ≡ Some next → state_by filled to ≡ true
state_behind true Adding next Absent DeleteOnly e = refl
state_behind true Adding next DeleteOnly WriteOnly e = refl
state_behind true Adding next WriteOnly Public e = refl
state_behind true way next Public WriteOnly e = refl
state_behind true Dropping next WriteOnly DeleteOnly e = refl
state_behind true Dropping next DeleteOnly Absent e = refl
state_behind false Adding next Absent DeleteOnly e = refl
state_behind false Adding next DeleteOnly Public e = refl
state_behind false way next Public DeleteOnly e = refl
state_behind false Dropping next DeleteOnly Absent e = refl
state_behind filled way next from to e = none_some e

pub edge_to : (kind : Kind) (way next : Way) (from to : ElementState) → edge kind way from to ≡ Some next → has_state kind to ≡ true
edge_to kind way next from to e = state_behind (is_filled kind) way next from to e

-- what is being added after an edge was so before it, and was not public
added_by : (filled : Bool) (way : Way) (from to : ElementState) → edge_by filled way from to ≡ Some Adding → (way ≡ Adding) × (from ≢ Public)
added_by true Adding Absent DeleteOnly e = (refl, λ p. absurd cc)
added_by true Adding DeleteOnly WriteOnly e = (refl, λ p. absurd cc)
added_by true Adding WriteOnly Public e = (refl, λ p. absurd cc)
added_by true way Public WriteOnly e = absurd cc
added_by true Dropping WriteOnly DeleteOnly e = absurd cc
added_by true Dropping DeleteOnly Absent e = absurd cc
added_by false Adding Absent DeleteOnly e = (refl, λ p. absurd cc)
added_by false Adding DeleteOnly Public e = (refl, λ p. absurd cc)
added_by false way Public DeleteOnly e = absurd cc
added_by false Dropping DeleteOnly Absent e = absurd cc
added_by filled way from to e = none_some e

pub adding_before : (kind : Kind) (way : Way) (from to : ElementState) → edge kind way from to ≡ Some Adding → (way ≡ Adding) × (from ≢ Public)
adding_before kind way from to e = added_by (is_filled kind) way from to e

module _ (v : Version) (step : List Move) (allowed : IsAllowed v step) where
  -- a move of the step is one of a live element
  pub is_live : (earlier later : List Move) (n : ℕ) (to : ElementState) → step ≡ earlier ++ Go n to ∷ later → (o : Option ElementDef) → element_at v n ≡ o → (e : ElementDef) × (o ≡ Some e)
  is_live earlier later n to split None is = absurd (allowed earlier later (Go n to) Unknown split (subst (λ o. GoFaultAt v step earlier n o to Unknown) (sym is) refl))
  is_live earlier later n to split (Some e) is = (e, refl)

  pub clear : (earlier later : List Move) (n : ℕ) (to : ElementState) (e : ElementDef) (fault : StepFault) → step ≡ earlier ++ Go n to ∷ later → element_at v n ≡ Some e → ¬ (GoFaultAt v step earlier n (Some e) to fault)
  clear earlier later n to e fault split is h = allowed earlier later (Go n to) fault split (subst (λ o. GoFaultAt v step earlier n o to fault) (sym is) h)

  -- so is a turn
  pub is_live_back : (earlier later : List Move) (n : ℕ) → step ≡ earlier ++ Turn n ∷ later → (o : Option ElementDef) → element_at v n ≡ o → (e : ElementDef) × (o ≡ Some e)
  is_live_back earlier later n split None is = absurd (allowed earlier later (Turn n) Unknown split (subst (λ o. TurnFaultAt earlier n o Unknown) (sym is) refl))
  is_live_back earlier later n split (Some e) is = (e, refl)

  pub clear_back : (earlier later : List Move) (n : ℕ) (e : ElementDef) (fault : StepFault) → step ≡ earlier ++ Turn n ∷ later → element_at v n ≡ Some e → ¬ (TurnFaultAt earlier n (Some e) fault)
  clear_back earlier later n e fault split is h = allowed earlier later (Turn n) fault split (subst (λ o. TurnFaultAt earlier n o fault) (sym is) h)

  live_move : (earlier later : List Move) (n : ℕ) (m : Move) → step ≡ earlier ++ m ∷ later → is_move_of n m ≡ true → (e : ElementDef) × (element_at v n ≡ Some e)
  live_move earlier later n (Enter fresh to) split its = absurd (not_both its refl)
  live_move earlier later n (Go k to) split its = subst (λ j. (e : ElementDef) × (element_at v j ≡ Some e)) ((Decides-eqb k n).0 its) (is_live earlier later k to split (element_at v k) refl)
  live_move earlier later n (Turn k) split its = subst (λ j. (e : ElementDef) × (element_at v j ≡ Some e)) ((Decides-eqb k n).0 its) (is_live_back earlier later k split (element_at v k) refl)

  known : IsOrdered v → AreKnown v.next step
  known ordered n m there its =
      let s = split_at step m there in
      let r = live_move s.0 s.1 n m s.2 its in
      ordered.below n r.0 r.1

  -- what a move moves did not move before
  pub not_before : (earlier later : List Move) (n : ℕ) (m : Move) → step ≡ earlier ++ m ∷ later → is_move_of n m ≡ true → moves_element earlier n ≡ false
  not_before earlier later n (Enter fresh to) split its = absurd (not_both its refl)
  not_before earlier later n (Go k to) split its =
      let live = is_live earlier later k to split (element_at v k) refl in
      subst (λ j. moves_element earlier j ≡ false) ((Decides-eqb k n).0 its) (not_true (moves_element earlier k) (λ twice. clear earlier later k to live.0 NotAdjacent split live.1 (inr twice)))
  not_before earlier later n (Turn k) split its =
      let live = is_live_back earlier later k split (element_at v k) refl in
      subst (λ j. moves_element earlier j ≡ false) ((Decides-eqb k n).0 its) (not_true (moves_element earlier k) (λ twice. clear_back earlier later k live.0 NotAdjacent split live.1 (inr twice)))

  once_from : (earlier moves : List Move) → step ≡ earlier ++ moves → AreMovedOnce moves
  once_from earlier [] split = tt
  once_from earlier (m ∷ moves) split = (
    λ n its. not_true (moves_element moves n)
        (λ twice.
        let r = any_says (is_move_of n) moves twice in
        let s = split_at moves r.0 r.1 in
        let before : List Move = earlier ++ m ∷ s.0 in
        let whole : step ≡ before ++ r.0 ∷ s.1 = split ∙ ap (λ l. earlier ++ m ∷ l) s.2 ∙ sym (append_assoc earlier (m ∷ s.0) (r.0 ∷ s.1)) in
        not_both (any_from (is_move_of n) before m (Contains-append_right earlier (m ∷ s.0) m (here m s.0)) its) (not_before before s.1 n r.0 whole r.2)),
    once_from (earlier ++ m ∷ []) moves (split ∙ sym (append_assoc earlier (m ∷ []) moves)),
  )

  pub own_way : (earlier later : List Move) (n : ℕ) (to : ElementState) (e : ElementDef) → step ≡ earlier ++ Go n to ∷ later → element_at v n ≡ Some e → (way : Way) × (edge e.kind e.way e.state to ≡ Some way)
  own_way earlier later n to e split is = by (edge e.kind e.way e.state to) refl
    where
      by : (o : Option Way) → edge e.kind e.way e.state to ≡ o → (way : Way) × (edge e.kind e.way e.state to ≡ Some way)
      by (Some way) p = (way, p)
      by None p = absurd (clear earlier later n to e WrongWay split is p)

  -- what turns back is being added and not public
  pub may_turn : (earlier later : List Move) (n : ℕ) (e : ElementDef) → step ≡ earlier ++ Turn n ∷ later → element_at v n ≡ Some e → (e.state ≢ Public) × (e.way ≡ Adding)
  may_turn earlier later n e split is = (λ public. clear_back earlier later n e NotAdjacent split is (inl public), by e.way refl)
    where
      by : (w : Way) → e.way ≡ w → e.way ≡ Adding
      by Adding p = p
      by Dropping p = absurd (clear_back earlier later n e WrongWay split is p)

  step_of : (n : ℕ) (new : Option ElementDef) → Change step v.next n (element_at v n) new → StepOf v.next n (element_at v n) new
  step_of n new (Stays e) = Same e
  step_of n new (Enters fresh to there le none e) =
      let s = split_at step (Enter fresh to) there in
      New fresh to le (some_edge fresh.kind Absent to (λ h. allowed s.0 s.1 (Enter fresh to) NotAdjacent s.2 h)) none e
  step_of n new (Goes x to there was e) =
      let s = split_at step (Go n to) there in
      let w = own_way s.0 s.1 n to x s.2 was in
      Next x to w.0 w.1 was e
  step_of n new (Turns x there was e) =
      let s = split_at step (Turn n) there in
      let m = may_turn s.0 s.1 n x s.2 was in
      Back x m.0 m.1 was e

  pub change_at : IsOrdered v → (n : ℕ) → Change step v.next n (element_at v n) (element_at (after_step v step) n)
  change_at ordered n = change_of v step v.next n ordered (omega arith) (known ordered) (once_from [] step refl)

pub steps_keep_to_edges : StepsKeepToEdges
steps_keep_to_edges v step ordered allowed n = step_of v step allowed n (element_at (after_step v step) n) (change_at v step allowed ordered n)
