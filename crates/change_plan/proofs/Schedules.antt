-- Schedules, one time after another.
use Rattle.std.specs.Prelude.{◌≡◌, ◌≢◌, ℕ, zero, suc, ◌-◌, ◌<◌, ◌≤◌, List, [], ◌∷◌, length, nat_lt, Bool, true, false, if◌then◌else◌, not, Option, Some, None, ◌⊎◌, refl}
use Rattle.std.proofs.Common.{sym, ap, subst, ◌∙◌, inl, inr, true≢false, arith}
use Rattle.std.proofs.lemmas.Bool.{cases_lt}
use Rattle.std.proofs.lemmas.Bool.Decides.{Decides-ltb}
use Rattle.schema_version.specs.declared.element.ElementState.{ElementState}
use Rattle.schema_version.specs.declared.element.ElementState.TheVariants.{Absent, DeleteOnly, WriteOnly, Public}
use Rattle.schema_version.specs.declared.element.Way.{Way}
use Rattle.schema_version.specs.declared.element.Way.TheVariants.{Adding, Dropping}
use Rattle.schema_version.specs.declared.element.Kind.{Kind}
use Rattle.schema_version.specs.declared.element.ElementDef.{ElementDef}
use Rattle.schema_version.specs.declared.element.NewElement.{NewElement}
use Rattle.schema_version.specs.Steps.{in_state_or_none}
use Rattle.std.specs.Option.{unwrap_or}
use Rattle.schema_version.specs.Edges.{edge, edge_by, has_state, is_filled, state_by}
use Rattle.change_plan.specs.declared.schedule.Transition.{Transition}
use Rattle.change_plan.specs.declared.schedule.Transition.TheVariants.{Wait, Appear, Reach, Return}
use Rattle.change_plan.specs.declared.schedule.StatePath.{StatePath}
use Rattle.change_plan.specs.declared.schedule.StatePath.TheVariants.{PlainIn, FilledIn, FilledOut, PlainOut, DeleteOnlyBack, WriteOnlyBack}
use Rattle.change_plan.specs.declared.schedule.Schedule.{Schedule}
use Rattle.change_plan.specs.Schedule.{transitions, steps, nth_transition, transition_at, duration}

abbrev pub is_in : StatePath → Bool
is_in PlainIn = true
is_in FilledIn = true
is_in FilledOut = false
is_in PlainOut = false
is_in DeleteOnlyBack = false
is_in WriteOnlyBack = false

-- the elements that may take the state path
abbrev pub suits : StatePath → Kind → Bool
suits PlainIn kind = not (is_filled kind)
suits FilledIn kind = is_filled kind
suits FilledOut kind = is_filled kind
suits PlainOut kind = not (is_filled kind)
suits DeleteOnlyBack kind = true
suits WriteOnlyBack kind = has_state kind WriteOnly

-- ---- where a schedule is

-- not there, or in a state and on a way
pub data Stop : Type 0 where
  Away : Stop
  At : ElementState → Way → Stop

abbrev pub departure : StatePath → Stop
departure PlainIn = Away
departure FilledIn = Away
departure FilledOut = At Public Adding
departure PlainOut = At Public Adding
departure DeleteOnlyBack = At DeleteOnly Adding
departure WriteOnlyBack = At WriteOnly Adding

-- after each step
abbrev pub stops : StatePath → List Stop
stops PlainIn = At DeleteOnly Adding ∷ At Public Adding ∷ []
stops FilledIn = At DeleteOnly Adding ∷ At WriteOnly Adding ∷ At Public Adding ∷ []
stops FilledOut = At WriteOnly Dropping ∷ At DeleteOnly Dropping ∷ Away ∷ []
stops PlainOut = At DeleteOnly Dropping ∷ Away ∷ []
stops DeleteOnlyBack = At DeleteOnly Dropping ∷ Away ∷ []
stops WriteOnlyBack = At WriteOnly Dropping ∷ At DeleteOnly Dropping ∷ Away ∷ []

abbrev pub destination : StatePath → Stop
destination state_path = if is_in state_path then At Public Adding else Away

abbrev pub walk : Stop → List Stop → ℕ → Stop
walk now [] time = now
walk now (next ∷ rest) zero = now
walk now (next ∷ rest) (suc time) = walk next rest time

abbrev pub stop_in : StatePath → ℕ → Stop
stop_in state_path time = walk (departure state_path) (stops state_path) time

-- after this number of steps of the plan
abbrev pub stop_at : Schedule → ℕ → Stop
stop_at schedule time = stop_in schedule.state_path (time - schedule.wait)

abbrev pub element_of : ℕ → NewElement → ElementState → Way → ElementDef
element_of number fresh state way = record { number = number; table = fresh.table; name = fresh.name; kind = fresh.kind; state = state; way = way }

abbrev pub here : ℕ → NewElement → Stop → Option ElementDef
here number fresh Away = None
here number fresh (At state way) = Some (element_of number fresh state way)

-- who enters isn't there before
pub departs_in : (state_path : StatePath) → is_in state_path ≡ true → departure state_path ≡ Away
departs_in PlainIn e = refl
departs_in FilledIn e = refl
departs_in FilledOut e = absurd (true≢false (sym e))
departs_in PlainOut e = absurd (true≢false (sym e))
departs_in DeleteOnlyBack e = absurd (true≢false (sym e))
departs_in WriteOnlyBack e = absurd (true≢false (sym e))

-- who leaves is
pub departs_out : (state_path : StatePath) → is_in state_path ≡ false → (state : ElementState) × (way : Way) × (departure state_path ≡ At state way)
departs_out PlainIn e = absurd (true≢false e)
departs_out FilledIn e = absurd (true≢false e)
departs_out FilledOut e = (Public, Adding, refl)
departs_out PlainOut e = (Public, Adding, refl)
departs_out DeleteOnlyBack e = (DeleteOnly, Adding, refl)
departs_out WriteOnlyBack e = (WriteOnly, Adding, refl)

-- who enters ends public, and who leaves is gone
pub arrives_in : (state_path : StatePath) → is_in state_path ≡ true → destination state_path ≡ At Public Adding
arrives_in state_path e = ap (λ b. if b then At Public Adding else Away) e

pub arrives_out : (state_path : StatePath) → is_in state_path ≡ false → destination state_path ≡ Away
arrives_out state_path e = ap (λ b. if b then At Public Adding else Away) e

-- ---- what a schedule does at a time

abbrev pub reached : ElementState → Way → Stop
reached Absent way = Away
reached state way = At state way

pub reaches : (number : ℕ) (fresh : NewElement) (state : ElementState) (way : Way) (to : ElementState) (after : Way) → edge fresh.kind way state to ≡ Some after → in_state_or_none (element_of number fresh state way) to ≡ here number fresh (reached to after)
reaches number fresh state way Absent after e = refl
reaches number fresh state way DeleteOnly after e = ap (λ o. Some (element_of number fresh DeleteOnly (unwrap_or o way))) e
reaches number fresh state way WriteOnly after e = ap (λ o. Some (element_of number fresh WriteOnly (unwrap_or o way))) e
reaches number fresh state way Public after e = ap (λ o. Some (element_of number fresh Public (unwrap_or o way))) e

pub data Leg (state_path : StatePath) (transition : Transition) (from to : Stop) : Type 0 where
  Rests : transition ≡ Wait → to ≡ from → Leg state_path transition from to
  Starts : transition ≡ Appear → from ≡ Away → to ≡ At DeleteOnly Adding → is_in state_path ≡ true → Leg state_path transition from to
  -- along an edge of its way, or out of public
  Runs : (state : ElementState) (way : Way) (goal : ElementState) (after : Way) → transition ≡ Reach goal → from ≡ At state way → ((kind : Kind) → suits state_path kind ≡ true → edge kind way state goal ≡ Some after) → to ≡ reached goal after → Leg state_path transition from to
  Turns : (state : ElementState) → transition ≡ Return → from ≡ At state Adding → state ≢ Public → to ≡ At state Dropping → Leg state_path transition from to

plain : (filled : Bool) → not filled ≡ true → filled ≡ false
plain true e = absurd (true≢false (sym e))
plain false e = refl

-- an edge of what a fill serves, and of what none does
filled_edge : (way after : Way) (from to : ElementState) → edge_by true way from to ≡ Some after → (kind : Kind) → is_filled kind ≡ true → edge kind way from to ≡ Some after
filled_edge way after from to e kind is = ap (λ b. edge_by b way from to) is ∙ e

plain_edge : (way after : Way) (from to : ElementState) → edge_by false way from to ≡ Some after → (kind : Kind) → not (is_filled kind) ≡ true → edge kind way from to ≡ Some after
plain_edge way after from to e kind is = ap (λ b. edge_by b way from to) (plain (is_filled kind) is) ∙ e

gone : (kind : Kind) → edge kind Dropping DeleteOnly Absent ≡ Some Dropping
gone kind = by (is_filled kind)
  where
    by : (filled : Bool) → edge_by filled Dropping DeleteOnly Absent ≡ Some Dropping
    by true = refl
    by false = refl

back : (kind : Kind) → has_state kind WriteOnly ≡ true → edge kind Dropping WriteOnly DeleteOnly ≡ Some Dropping
back kind e = by (is_filled kind) e
  where
    by : (filled : Bool) → state_by filled WriteOnly ≡ true → edge_by filled Dropping WriteOnly DeleteOnly ≡ Some Dropping
    by true e = refl
    by false e = absurd (true≢false (sym e))

leg_in : (state_path : StatePath) (time : ℕ) → Leg state_path (nth_transition (transitions state_path) time) (stop_in state_path time) (stop_in state_path (suc time))
leg_in PlainIn zero = Starts refl refl refl refl
leg_in PlainIn (suc zero) = Runs DeleteOnly Adding Public Adding refl refl (plain_edge Adding Adding DeleteOnly Public refl) refl
leg_in PlainIn (suc (suc time)) = Rests refl refl
leg_in FilledIn zero = Starts refl refl refl refl
leg_in FilledIn (suc zero) = Runs DeleteOnly Adding WriteOnly Adding refl refl (filled_edge Adding Adding DeleteOnly WriteOnly refl) refl
leg_in FilledIn (suc (suc zero)) = Runs WriteOnly Adding Public Adding refl refl (filled_edge Adding Adding WriteOnly Public refl) refl
leg_in FilledIn (suc (suc (suc time))) = Rests refl refl
leg_in FilledOut zero = Runs Public Adding WriteOnly Dropping refl refl (filled_edge Adding Dropping Public WriteOnly refl) refl
leg_in FilledOut (suc zero) = Runs WriteOnly Dropping DeleteOnly Dropping refl refl (filled_edge Dropping Dropping WriteOnly DeleteOnly refl) refl
leg_in FilledOut (suc (suc zero)) = Runs DeleteOnly Dropping Absent Dropping refl refl (filled_edge Dropping Dropping DeleteOnly Absent refl) refl
leg_in FilledOut (suc (suc (suc time))) = Rests refl refl
leg_in PlainOut zero = Runs Public Adding DeleteOnly Dropping refl refl (plain_edge Adding Dropping Public DeleteOnly refl) refl
leg_in PlainOut (suc zero) = Runs DeleteOnly Dropping Absent Dropping refl refl (plain_edge Dropping Dropping DeleteOnly Absent refl) refl
leg_in PlainOut (suc (suc time)) = Rests refl refl
leg_in DeleteOnlyBack zero = Turns DeleteOnly refl refl (λ is. cc) refl
leg_in DeleteOnlyBack (suc zero) = Runs DeleteOnly Dropping Absent Dropping refl refl (λ k e. gone k) refl
leg_in DeleteOnlyBack (suc (suc time)) = Rests refl refl
leg_in WriteOnlyBack zero = Turns WriteOnly refl refl (λ is. cc) refl
leg_in WriteOnlyBack (suc zero) = Runs WriteOnly Dropping DeleteOnly Dropping refl refl (λ k e. back k e) refl
leg_in WriteOnlyBack (suc (suc zero)) = Runs DeleteOnly Dropping Absent Dropping refl refl (λ k e. gone k) refl
leg_in WriteOnlyBack (suc (suc (suc time))) = Rests refl refl

-- ---- waiting, and done

pub waits : (schedule : Schedule) (time : ℕ) → time < schedule.wait → transition_at schedule time ≡ Wait
waits schedule time early = ap (λ b. if b then Wait else nth_transition (transitions schedule.state_path) (time - schedule.wait)) ((Decides-ltb time schedule.wait).1 early)

on_state_path : (schedule : Schedule) (time : ℕ) → schedule.wait ≤ time → transition_at schedule time ≡ nth_transition (transitions schedule.state_path) (time - schedule.wait)
on_state_path schedule time late = ap (λ b. if b then Wait else nth_transition (transitions schedule.state_path) (time - schedule.wait)) (is_false (nat_lt time schedule.wait) (λ t. let early : time < schedule.wait = (Decides-ltb time schedule.wait).0 t in omega arith))
  where
    is_false : (b : Bool) → (b ≡ true → ⊥) → b ≡ false
    is_false true h = absurd (h refl)
    is_false false h = refl

pub leg : (schedule : Schedule) (time : ℕ) → Leg schedule.state_path (transition_at schedule time) (stop_at schedule time) (stop_at schedule (suc time))
leg schedule time = elim (cases_lt time schedule.wait) [
  | inl early ↦
      let at_now : time - schedule.wait ≡ 0 = omega (arith, early) in
      let next : suc time - schedule.wait ≡ 0 = omega (arith, early) in
      Rests (waits schedule time early) (ap (stop_in schedule.state_path) (next ∙ sym at_now))
  | inr late ↦
      let next : suc (time - schedule.wait) ≡ suc time - schedule.wait = omega (arith, late) in
      subst (λ a. Leg schedule.state_path a (stop_at schedule time) (stop_at schedule (suc time))) (sym (on_state_path schedule time late))
      (subst (λ t. Leg schedule.state_path (nth_transition (transitions schedule.state_path) (time - schedule.wait)) (stop_at schedule time) (stop_in schedule.state_path t)) next (leg_in schedule.state_path (time - schedule.wait)))
]

nth_within : (list : List Transition) (place : ℕ) → (nth_transition list place ≡ Wait) ⊎ (place < length list)
nth_within [] place = inl refl
nth_within (transition ∷ list) zero = inr (omega arith)
nth_within (transition ∷ list) (suc place) = elim (nth_within list place) [ inl none ↦ inl none | inr within ↦ inr (omega (arith, within)) ]

-- it waits, or is on its way
pub waits_or_moves : (schedule : Schedule) (time : ℕ) → (transition_at schedule time ≡ Wait) ⊎ ((schedule.wait ≤ time) × (time < duration schedule))
waits_or_moves schedule time = elim (cases_lt time schedule.wait) [
  | inl early ↦ inl (waits schedule time early)
  | inr late ↦ elim (nth_within (transitions schedule.state_path) (time - schedule.wait)) [
    | inl none ↦ inl (on_state_path schedule time late ∙ none)
    | inr within ↦ inr (late, omega (arith, late, within))
  ]
]

pub waits_last : (schedule : Schedule) (time : ℕ) → duration schedule ≤ time → transition_at schedule time ≡ Wait
waits_last schedule time done = elim (waits_or_moves schedule time) [ inl none ↦ none | inr moves ↦ absurd (omega (arith, done, moves.1)) ]

pub at_departure : (schedule : Schedule) (time : ℕ) → time ≤ schedule.wait → stop_at schedule time ≡ departure schedule.state_path
at_departure schedule time early = let none : time - schedule.wait ≡ 0 = omega arith in ap (stop_in schedule.state_path) none ∙ first (departure schedule.state_path) (stops schedule.state_path)
  where
    first : (now : Stop) (rest : List Stop) → walk now rest 0 ≡ now
    first now [] = refl
    first now (next ∷ rest) = refl

abbrev pub last_of : Stop → List Stop → Stop
last_of now [] = now
last_of now (next ∷ rest) = last_of next rest

walked : (now : Stop) (rest : List Stop) (time : ℕ) → length rest ≤ time → walk now rest time ≡ last_of now rest
walked now [] time h = refl
walked now (next ∷ rest) zero h = absurd (let below : suc (length rest) ≤ 0 = h in omega arith)
walked now (next ∷ rest) (suc time) h = walked next rest time (let below : suc (length rest) ≤ suc time = h in omega arith)

ends : (state_path : StatePath) (time : ℕ) → steps state_path ≤ time → stop_in state_path time ≡ destination state_path
ends PlainIn time h = walked (departure PlainIn) (stops PlainIn) time h
ends FilledIn time h = walked (departure FilledIn) (stops FilledIn) time h
ends FilledOut time h = walked (departure FilledOut) (stops FilledOut) time h
ends PlainOut time h = walked (departure PlainOut) (stops PlainOut) time h
ends DeleteOnlyBack time h = walked (departure DeleteOnlyBack) (stops DeleteOnlyBack) time h
ends WriteOnlyBack time h = walked (departure WriteOnlyBack) (stops WriteOnlyBack) time h

pub at_destination : (schedule : Schedule) (time : ℕ) → duration schedule ≤ time → stop_at schedule time ≡ destination schedule.state_path
at_destination schedule time done = ends schedule.state_path (time - schedule.wait) (omega arith)

-- an element enters at the first move
appears_first : (state_path : StatePath) (time : ℕ) → nth_transition (transitions state_path) time ≡ Appear → (time ≡ 0) × (is_in state_path ≡ true)
appears_first PlainIn zero e = (refl, refl)
appears_first PlainIn (suc zero) e = cc
appears_first PlainIn (suc (suc time)) e = cc
appears_first FilledIn zero e = (refl, refl)
appears_first FilledIn (suc zero) e = cc
appears_first FilledIn (suc (suc zero)) e = cc
appears_first FilledIn (suc (suc (suc time))) e = cc
appears_first FilledOut zero e = cc
appears_first FilledOut (suc zero) e = cc
appears_first FilledOut (suc (suc zero)) e = cc
appears_first FilledOut (suc (suc (suc time))) e = cc
appears_first PlainOut zero e = cc
appears_first PlainOut (suc zero) e = cc
appears_first PlainOut (suc (suc time)) e = cc
appears_first DeleteOnlyBack zero e = cc
appears_first DeleteOnlyBack (suc zero) e = cc
appears_first DeleteOnlyBack (suc (suc time)) e = cc
appears_first WriteOnlyBack zero e = cc
appears_first WriteOnlyBack (suc zero) e = cc
appears_first WriteOnlyBack (suc (suc zero)) e = cc
appears_first WriteOnlyBack (suc (suc (suc time))) e = cc

pub appears : (schedule : Schedule) (time : ℕ) → transition_at schedule time ≡ Appear → (time ≡ schedule.wait) × (is_in schedule.state_path ≡ true)
appears schedule time e = elim (cases_lt time schedule.wait) [
  | inl early ↦ absurd (let none : Wait ≡ Appear = sym (waits schedule time early) ∙ e in cc)
  | inr late ↦
      let first = appears_first schedule.state_path (time - schedule.wait) (sym (on_state_path schedule time late) ∙ e) in
      let none : time - schedule.wait ≡ 0 = first.0 in
      (omega (arith, late), first.1)
]

-- and no element enters otherwise
starts : (state_path : StatePath) → is_in state_path ≡ true → nth_transition (transitions state_path) 0 ≡ Appear
starts PlainIn e = refl
starts FilledIn e = refl
starts FilledOut e = absurd (true≢false (sym e))
starts PlainOut e = absurd (true≢false (sym e))
starts DeleteOnlyBack e = absurd (true≢false (sym e))
starts WriteOnlyBack e = absurd (true≢false (sym e))

pub appears_then : (schedule : Schedule) (time : ℕ) → is_in schedule.state_path ≡ true → schedule.wait ≡ time → transition_at schedule time ≡ Appear
appears_then schedule time new now =
    let none : time - schedule.wait ≡ 0 = omega (arith, now) in
    on_state_path schedule time (omega (arith, now)) ∙ ap (nth_transition (transitions schedule.state_path)) none ∙ starts schedule.state_path new
