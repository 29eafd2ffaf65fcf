-- At most three begins and publications are left for each element under way, and each of them lowers what is left.
use Rattle.std.proofs.Common.{◌≡◌, ◌≢◌, ℕ, zero, suc, ◌+◌, ◌*◌, ◌<◌, ◌≤◌, Bool, true, false, cond, List, [], ◌∷◌, ◌++◌, Option, Some, None, refl, sym, ap, subst, ◌∙◌, arith, Contains, true≢false}
use Rattle.std.specs.Prelude.{is_some, not, ◌&&◌, filter}
use Rattle.std.specs.Option.{option_and_then}
use Rattle.std.proofs.lemmas.Bool.Decides.{Decides-eqb}
use Rattle.schema_version.specs.declared.element.ElementState.{ElementState}
use Rattle.schema_version.specs.declared.element.ElementDef.{ElementDef}
use Rattle.schema_version.specs.declared.step.Move.{Move}
use Rattle.schema_version.specs.declared.step.Move.TheVariants.{Enter, Go, Turn as TurnBack}
use Rattle.schema_version.specs.Edges.{wanted_work}
use Rattle.schema_version.specs.Version.{element_at}
use Rattle.schema_version.specs.Moves.{after_step, is_move_of, moves_element}
use Rattle.schema_version.specs.Sound.{IsSoundVersion}
use Rattle.schema_version.specs.Steps.{Change, Stays, Enters, Goes, Turns as TurnsBack, in_state_or_none}
use Rattle.schema_version.proofs.Along.{ordered_of}
use Rattle.schema_version.proofs.Changes.{its_go}
use Rattle.schema_version.proofs.Lists.{not_both, any_says, any_from}
use Rattle.schema_version.proofs.StepEffects.{change_at}
use Rattle.reorganise.specs.declared.work.Progress.{Progress}
use Rattle.replay.specs.declared.entry.Entry.{Entry}
use Rattle.replay.specs.declared.entry.What.{What}
use Rattle.replay.specs.declared.entry.What.TheVariants.{Publish, Begin, Piece}
use Rattle.replay.specs.Kept.{IsKept}
use Rattle.replay.specs.Replay.{Facts, after, is_of, progress_of, stays}
use Rattle.world.specs.BeginReorg.{wanted_at}
use Rattle.world.specs.Calls.{effective_moment, Appends}
use Rattle.world.specs.declared.entry.Receipt.{Receipt}
use Rattle.world.specs.State.{State, facts_of}
use Rattle.piece_work.specs.WorkOff.{Round, Rounds}
use Rattle.rollout.specs.declared.advanced.Advanced.TheVariants as advanced
use Rattle.rollout.specs.Advance.{AdvancesLower}
use Rattle.rollout.specs.StatePath.{next_state, edges_of}
use Rattle.rollout.specs.Due.{MayBegin, ready_moves}
use Rattle.rollout.specs.Few.{act_of, acts_in, is_moving, change_at as change_number, AreFewLeft}
use Rattle.rollout.specs.Left.{sum_below, edges_at, unbegun_at, acts_by, acts_at, acts_left, Falls}
use Rattle.rollout.proofs.CountLemmas.{facts_then, less_by, begun_least, begun_less, its_element, begin_falls, piece_unbegun, piece_falls, read_comes, some_left, none_left}
use Rattle.rollout.proofs.Falls.{sum_less, sum_same, step_falls, gos_next, not_go_enter, not_go_turn, landed, first_ready, ready_gos}
use Rattle.rollout.proofs.Onward.{edges_fall, edges_end, edges_most, last_edge}
use Rattle.rollout.proofs.Ready.{ready_says, step_allowed, IsReadyMove}

-- ---- the acts of one element

acts_least : (e u v : ℕ) → v ≤ u → acts_by e v ≤ acts_by e u
acts_least zero u v le = omega arith
acts_least (suc zero) u v le = omega (arith, le)
acts_least (suc (suc e)) u v le = omega arith

acts_less : (e u v : ℕ) → e ≡ 1 → v < u → acts_by e v < acts_by e u
acts_less e u v one less = subst (λ (k : ℕ). acts_by k v < acts_by k u) (sym one) (omega (arith, less))

acts_fall : (f u v : ℕ) → f + 1 ≤ 2 → v ≤ 1 → acts_by f v < acts_by (f + 1) u
acts_fall zero u v most one = omega arith
acts_fall (suc zero) u v most one = omega (arith, one)
acts_fall (suc (suc f)) u v most one = absurd (omega (arith, most))

acts_drop : (f e u v : ℕ) → f + 1 ≡ e → e ≤ 2 → v ≤ 1 → acts_by f v < acts_by e u
acts_drop f e u v is most one = subst (λ (k : ℕ). acts_by f v < acts_by k u) is (acts_fall f u v (omega (arith, is, most)) one)

acts_most : (e u : ℕ) → u ≤ 1 → acts_by e u ≤ 3
acts_most zero u one = omega arith
acts_most (suc zero) u one = omega (arith, one)
acts_most (suc (suc e)) u one = omega arith

one_at_most : (b : Bool) → cond b 1 0 ≤ 1
one_at_most true = omega arith
one_at_most false = omega arith

unbegun_most : (facts : Facts) (n : ℕ) → unbegun_at facts n ≤ 1
unbegun_most facts n = one_at_most (is_some (wanted_at facts n) && not (is_some (progress_of facts.progress n)))

-- ---- at most three

sum_times : (f g : ℕ → ℕ) (n : ℕ) → ((k : ℕ) → f k ≤ 3 * g k) → sum_below f n ≤ 3 * sum_below g n
sum_times f g zero most = omega arith
sum_times f g (suc n) most =
    let rest = sum_times f g n most in
    let last = most n in
    omega (arith, rest, last)

few_by : (o : Option ElementDef) (u : ℕ) → u ≤ 1 → acts_by (edges_of o) u ≤ 3 * cond (is_moving o) 1 0
few_by None u one = omega arith
few_by (Some e) u one = by (next_state e) refl
  where
    by : (to : Option ElementState) → next_state e ≡ to → acts_by (edges_of (Some e)) u ≤ 3 * cond (is_some (next_state e)) 1 0
    by None is = subst (λ (k : ℕ). acts_by k u ≤ 3 * cond (is_some (next_state e)) 1 0) (sym (edges_end e is)) (omega arith)
    by (Some to) is = subst (λ (o : Option ElementState). acts_by (edges_of (Some e)) u ≤ 3 * cond (is_some o) 1 0) (sym is) (let most = acts_most (edges_of (Some e)) u one in omega (arith, most))

pub are_few_left : AreFewLeft
are_few_left facts = sum_times (acts_at facts) (change_number facts) facts.newest.next (λ n. few_by (element_at facts.newest n) (unbegun_at facts n) (unbegun_most facts n))

-- ---- a begin

pub begin_acts : (facts : Facts) (now number pieces : ℕ) → MayBegin facts now number → IsKept facts → acts_left (after facts (record { moment = now; what = Begin number pieces })) < acts_left facts
begin_acts facts now number pieces may kept =
    let then : Facts = after facts (record { moment = now; what = Begin number pieces }) in
    let less = begun_less facts now number pieces may kept in
    let e = its_element facts now number pieces may kept (element_at facts.newest number) refl may.wants in
    let one : edges_at facts.newest number ≡ 1 = ap edges_of e.1 ∙ last_edge e.0 may.work e.2 in
    sum_less (acts_at facts) (acts_at then) facts.newest.next number
    (λ n lt. acts_least (edges_at facts.newest n) (unbegun_at facts n) (unbegun_at then n) (begun_least facts now number pieces may kept n))
    less.0
    (acts_less (edges_at facts.newest number) (unbegun_at facts number) (unbegun_at then number) one less.1)

-- ---- a step

-- a reorganisation stays whose element does not move
begun_stays : (step : List Move) (n : ℕ) → moves_element step n ≡ false → (ps : List Progress) → is_some (progress_of ps n) ≡ true → is_some (progress_of (filter (stays step) ps) n) ≡ true
begun_stays step n still [] e = e
begun_stays step n still (p ∷ ps) e = by (begun_stays step n still ps) (is_of n p) refl (stays step p) refl e
  where
    by : (is_some (progress_of ps n) ≡ true → is_some (progress_of (filter (stays step) ps) n) ≡ true) → (b : Bool) → is_of n p ≡ b → (s : Bool) → stays step p ≡ s → is_some (cond b (Some p) (progress_of ps n)) ≡ true
        → is_some (progress_of (cond s (p ∷ filter (stays step) ps) (filter (stays step) ps)) n) ≡ true
    by rest true is true kept e = ap (λ (b : Bool). is_some (cond b (Some p) (progress_of (filter (stays step) ps) n))) is
    by rest true is false kept e = absurd (true≢false (sym (ap not (ap (moves_element step) ((Decides-eqb p.element.number n).0 is) ∙ still)) ∙ kept))
    by rest false is true kept e = ap (λ (b : Bool). is_some (cond b (Some p) (progress_of (filter (stays step) ps) n))) is ∙ rest e
    by rest false is false kept e = rest e

module _ (facts : Facts) (now : ℕ) (sound : IsSoundVersion facts.newest) where
  abbrev then : Facts
  then = after facts (record { moment = now; what = Publish (ready_moves facts) })

  moved_less : (e : ElementDef) (m : Move) → IsReadyMove facts e m → Contains (ready_moves facts) m → acts_at then e.number < acts_at facts e.number
  moved_less e m g there =
      let new : edges_at then.newest e.number ≡ edges_of (in_state_or_none e g.to) = ap edges_of (landed facts sound e m g there) in
      let fall = edges_fall e g.to g.next in
      let old : edges_at facts.newest e.number ≡ edges_of (Some e) = ap edges_of g.there in
      acts_drop (edges_at then.newest e.number) (edges_at facts.newest e.number) (unbegun_at facts e.number) (unbegun_at then e.number) (omega (arith, new, fall, old)) (edges_most (element_at facts.newest e.number)) (unbegun_most then e.number)

  pub stays_by : (n : ℕ) (new : Option ElementDef) → moves_element (ready_moves facts) n ≡ false → Change (ready_moves facts) facts.newest.next n (element_at facts.newest n) new → new ≡ element_at facts.newest n
  stays_by n new still (Stays e) = e
  stays_by n new still (Enters fresh to there le none is) = (let r = ready_says facts (Enter fresh to) sound there in not_go_enter fresh to r.0.number r.1.to r.1.is)
  stays_by n new still (Goes e to there was is) = absurd (not_both (any_from (is_move_of n) (ready_moves facts) (Go n to) there (its_go n to)) still)
  stays_by n new still (TurnsBack e there was is) = (let r = ready_says facts (TurnBack n) sound there in not_go_turn n r.0.number r.1.to r.1.is)

  step_least : (n : ℕ) → acts_at then n ≤ acts_at facts n
  step_least n = by (moves_element (ready_moves facts) n) refl
    where
      by : (b : Bool) → moves_element (ready_moves facts) n ≡ b → acts_at then n ≤ acts_at facts n
      by true moves =
          let m = any_says (is_move_of n) (ready_moves facts) moves in
          let r = ready_says facts m.0 sound m.1 in
          let own : r.0.number ≡ n = (Decides-eqb r.0.number n).0 (ap (is_move_of n) (sym r.1.is) ∙ m.2) in
          let less : acts_at then n < acts_at facts n = subst (λ (k : ℕ). acts_at then k < acts_at facts k) own (moved_less r.0 m.0 r.1 m.1) in
          omega (arith, less)
      by false still =
          let same : element_at then.newest n ≡ element_at facts.newest n = stays_by n (element_at then.newest n) still (change_at facts.newest (ready_moves facts) (step_allowed facts sound) (ordered_of facts.newest sound) n) in
          let least = less_by (is_some (wanted_at facts n)) (is_some (progress_of facts.progress n)) (is_some (progress_of then.progress n)) (begun_stays (ready_moves facts) n still facts.progress) in
          subst (λ (o : Option ElementDef). acts_by (edges_of o) (cond (is_some (option_and_then wanted_work o) && not (is_some (progress_of then.progress n))) 1 0) ≤ acts_at facts n) (sym same)
          (acts_least (edges_at facts.newest n) (unbegun_at facts n) (cond (is_some (wanted_at facts n) && not (is_some (progress_of then.progress n))) 1 0) least)

  ready_acts : (moves : List Move) → moves ≡ ready_moves facts → moves ≢ [] → sum_below (acts_at then) facts.newest.next < acts_left facts
  ready_acts [] is some = absurd (some refl)
  ready_acts (m ∷ rest) is some =
      let r = first_ready facts sound m rest is in
      sum_less (acts_at facts) (acts_at then) facts.newest.next r.0.number (λ n lt. step_least n) ((ordered_of facts.newest sound).below r.0.number r.0 r.1.there) (moved_less r.0 m r.1 r.2)

pub step_acts : (facts : Facts) (now : ℕ) → IsSoundVersion facts.newest → (step : List Move) → step ≡ ready_moves facts → step ≢ [] → acts_left (after facts (record { moment = now; what = Publish step })) < acts_left facts
step_acts facts now sound step is some =
    let next_is : (after_step facts.newest (ready_moves facts)).next ≡ facts.newest.next = gos_next facts.newest (ready_moves facts) (ready_gos facts sound) in
    subst (λ (ms : List Move). acts_left (after facts (record { moment = now; what = Publish ms })) < acts_left facts) (sym is)
    (subst (λ (n : ℕ). sum_below (acts_at (after facts (record { moment = now; what = Publish (ready_moves facts) }))) n < acts_left facts) (sym next_is) (ready_acts facts now sound step is some))

-- ---- a piece

pub piece_acts : (facts : Facts) (now number piece : ℕ) (cursor : _) → acts_left (after facts (record { moment = now; what = Piece number piece cursor })) ≡ acts_left facts
piece_acts facts now number piece cursor =
    sum_same (acts_at facts) (acts_at (after facts (record { moment = now; what = Piece number piece cursor }))) facts.newest.next (λ n. ap (acts_by (edges_at facts.newest n)) (piece_unbegun facts now number piece cursor n))

-- ---- the call

pub advances_lower : AdvancesLower
advances_lower old new moment pieces limit (advanced.Began number receipt) kept (due, at) =
    let falls = begin_falls (facts_of old) (effective_moment old moment) number pieces due.0 kept in
    subst (λ (f : Facts). Falls (facts_of old) f (advanced.Began number receipt)) (sym (facts_then old new (effective_moment old moment) (Begin number pieces) receipt at.1))
    (falls.0, falls.1, begin_acts (facts_of old) (effective_moment old moment) number pieces due.0 kept)
advances_lower old new moment pieces limit (advanced.Published version receipt) kept (step, due, at) =
    subst (λ (f : Facts). Falls (facts_of old) f (advanced.Published version receipt)) (sym (facts_then old new (effective_moment old moment) (Publish step) receipt at.2))
    (step_falls (facts_of old) kept.sound step due.0.1 due.0.2, step_acts (facts_of old) (effective_moment old moment) kept.sound step due.0.1 due.0.2)
advances_lower old new moment pieces limit (advanced.Worked number done) kept (due, w) =
    subst (λ (f : Facts). Falls (facts_of old) f (advanced.Worked number done)) (sym (facts_then old new (effective_moment old moment) (Piece w.read.element.number w.read.piece w.read.key_range.high) done.receipt w.committed.2)) (
      refl,
      piece_falls (facts_of old) (effective_moment old moment) w.read.element.number w.read.piece w.read.key_range.high,
      piece_acts (facts_of old) (effective_moment old moment) w.read.element.number w.read.piece w.read.key_range.high,
      read_comes old (effective_moment old moment) number w.piece limit w.read w.was_read.0 w.was_read.1,
    )
advances_lower old new moment pieces limit (advanced.Waiting until) kept (due, same) = some_left (facts_of old) kept due.0.2
advances_lower old new moment pieces limit advanced.Finished kept (due, same) = none_left (facts_of old) due.0

-- ---- the log

acts_more : (log : List Entry) (e : Entry) → acts_in (log ++ e ∷ []) ≡ acts_in log + act_of e.what
acts_more [] e = omega arith
acts_more (x ∷ log) e = let rest = acts_more log e in omega (arith, rest)

pub acts_then : (old new : State) (now : ℕ) (what : What) (receipt : Receipt) → Appends old now what receipt new → acts_in new.log ≡ acts_in old.log + act_of what
acts_then old new now what receipt a =
    ap (λ (s : State). acts_in s.log) a.state ∙ acts_more old.log receipt.entry ∙ ap (λ (e : Entry). acts_in old.log + act_of e.what) a.entry

round_acts : (old new : State) (number moment limit : ℕ) → Round old number moment limit new → acts_in new.log ≡ acts_in old.log
round_acts old new number moment limit t =
    let more = acts_then old new (effective_moment old moment) (Piece t.read.element.number t.read.piece t.read.key_range.high) t.done.receipt t.committed.2 in
    omega (arith, more)

pub rounds_act : (n : ℕ) (old new : State) (number moment limit : ℕ) → Rounds n old number moment limit new → acts_in new.log ≡ acts_in old.log
rounds_act zero old new number moment limit same = ap (λ (s : State). acts_in s.log) same
rounds_act (suc n) old new number moment limit (middle, rounds, last) = round_acts middle new number moment limit last ∙ rounds_act n old middle number moment limit rounds
