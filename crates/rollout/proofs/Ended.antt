-- Acts, one after another, come to an end.
use Rattle.std.proofs.Common.{◌≡◌, ◌≢◌, ℕ, zero, suc, ◌+◌, ◌*◌, ◌<◌, ◌≤◌, Bool, true, false, cond, List, [], ◌∷◌, ◌++◌, Option, Some, None, Ok, ◌⊎◌, inl, inr, refl, sym, ap, subst, ◌∙◌, arith, option_map, nat_eq, nat_lt}
use Rattle.std.specs.Prelude.{is_some, not, ◌&&◌}
use Rattle.std.specs.Option.{option_and_then}
use Rattle.lease.specs.Timeline.{earliest}
use Rattle.schema_version.specs.declared.element.ElementState.{ElementState}
use Rattle.schema_version.specs.declared.element.ElementDef.{ElementDef}
use Rattle.schema_version.specs.declared.element.Work.{Work}
use Rattle.schema_version.specs.declared.step.Move.{Move}
use Rattle.schema_version.specs.declared.step.Move.TheVariants.{Enter, Turn as TurnBack}
use Rattle.schema_version.specs.Edges.{wanted_work}
use Rattle.schema_version.specs.Version.{Version, element_at}
use Rattle.schema_version.specs.Moves.{after_step}
use Rattle.schema_version.specs.Steps.{Change, Stays, Enters, Goes, Turns as TurnsBack}
use Rattle.schema_version.proofs.Along.{ordered_of}
use Rattle.schema_version.proofs.Entries.{tells}
use Rattle.schema_version.proofs.StepEffects.{change_at}
use Rattle.row_map.specs.Rows.{Bytes}
use Rattle.reorganise.specs.declared.work.Progress.{Progress}
use Rattle.reorganise.specs.declared.read.Reading.{Reading}
use Rattle.replay.specs.declared.entry.What.TheVariants.{Publish, Begin, Piece}
use Rattle.replay.specs.Kept.{IsKept}
use Rattle.replay.specs.Replay.{Facts, after, is_of, progress_of, moved_to}
use Rattle.replay.proofs.Begun.{progress_moved}
use Rattle.replay.proofs.Moved.{same_tables}
use Rattle.world.specs.BeginReorg.{wanted_at, BeginStep}
use Rattle.world.specs.Calls.{effective_moment}
use Rattle.world.specs.Piece.{standing, standing_at}
use Rattle.world.specs.Publish.{PublishStep}
use Rattle.world.specs.declared.entry.Receipt.{Receipt}
use Rattle.world.specs.State.{State, facts_of}
use Rattle.piece_work.specs.WorkOff.{Round, Rounds, HasEnded}
use Rattle.rollout.specs.declared.act.Act.{Act}
use Rattle.rollout.specs.declared.act.Act.TheVariants as act
use Rattle.rollout.specs.StatePath.{next_state}
use Rattle.rollout.specs.Due.{IsUnderWay, MayBegin, IsOpen, IsDue, ready_moves}
use Rattle.rollout.specs.Left.{sum_below, edges_at, edges_left, unbegun_at, unbegun, acts_by, acts_at, acts_left, is_open_in, open_at, open_left, waiting, all_left, end_of, IsFurther, IsOnTheWay, AreCompleted}
use Rattle.rollout.proofs.Falls.{sum_less, sum_same, step_falls, gos_next, ready_gos, not_go_enter, not_go_turn, next_of}
use Rattle.rollout.proofs.Few.{begin_acts, step_acts}
use Rattle.rollout.proofs.Way.{stays_further, same_way}
use Rattle.rollout.proofs.CountLemmas.{facts_then, begin_falls, begun_made, not_of, its_number, moved_other}
use Rattle.rollout.proofs.Onward.{goes_further, at_end}
use Rattle.rollout.proofs.Ready.{ready_says, step_allowed}

none_some : {A B : Type 0} {x : A} → None ≡ Some x → B
none_some e = absurd cc

-- ---- bounds

one_at_most : (b : Bool) → cond b 1 0 ≤ 1
one_at_most true = omega arith
one_at_most false = omega arith

pub sum_bound : (f : ℕ → ℕ) (n : ℕ) → ((k : ℕ) → f k ≤ 1) → sum_below f n ≤ n
sum_bound f zero least = omega arith
sum_bound f (suc n) least =
    let rest = sum_bound f n least in
    let last = least n in
    omega (arith, rest, last)

-- if one term alone rises, and by one at most, so does the sum
sum_upto : (f g : ℕ → ℕ) (i : ℕ) → ((k : ℕ) → k ≢ i → g k ≤ f k) → g i ≤ f i + 1 → (n : ℕ) → (n ≤ i → sum_below g n ≤ sum_below f n) × (sum_below g n ≤ sum_below f n + 1)
sum_upto f g i others one zero = (λ _. omega arith, omega arith)
sum_upto f g i others one (suc n) = by (sum_upto f g i others one n) (tells n i)
  where
    by : (n ≤ i → sum_below g n ≤ sum_below f n) × (sum_below g n ≤ sum_below f n + 1) → ((nat_eq n i ≡ true) × (n ≡ i)) ⊎ ((nat_eq n i ≡ false) × (n ≢ i))
        → (suc n ≤ i → sum_below g n + g n ≤ sum_below f n + f n) × (sum_below g n + g n ≤ sum_below f n + f n + 1)
    by r (inl p) =
        let same = p.1 in
        let before = r.0 (omega (arith, same)) in
        let here : g n ≤ f n + 1 = subst (λ (j : ℕ). g j ≤ f j + 1) (sym same) one in
        (λ le. absurd (omega (arith, le, same)), omega (arith, before, here))
    by r (inr p) =
        let here = others n p.1 in
        let more = r.1 in
        (λ le. (let before = r.0 (omega (arith, le)) in omega (arith, before, here)), omega (arith, more, here))

-- ---- one number for all that is left

lower_begin : (e f u v o p w x : ℕ) → f ≡ e → v < u → p ≤ o + 1 → x ≡ w → f * 6000008 + (2 * (2 * v + p) + x) < e * 6000008 + (2 * (2 * u + o) + w)
lower_begin e f u v o p w x a b c d = omega (arith, a, b, c, d)

lower_step : (e f u v o p w x : ℕ) → f < e → v ≤ 1000001 → p ≤ 1000001 → x ≤ 1 → f * 6000008 + (2 * (2 * v + p) + x) < e * 6000008 + (2 * (2 * u + o) + w)
lower_step e f u v o p w x a b c d = omega (arith, a, b, c, d)

lower_work : (e f u v o p w x : ℕ) → f ≡ e → v ≡ u → p < o → x ≡ w → f * 6000008 + (2 * (2 * v + p) + x) < e * 6000008 + (2 * (2 * u + o) + w)
lower_work e f u v o p w x a b c d = omega (arith, a, b, c, d)

-- ---- a begin

pub other_begun : (ps : List Progress) (q : Progress) (k : ℕ) → is_of k q ≡ false → progress_of (ps ++ q ∷ []) k ≡ progress_of ps k
other_begun [] q k is = ap (λ (b : Bool). cond b (Some q) None) is
other_begun (p ∷ ps) q k is = ap (λ (o : Option Progress). cond (is_of k p) (Some p) o) (other_begun ps q k is)

module _ (facts : Facts) (now number pieces : ℕ) (may : MayBegin facts now number) (kept : IsKept facts) where
  abbrev then : Facts
  then = after facts (record { moment = now; what = Begin number pieces })

  open_others : (k : ℕ) → k ≢ number → open_at then k ≤ open_at facts k
  open_others k ne =
      let r = begun_made facts now number pieces may kept in
      let same : progress_of then.progress k ≡ progress_of facts.progress k = ap (λ (qs : List Progress). progress_of (facts.progress ++ qs) k) r.1 ∙ other_begun facts.progress r.0 k (not_of r.0 number k r.2 ne) in
      let is : open_at then k ≡ open_at facts k = ap (λ (o : Option Progress). cond (is_open_in (option_map standing o)) 1 0) same in
      omega (arith, is)

  pub begin_lower : all_left then now < all_left facts now
  begin_lower =
      let falls = begin_falls facts now number pieces may kept in
      let most = one_at_most (is_open_in (standing_at then number)) in
      let least : open_at then number ≤ open_at facts number + 1 = omega (arith, most) in
      let opened : open_left then ≤ open_left facts + 1 = (sum_upto (open_at facts) (open_at then) number open_others least facts.newest.next).1 in
      lower_begin (edges_left facts) (edges_left then) (unbegun facts) (unbegun then) (open_left facts) (open_left then) (waiting facts now) (waiting then now) falls.0 falls.1 opened refl

-- ---- a step

module _ (facts : Facts) (now : ℕ) (kept : IsKept facts) (step : List Move) (is : step ≡ ready_moves facts) (some : step ≢ []) where
  abbrev next : Facts
  next = after facts (record { moment = now; what = Publish step })

  next_numbers : next.newest.next ≤ 1000001
  next_numbers =
      let same : (after_step facts.newest step).next ≡ facts.newest.next =
      subst (λ (ms : List Move). (after_step facts.newest ms).next ≡ facts.newest.next) (sym is) (gos_next facts.newest (ready_moves facts) (ready_gos facts kept.sound)) in
      let few = kept.sound.few_elements in
      omega (arith, same, few)

  pub step_lower : all_left next now < all_left facts now
  step_lower =
      let falls = step_falls facts kept.sound step is some in
      let bound = next_numbers in
      let begun = sum_bound (unbegun_at next) next.newest.next (λ k. one_at_most (is_some (wanted_at next k) && not (is_some (progress_of next.progress k)))) in
      let opened = sum_bound (open_at next) next.newest.next (λ k. one_at_most (is_open_in (standing_at next k))) in
      lower_step (edges_left facts) (edges_left next) (unbegun facts) (unbegun next) (open_left facts) (open_left next) (waiting facts now) (waiting next now) falls (omega (arith, begun, bound)) (omega (arith, opened, bound)) (one_at_most (nat_lt now (earliest next.line)))

  further_by : (n : ℕ) (new : Option ElementDef) → Change (ready_moves facts) facts.newest.next n (element_at facts.newest n) new → IsFurther (element_at facts.newest n) new
  further_by n new (Stays e) = subst (λ (o : Option ElementDef). IsFurther (element_at facts.newest n) o) (sym e) (stays_further (element_at facts.newest n))
  further_by n new (Enters fresh to there le none at) = (let r = ready_says facts (Enter fresh to) kept.sound there in not_go_enter fresh to r.0.number r.1.to r.1.is)
  further_by n new (Goes e to there was at) =
      subst (λ (o : Option ElementDef). IsFurther o new) (sym was) (subst (λ (o : Option ElementDef). IsFurther (Some e) o) (sym at) (goes_further e to (next_of facts kept.sound n to e there was)))
  further_by n new (TurnsBack e there was at) = (let r = ready_says facts (TurnBack n) kept.sound there in not_go_turn n r.0.number r.1.to r.1.is)

  pub step_way : IsOnTheWay facts next
  step_way =
      subst (λ (ms : List Move). IsOnTheWay facts (after facts (record { moment = now; what = Publish ms }))) (sym is)
      (record {
        elements = λ n. further_by n (element_at (after_step facts.newest (ready_moves facts)) n) (change_at facts.newest (ready_moves facts) (step_allowed facts kept.sound) (ordered_of facts.newest kept.sound) n);
        next = gos_next facts.newest (ready_moves facts) (ready_gos facts kept.sound);
        tables = same_tables facts.newest (ready_moves facts);
      })

-- ---- pieces

-- of all that is left, only the progress of this element's reorganisation has changed
pub record IsWorked (old new : Facts) (now number : ℕ) : Type 0 where
  pub newest : new.newest ≡ old.newest
  pub older : new.older ≡ old.older
  pub line : new.line ≡ old.line
  pub rows : new.rows ≡ old.rows
  pub past : old.moment ≤ now → new.moment ≤ now
  pub begun : (k : ℕ) → is_some (progress_of new.progress k) ≡ is_some (progress_of old.progress k)
  pub others : (k : ℕ) → k ≢ number → progress_of new.progress k ≡ progress_of old.progress k

moved_some : (n piece : ℕ) (cursor : Bytes) (o : Option Progress) → is_some (option_map (moved_to n piece cursor) o) ≡ is_some o
moved_some n piece cursor None = refl
moved_some n piece cursor (Some p) = refl

pub one_round : (old new : State) (number moment limit : ℕ) → Round old number moment limit new → IsWorked (facts_of old) (facts_of new) moment number
one_round old new number moment limit t =
    subst (λ (f : Facts). IsWorked (facts_of old) f moment number) (sym (facts_then old new (effective_moment old moment) (Piece t.read.element.number t.read.piece t.read.key_range.high) t.done.receipt t.committed.2))
    (record {
      newest = refl;
      older = refl;
      line = refl;
      rows = refl;
      past = λ le. omega (arith, le);
      begun = λ k. ap is_some (progress_moved t.read.element.number t.read.piece t.read.key_range.high (facts_of old).progress k) ∙ moved_some t.read.element.number t.read.piece t.read.key_range.high (progress_of (facts_of old).progress k);
      others = λ k ne. progress_moved t.read.element.number t.read.piece t.read.key_range.high (facts_of old).progress k ∙ moved_other (facts_of old).progress t.read.element.number t.read.piece t.read.key_range.high k (λ e. ne (e ∙ own)) (progress_of (facts_of old).progress k) refl;
    })
  where
    own : t.read.element.number ≡ number
    own = ap (λ (r : Reading). r.element.number) t.read_so.3.read_is ∙ its_number (facts_of old).progress number t.read_so.0 t.read_so.1

pub all_rounds : (n : ℕ) (old new : State) (number moment limit : ℕ) → Rounds n old number moment limit new → IsWorked (facts_of old) (facts_of new) moment number
all_rounds zero old new number moment limit same =
    subst (λ (s : State). IsWorked (facts_of old) (facts_of s) moment number) (sym same)
    (record { newest = refl; older = refl; line = refl; rows = refl; past = λ le. le; begun = λ k. refl; others = λ k ne. refl })
all_rounds (suc n) old new number moment limit (middle, rounds, last) =
    let first = all_rounds n old middle number moment limit rounds in
    let then = one_round middle new number moment limit last in
    record {
      newest = then.newest ∙ first.newest;
      older = then.older ∙ first.older;
      line = then.line ∙ first.line;
      rows = then.rows ∙ first.rows;
      past = λ le. then.past (first.past le);
      begun = λ k. then.begun k ∙ first.begun k;
      others = λ k ne. then.others k ne ∙ first.others k ne;
    }

module _ (old new : Facts) (now number : ℕ) (w : IsWorked old new now number) where
  same_unbegun : (k : ℕ) → unbegun_at new k ≡ unbegun_at old k
  same_unbegun k = ap (λ (v : Version). cond (is_some (option_and_then wanted_work (element_at v k)) && not (is_some (progress_of new.progress k))) 1 0) w.newest ∙ ap (λ (b : Bool). cond (is_some (wanted_at old k) && not b) 1 0) (w.begun k)

  pub worked_acts : acts_left new ≡ acts_left old
  worked_acts =
      ap (λ (v : Version). sum_below (λ k. acts_by (edges_at v k) (unbegun_at new k)) v.next) w.newest
      ∙ sum_same (acts_at old) (λ k. acts_by (edges_at old.newest k) (unbegun_at new k)) old.newest.next (λ k. ap (acts_by (edges_at old.newest k)) (same_unbegun k))

module _ (old new : Facts) (now number : ℕ) (kept : IsKept old) (w : IsWorked old new now number) (o : IsOpen old number) (ended : (work : Work) × (pieces : ℕ) × (standing_at new number ≡ Some (work, pieces, true))) where
  open_is : open_at old number ≡ 1
  open_is = ap (λ (p : Option Progress). cond (is_open_in (option_map standing p)) 1 0) o.begun ∙ ap (λ (b : Bool). cond (not b) 1 0) o.unended

  ended_is : open_at new number ≡ 0
  ended_is = ap (λ (o : Option (Work × ℕ × Bool)). cond (is_open_in o) 1 0) ended.2

  open_less : (k : ℕ) → open_at new k ≤ open_at old k
  open_less k = by (tells k number)
    where
      by : ((nat_eq k number ≡ true) × (k ≡ number)) ⊎ ((nat_eq k number ≡ false) × (k ≢ number)) → open_at new k ≤ open_at old k
      by (inl p) = let e : open_at new k ≡ 0 = ap (open_at new) p.1 ∙ ended_is in omega (arith, e)
      by (inr p) = let e : open_at new k ≡ open_at old k = ap (λ (o : Option Progress). cond (is_open_in (option_map standing o)) 1 0) (w.others k p.1) in omega (arith, e)

  pub work_lower : all_left new now < all_left old now
  work_lower =
      let edges : edges_left new ≡ edges_left old = ap (λ (v : Version). sum_below (edges_at v) v.next) w.newest in
      let begun : unbegun new ≡ unbegun old = ap (λ (v : Version). sum_below (unbegun_at new) v.next) w.newest ∙ sum_same (unbegun_at old) (unbegun_at new) old.newest.next (same_unbegun old new now number w) in
      let less : sum_below (open_at new) old.newest.next < open_left old = sum_less (open_at old) (open_at new) old.newest.next number (λ k lt. open_less k) ((kept.sound.elements number o.element o.there).given) (let a = open_is in let b = ended_is in omega (arith, a, b)) in
      let opened : open_left new < open_left old = subst (λ (v : Version). sum_below (open_at new) v.next < open_left old) (sym w.newest) less in
      let wait : waiting new now ≡ waiting old now = ap (λ line. cond (nat_lt now (earliest line)) 1 0) w.line in
      lower_work (edges_left old) (edges_left new) (unbegun old) (unbegun new) (open_left old) (open_left new) (waiting old now) (waiting new now) edges begun opened wait

-- ---- at rest

rest_at : (facts : Facts) → IsKept facts → ((number : ℕ) → ¬ (IsUnderWay facts number)) → (n : ℕ) (o : Option ElementDef) → element_at facts.newest n ≡ o → o ≡ end_of o
rest_at facts kept none n None is = refl
rest_at facts kept none n (Some e) is = by (next_state e) refl
  where
    by : (o : Option ElementState) → next_state e ≡ o → Some e ≡ end_of (Some e)
    by None next = at_end facts.newest n e (kept.sound.elements n e is) next
    by (Some to) next = absurd (none n (record { element = e; there = is; to = to; next = next }))

pub completed : (old new : Facts) → IsKept new → ((number : ℕ) → ¬ (IsUnderWay new number)) → ((n : ℕ) → end_of (element_at new.newest n) ≡ end_of (element_at old.newest n)) → AreCompleted old new
completed old new kept none ends n = rest_at new kept none n (element_at new.newest n) refl ∙ ends n

-- ---- the acts on a state

-- less is left, no row has changed, each element is where it was or further on its way, and so many acts fewer are left
pub record Carries (old new : Facts) (now acts : ℕ) : Type 0 where
  pub lower : all_left new now < all_left old now
  pub past : new.moment ≤ now
  pub rows : new.rows ≡ old.rows
  pub way : IsOnTheWay old new
  pub fewer : acts_left new + acts ≤ acts_left old

pub counted_is : (s : State) (now : ℕ) → (facts_of s).moment ≤ now → effective_moment s now ≡ now
counted_is s now le = omega (arith, le)

pub due_as : (facts : Facts) (now : ℕ) (a b : Act) → a ≡ b → IsDue facts now a → IsDue facts now b
due_as facts now a b is due = subst (IsDue facts now) is due

pub begin_carries : (old new : State) (now number pieces : ℕ) (receipt : Receipt) → IsKept (facts_of old) → (facts_of old).moment ≤ now → IsDue (facts_of old) (effective_moment old now) (act.Begin number) → BeginStep old now number pieces (Ok receipt) new → Carries (facts_of old) (facts_of new) now 1
begin_carries old new now number pieces receipt kept past d at =
    let time = counted_is old now past in
    let less = begin_acts (facts_of old) (effective_moment old now) number pieces d.0 kept in
    subst (λ (f : Facts). Carries (facts_of old) f now 1) (sym (facts_then old new (effective_moment old now) (Begin number pieces) receipt at.1))
    (record {
      lower = subst (λ (t : ℕ). all_left (after (facts_of old) (record { moment = effective_moment old now; what = Begin number pieces })) t < all_left (facts_of old) t) time (begin_lower (facts_of old) (effective_moment old now) number pieces d.0 kept);
      past = omega (arith, time);
      rows = refl;
      way = same_way (facts_of old) (after (facts_of old) (record { moment = effective_moment old now; what = Begin number pieces })) refl;
      fewer = omega (arith, less);
    })

pub step_carries : (old new : State) (now : ℕ) (step : List Move) (done : ℕ × Receipt) → IsKept (facts_of old) → (facts_of old).moment ≤ now → IsDue (facts_of old) (effective_moment old now) (act.Publish step) → PublishStep old now step (Ok done) new → Carries (facts_of old) (facts_of new) now 1
step_carries old new now step done kept past d at =
    let time = counted_is old now past in
    let less = step_acts (facts_of old) (effective_moment old now) kept.sound step d.0.1 d.0.2 in
    subst (λ (f : Facts). Carries (facts_of old) f now 1) (sym (facts_then old new (effective_moment old now) (Publish step) done.1 at.2))
    (record {
      lower = subst (λ (t : ℕ). all_left (after (facts_of old) (record { moment = effective_moment old now; what = Publish step })) t < all_left (facts_of old) t) time (step_lower (facts_of old) (effective_moment old now) kept step d.0.1 d.0.2);
      past = omega (arith, time);
      rows = refl;
      way = step_way (facts_of old) (effective_moment old now) kept step d.0.1 d.0.2;
      fewer = omega (arith, less);
    })

pub work_carries : (old new : State) (now number limit commits : ℕ) → IsKept (facts_of old) → (facts_of old).moment ≤ now → IsDue (facts_of old) (effective_moment old now) (act.Work number) → Rounds commits old number now limit new → HasEnded new number → Carries (facts_of old) (facts_of new) now 0
work_carries old new now number limit commits kept past d rounds ended =
    let w = all_rounds commits old new number now limit rounds in
    let same = worked_acts (facts_of old) (facts_of new) now number w in
    record {
      lower = work_lower (facts_of old) (facts_of new) now number kept w d.0 ended;
      past = w.past past;
      rows = w.rows;
      way = same_way (facts_of old) (facts_of new) w.newest;
      fewer = omega (arith, same);
    }
