-- What is so between two acts of `complete`, and what it answers.
use Rattle.std.proofs.Common.{◌≡◌, ℕ, ◌+◌, ◌<◌, ◌≤◌, List, Result, Ok, Err, inr, refl, sym, subst, ◌∙◌, arith}
use Rattle.lease.specs.Timeline.{max_moment, newest as newest_number}
use Rattle.schema_version.specs.declared.step.Move.{Move}
use Rattle.replay.specs.declared.entry.What.TheVariants.{Publish, Begin}
use Rattle.replay.specs.Kept.{IsKept}
use Rattle.world.specs.BeginReorg.{BeginStep}
use Rattle.world.specs.Calls.{effective_moment}
use Rattle.world.specs.Publish.{PublishStep, max_versions}
use Rattle.world.specs.declared.entry.Receipt.{Receipt}
use Rattle.world.specs.State.{State, facts_of, IsReplayed}
use Rattle.piece_work.specs.WorkOff.{Rounds, HasEnded}
use Rattle.rollout.specs.declared.act.Act.{Act}
use Rattle.rollout.specs.declared.act.Act.TheVariants as act
use Rattle.rollout.specs.declared.advanced.AdvanceFault.{AdvanceFault}
use Rattle.rollout.specs.declared.advanced.AdvanceFault.TheVariants as advance_fault
use Rattle.rollout.specs.Advance.{AreCounts, IsStepDue}
use Rattle.rollout.specs.Complete.{IsTooLate, CompleteAnswer, CompleteStep}
use Rattle.rollout.specs.Course.{IsCourse}
use Rattle.rollout.specs.Due.{IsDue}
use Rattle.rollout.specs.Few.{acts_in}
use Rattle.rollout.specs.Left.{acts_left, all_left, IsOnTheWay}
use Rattle.rollout.proofs.Ended.{all_rounds, worked_acts, completed, Carries, due_as, begin_carries, step_carries, work_carries}
use Rattle.rollout.proofs.Few.{are_few_left, acts_then, rounds_act}
use Rattle.rollout.proofs.Legs.{no_course}
use Rattle.rollout.proofs.NoMore.{AddsNone, begin_adds_none, step_adds_none, rounds_on}
use Rattle.rollout.proofs.Way.{same_way, way_on, way_ends}

-- ---- what is so between two acts

-- each element is where it was or further on its way, no row has changed, an act that was done is one that is no longer left, and items that a
-- piece took are no longer ahead
pub record IsCarried (pieces limit : ℕ) (old new : State) : Type 0 where
  pub way : IsOnTheWay (facts_of old) (facts_of new)
  pub rows : (facts_of new).rows ≡ (facts_of old).rows
  pub few : acts_in new.log + acts_left (facts_of new) ≤ acts_in old.log + acts_left (facts_of old)
  pub adds_none : AddsNone pieces limit old new

pub carried_at_first : (pieces limit : ℕ) (s : State) → IsCarried pieces limit s s
carried_at_first pieces limit s = record { way = same_way (facts_of s) (facts_of s) refl; rows = refl; few = omega arith; adds_none = λ k. omega arith }

adds_none_on : (pieces limit : ℕ) (old middle new : State) → AddsNone pieces limit old middle → AddsNone pieces limit middle new → AddsNone pieces limit old new
adds_none_on pieces limit old middle new first then k = (let a = first k in let b = then k in omega (arith, a, b))

carried_on : (pieces limit : ℕ) (old middle new : State) (now acts : ℕ) → IsCarried pieces limit old middle → Carries (facts_of middle) (facts_of new) now acts → acts_in new.log ≡ acts_in middle.log + acts → AddsNone pieces limit middle new
    → IsCarried pieces limit old new
carried_on pieces limit old middle new now acts so c log none =
    let before = so.few in
    let fewer = c.fewer in
    record {
      way = way_on (facts_of old) (facts_of middle) (facts_of new) so.way c.way;
      rows = c.rows ∙ so.rows;
      few = omega (arith, log, before, fewer);
      adds_none = adds_none_on pieces limit old middle new so.adds_none none;
    }

-- the state after an act: it is carried on, less is left, and the moment has not passed
pub record IsNextState (pieces limit : ℕ) (old middle new : State) (now : ℕ) : Type 0 where
  pub carried : IsCarried pieces limit old new
  pub lower : all_left (facts_of new) now < all_left (facts_of middle) now
  pub past : (facts_of new).moment ≤ now

pub begin_next : (old middle new : State) (now number pieces limit : ℕ) (receipt : Receipt) (what : Act) → AreCounts pieces limit → IsCarried pieces limit old middle → IsKept (facts_of middle) → (facts_of middle).moment ≤ now → what ≡ act.Begin number → IsDue (facts_of middle) (effective_moment middle now) what → BeginStep middle now number pieces (Ok receipt) new → IsNextState pieces limit old middle new now
begin_next old middle new now number pieces limit receipt what counts so kept past is due at =
    let due_so = due_as (facts_of middle) (effective_moment middle now) what (act.Begin number) is due in
    let c = begin_carries middle new now number pieces receipt kept past due_so at in
    let none = begin_adds_none middle new now number pieces limit receipt counts.piece_count kept due_so at in
    record { carried = carried_on pieces limit old middle new now 1 so c (acts_then middle new (effective_moment middle now) (Begin number pieces) receipt at.1) none; lower = c.lower; past = c.past }

pub step_next : (old middle new : State) (now pieces limit : ℕ) (step : List Move) (done : ℕ × Receipt) (what : Act) → IsCarried pieces limit old middle → IsKept (facts_of middle) → (facts_of middle).moment ≤ now → what ≡ act.Publish step → IsDue (facts_of middle) (effective_moment middle now) what → PublishStep middle now step (Ok done) new → IsNextState pieces limit old middle new now
step_next old middle new now pieces limit step done what so kept past is due at =
    let due_so = due_as (facts_of middle) (effective_moment middle now) what (act.Publish step) is due in
    let c = step_carries middle new now step done kept past due_so at in
    let none = step_adds_none middle new now step done pieces limit kept due_so at in
    record { carried = carried_on pieces limit old middle new now 1 so c (acts_then middle new (effective_moment middle now) (Publish step) done.1 at.2) none; lower = c.lower; past = c.past }

pub work_next : (old middle new : State) (now number pieces limit : ℕ) (what : Act) → IsCarried pieces limit old middle → IsKept (facts_of middle) → IsReplayed middle → (facts_of middle).moment ≤ now → what ≡ act.Work number → IsDue (facts_of middle) (effective_moment middle now) what → (commits : ℕ) × Rounds commits middle number now limit new → HasEnded new number → IsNextState pieces limit old middle new now
work_next old middle new now number pieces limit what so kept replayed past is due rounds ended =
    let c = work_carries middle new now number limit rounds.0 kept past (due_as (facts_of middle) (effective_moment middle now) what (act.Work number) is due) rounds.1 ended in
    let log = rounds_act rounds.0 middle new number now limit rounds.1 in
    let on = rounds_on rounds.0 pieces limit number now middle new rounds.1 kept replayed in
    record { carried = carried_on pieces limit old middle new now 0 so c (omega (arith, log)) on.adds_none; lower = c.lower; past = c.past }

-- pieces that were worked before one was refused
pub some_rounds : (old middle new : State) (now number pieces limit : ℕ) → IsCarried pieces limit old middle → IsKept (facts_of middle) → IsReplayed middle → (commits : ℕ) × Rounds commits middle number now limit new → IsCarried pieces limit old new
some_rounds old middle new now number pieces limit so kept replayed rounds =
    let w = all_rounds rounds.0 middle new number now limit rounds.1 in
    let log = rounds_act rounds.0 middle new number now limit rounds.1 in
    let left = worked_acts (facts_of middle) (facts_of new) now number w in
    let before = so.few in
    record {
      way = way_on (facts_of old) (facts_of middle) (facts_of new) so.way (same_way (facts_of middle) (facts_of new) w.newest);
      rows = w.rows ∙ so.rows;
      few = omega (arith, log, left, before);
      adds_none = adds_none_on pieces limit old middle new so.adds_none (rounds_on rounds.0 pieces limit number now middle new rounds.1 kept replayed).adds_none;
    }

-- a wait moves the moment on, and what waits for a moment above 2^62 waits too long
pub wait_next : (old s : State) (moment now until : ℕ) (what : Act) → what ≡ act.Wait until → IsDue (facts_of s) (effective_moment s now) what → (now < until) × (max_moment < until → IsTooLate old moment s)
wait_next old s moment now until what is due =
    let d = due_as (facts_of s) (effective_moment s now) what (act.Wait until) is due in
    let lt = d.0.1 in
    (omega (arith, lt), λ late. inr (subst (λ (t : ℕ). max_moment < t) d.0.0 late, d.0.2))

-- ---- the call

pub complete_step : (old new : State) (moment end pieces limit : ℕ) (result : Result ℕ AdvanceFault) → IsCourse pieces limit old (effective_moment old moment) new end → IsCarried pieces limit old new → CompleteAnswer old moment pieces limit result new end → CompleteStep old moment pieces limit result new
complete_step old new moment end pieces limit result course so answer =
    let few = so.few in
    let most = are_few_left (facts_of old) in
    record { end = end; course = course; way = so.way; rows = so.rows; few = omega (arith, few, most); pieces_few = λ k. (let none = so.adds_none k in omega (arith, none)); answer = answer }

-- bad counts
pub bad_step : (s : State) (moment pieces limit : ℕ) → ¬ (AreCounts pieces limit) → CompleteStep s moment pieces limit (Err advance_fault.BadCount) s
bad_step s moment pieces limit bad =
    complete_step s s moment (effective_moment s moment) pieces limit (Err advance_fault.BadCount) (no_course pieces limit s (effective_moment s moment)) (carried_at_first pieces limit s) (bad, refl, refl)

-- out of memory
pub memory_step : (old new : State) (moment end pieces limit : ℕ) (result : Result ℕ AdvanceFault) → IsCourse pieces limit old (effective_moment old moment) new end → IsCarried pieces limit old new → AreCounts pieces limit → end ≤ max_moment → result ≡ Err advance_fault.Memory → CompleteStep old moment pieces limit result new
memory_step old new moment end pieces limit result course so counts le is =
    subst (λ (r : Result ℕ AdvanceFault). CompleteStep old moment pieces limit r new) (sym is) (complete_step old new moment end pieces limit (Err advance_fault.Memory) course so (counts, le))

-- why a publication that is due was refused
abbrev pub IsStepRefused : State → AdvanceFault → Type 0
IsStepRefused middle fault =
    (fault ≡ advance_fault.VersionsSpent → max_versions ≤ newest_number (facts_of middle).line) × (fault ≡ advance_fault.MomentTooLarge → ⊥) × (fault ≡ advance_fault.BadCount → ⊥)

refused_by : (old middle : State) (moment end pieces limit : ℕ) (fault : AdvanceFault) → AreCounts pieces limit → end ≤ max_moment → IsStepDue middle end → IsStepRefused middle fault → CompleteAnswer old moment pieces limit (Err fault) middle end
refused_by old middle moment end pieces limit advance_fault.BadCount counts le due why = absurd (why.2 refl)
refused_by old middle moment end pieces limit advance_fault.MomentTooLarge counts le due why = absurd (why.1 refl)
refused_by old middle moment end pieces limit advance_fault.VersionsSpent counts le due why = (counts, le, due, why.0 refl)
refused_by old middle moment end pieces limit advance_fault.Memory counts le due why = (counts, le)

pub refused_step : (old middle new : State) (moment end pieces limit : ℕ) (fault : AdvanceFault) (result : Result ℕ AdvanceFault) → IsCourse pieces limit old (effective_moment old moment) middle end → IsCarried pieces limit old middle → new ≡ middle → AreCounts pieces limit → end ≤ max_moment → IsStepDue middle end → IsStepRefused middle fault → result ≡ Err fault → CompleteStep old moment pieces limit result new
refused_step old middle new moment end pieces limit fault result course so same counts le due why is =
    subst (λ (s : State). CompleteStep old moment pieces limit result s) (sym same)
    (subst (λ (r : Result ℕ AdvanceFault). CompleteStep old moment pieces limit r middle) (sym is)
    (complete_step old middle moment end pieces limit (Err fault) course so (refused_by old middle moment end pieces limit fault counts le due why)))

pub nothing_step : (old s : State) (moment pieces limit now : ℕ) (what : Act) → IsCourse pieces limit old (effective_moment old moment) s now → IsCarried pieces limit old s → AreCounts pieces limit → IsKept (facts_of s) → what ≡ act.Nothing → IsDue (facts_of s) (effective_moment s now) what → effective_moment old moment ≤ now → (facts_of s).moment ≤ now → now ≤ max_moment → CompleteStep old moment pieces limit (Ok now) s
nothing_step old s moment pieces limit now what course so counts kept is due since past le =
    let none = due_as (facts_of s) (effective_moment s now) what act.Nothing is due in
    complete_step old s moment now pieces limit (Ok now) course so
    (counts, refl, (none, refl), completed (facts_of old) (facts_of s) kept none.0 (way_ends (facts_of old) (facts_of s) so.way), since, past, le)
