-- The pieces of an element stay due until they have ended, since nothing else becomes due by them.
use Rattle.std.proofs.Common.{◌≡◌, ◌≢◌, ℕ, zero, suc, ◌<◌, ◌≤◌, Bool, true, false, cond, List, [], ◌∷◌, Option, Some, None, ◌⊎◌, inl, inr, refl, sym, ap, subst, ◌∙◌, arith, option_map, nat_eq, nat_lt, Ordering}
use Rattle.std.specs.Prelude.{is_some, slice_get, ◌&&◌}
use Rattle.std.specs.Option.{option_and_then}
use Rattle.std.specs.Ordering.{is_eq}
use Rattle.std.specs.declared.cmp.Ordering.TheVariants.{Less}
use Rattle.std.specs.List.{filter_map}
use Rattle.keycode.specs.Order.{bytes_cmp}
use Rattle.lease.specs.Timeline.{earliest}
use Rattle.schema_version.specs.declared.element.ElementState.{ElementState}
use Rattle.schema_version.specs.declared.element.ElementDef.{ElementDef}
use Rattle.schema_version.specs.declared.step.Move.{Move}
use Rattle.schema_version.specs.declared.step.Move.TheVariants.{Go}
use Rattle.schema_version.specs.Edges.{needed_work, wanted_work}
use Rattle.schema_version.specs.Version.{Version, element_at, live, state_of}
use Rattle.schema_version.proofs.Entries.{tells}
use Rattle.schema_version.proofs.Lists.{some_same}
use Rattle.reorganise.specs.declared.work.Span.{Span}
use Rattle.reorganise.specs.declared.work.Progress.{Progress}
use Rattle.reorganise.specs.Pieces.{is_ended, are_ended}
use Rattle.replay.specs.Kept.{used_before}
use Rattle.replay.specs.Replay.{Facts, progress_of, first_or}
use Rattle.world.specs.Piece.{standing}
use Rattle.world.specs.State.{State, facts_of}
use Rattle.piece_work.specs.WorkOff.{IsNext}
use Rattle.rollout.specs.declared.act.Act.{Act}
use Rattle.rollout.specs.declared.act.Act.TheVariants as act
use Rattle.rollout.specs.StatePath.{next_state}
use Rattle.rollout.specs.Due.{MayBegin, IsOpen, ended_in, is_ended_at, is_ready_by, move_by, ready_moves, due_rank, DueCondition, IsDue}
use Rattle.rollout.proofs.Ended.{IsWorked}

none_some : {A B : Type 0} {x : A} → None ≡ Some x → B
none_some e = absurd cc

-- ---- an open reorganisation

both_false : (a b : Bool) → b ≡ false → (a && b) ≡ false
both_false true b e = e
both_false false b e = refl

-- one piece that is below its end
still_open : (pieces : List Span) (i : ℕ) (span : Span) → slice_get pieces i ≡ Some span → bytes_cmp span.cursor span.high ≡ Less → are_ended pieces ≡ false
still_open [] i span at less = none_some at
still_open (p ∷ ps) zero span at less =
    ap (λ (s : Span). is_eq (bytes_cmp s.cursor s.high) && are_ended ps) (some_same at) ∙ ap (λ (o : Ordering). is_eq o && are_ended ps) less
still_open (p ∷ ps) (suc i) span at less = both_false (is_ended p) (are_ended ps) (still_open ps i span at less)

pub open_next : (old middle : State) (now number piece : ℕ) → IsWorked (facts_of old) (facts_of middle) now number → IsOpen (facts_of old) number → IsNext middle number piece → IsOpen (facts_of middle) number
open_next old middle now number piece w o next = record {
  element = o.element;
  there = ap (λ (v : Version). element_at v number) w.newest ∙ o.there;
  progress = next.progress;
  begun = next.begun;
  unended = still_open next.progress.pieces piece next.first.span next.first.here next.first.unended;
}

-- ---- what pieces leave as it was

none_before : (a b : Option Progress) → is_some a ≡ is_some b → a ≡ None → b ≡ None
none_before None None same is = refl
none_before None (Some p) same is = absurd cc
none_before (Some q) b same is = none_some (sym is)

module _ (old new : Facts) (now number : ℕ) (w : IsWorked old new now number) where
  before_is : used_before new now ≡ used_before old now
  before_is = λ i. cond (nat_lt now (earliest (w.line i))) (first_or (w.newest i) (w.older i)) (w.newest i)

  -- what may begin could begin before
  begin_before : (n : ℕ) → MayBegin new now n → MayBegin old now n
  begin_before n may = record {
    work = may.work;
    wants = ap (λ (v : Version). option_and_then wanted_work (element_at v n)) (sym w.newest) ∙ may.wants;
    settled = ap (λ (v : Version). state_of v n) (sym before_is) ∙ may.settled ∙ ap (λ (v : Version). state_of v n) w.newest;
    new = none_before (progress_of new.progress n) (progress_of old.progress n) (w.begun n) may.new;
  }

  module _ (before : IsOpen old number) (after : IsOpen new number) where
    ended_here : is_ended_at new number ≡ is_ended_at old number
    ended_here =
        ap (λ (o : Option Progress). ended_in (option_map standing o)) after.begun ∙ after.unended
        ∙ sym (ap (λ (o : Option Progress). ended_in (option_map standing o)) before.begun ∙ before.unended)

    ended_same : (k : ℕ) → is_ended_at new k ≡ is_ended_at old k
    ended_same k = by (tells k number)
      where
        by : ((nat_eq k number ≡ true) × (k ≡ number)) ⊎ ((nat_eq k number ≡ false) × (k ≢ number)) → is_ended_at new k ≡ is_ended_at old k
        by (inl p) = subst (λ (j : ℕ). is_ended_at new j ≡ is_ended_at old j) (sym p.1) ended_here
        by (inr p) = ap (λ (o : Option Progress). ended_in (option_map standing o)) (w.others k p.1)

    move_same : (e : ElementDef) (o : Option ElementState) → move_by new e o ≡ move_by old e o
    move_same e None = refl
    move_same e (Some to) = ap (λ (b : Bool). let m : Option Move = cond (is_ready_by (needed_work e.kind to) b) (Some (Go e.number to)) None in m) (ended_same e.number)

    moves_same : ready_moves new ≡ ready_moves old
    moves_same = λ i. filter_map (λ (e : ElementDef). move_same e (next_state e) i) (live (w.newest i))

    publish_before : (step : List Move) → DueCondition new now (act.Publish step) → DueCondition old now (act.Publish step)
    publish_before step d = (subst (λ line. earliest line ≤ now) w.line d.0, d.1 ∙ moves_same, d.2)

    pub work_stays : IsDue old now (act.Work number) → IsDue new now (act.Work number)
    work_stays due = (after, first)
      where
        first : (other : Act) → due_rank other < 3 → ¬ (DueCondition new now other)
        first (act.Begin n) lt = λ may. due.1 (act.Begin n) lt (begin_before n may)
        first (act.Publish step) lt = λ d. due.1 (act.Publish step) lt (publish_before step d)
        first (act.Work n) lt = absurd (omega (arith, lt))
        first (act.Wait until) lt = absurd (omega (arith, lt))
        first act.Nothing lt = absurd (omega (arith, lt))
