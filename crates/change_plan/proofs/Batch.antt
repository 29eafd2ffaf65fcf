-- The schedules of a batch that can be planned are schedules of a lawful plan.
use Rattle.std.specs.Prelude.{◌≡◌, ◌≢◌, ℕ, zero, suc, ◌+◌, ◌<◌, List, [], ◌∷◌, ◌++◌, Bool, true, false, ◌&&◌, ◌||◌, ◌==◌, if◌then◌else◌, Option, Some, None, Contains, ◌⊎◌, count_by, flat_map, cond, refl}
use Rattle.std.specs.List.{list_any}
use Rattle.std.proofs.Common.{sym, ap, subst, ◌∙◌, inl, inr, true≢false, arith}
use Rattle.std.proofs.lemmas.List.{append_assoc, append-nil}
use Rattle.std.proofs.lemmas.List.Concat.{flat_map-cons}
use Rattle.std.proofs.lemmas.Grind.{flat_map-append}
use Rattle.std.proofs.lemmas.List.Sums.{sum_by-append}
use Rattle.std.proofs.lemmas.Bool.{cases_lt}
use Rattle.std.proofs.lemmas.List.Folds.{list_any-append}
use Rattle.std.proofs.lemmas.List.Elements.{Contains-append_cases}
use Rattle.schema_version.specs.declared.element.ElementState.{ElementState}
use Rattle.schema_version.specs.declared.element.ElementState.TheVariants.{Absent, DeleteOnly, WriteOnly, Public}
use Rattle.schema_version.specs.declared.element.Kind.{Kind}
use Rattle.schema_version.specs.declared.element.ElementDef.{ElementDef}
use Rattle.schema_version.specs.declared.step.Move.{Move}
use Rattle.schema_version.specs.Version.{Version, element_at}
use Rattle.schema_version.specs.Sound.{IsSoundVersion}
use Rattle.schema_version.specs.Edges.{is_filled}
use Rattle.schema_version.specs.Moves.{is_entry}
use Rattle.change_plan.specs.declared.change.Change.{Change}
use Rattle.change_plan.specs.declared.change.Change.TheVariants.{AddIndex, DropIndex, AddColumn, DropColumn, Abandon}
use Rattle.std.proofs.lemmas.Bool.Decides.{Decides-eqb}
use Rattle.change_plan.specs.declared.fault.PlanFault.TheVariants.{Unknown}
use Rattle.change_plan.specs.Batches.{dropped_element, drops}
use Rattle.change_plan.specs.Refusals.{IsPlannable}
use Rattle.change_plan.specs.declared.schedule.Transition.TheVariants.{Appear}
use Rattle.change_plan.specs.declared.schedule.StatePath.TheVariants.{PlainIn, FilledIn}
use Rattle.change_plan.specs.declared.schedule.Schedule.{Schedule}
use Rattle.change_plan.specs.Schedule.{state_path_in, state_path_out, transition_at, move_of, out_schedule, schedule_out, index_schedule, column_schedule, schedule_of, schedules_from, schedules, wait_in, enters_at, enters_before, number_of}
use Rattle.change_plan.proofs.MoveEffects.{not_both}
use Rattle.change_plan.proofs.Named.{contains_cases, contains_middle, split_at, ordered}
use Rattle.change_plan.proofs.Schedules.{is_in, appears}
use Rattle.change_plan.proofs.ScheduleMoves.{no_entry, entries}
use Rattle.change_plan.proofs.EntryNumbers.{count_first, count_split, one_if, before_next, before_more, none_before}
use Rattle.change_plan.proofs.Leaving.{from_public, index_there, column_there, entering_there, Departs, departs}
use Rattle.change_plan.proofs.ScheduleRules.{next_at}

-- ---- where a schedule comes from

pub data From (old : Version) (all earlier : List Change) (change : Change) (schedule : Schedule) : Type 0 where
  NewIndex : (table : ℕ) (name : List ℕ) (columns : List (List ℕ)) → change ≡ AddIndex table name columns
      → schedule ≡ index_schedule old all earlier table name columns
      → From old all earlier change schedule
  NewColumn : (table : ℕ) (name : List ℕ) (kind : Kind) → change ≡ AddColumn table name kind → schedule ≡ column_schedule (number_of old.next all earlier 0) table name kind → From old all earlier change schedule
  Leaves : (e : ElementDef) → dropped_element old change ≡ Some e → schedule ≡ out_schedule old all e → From old all earlier change schedule

one_head : (a b : Schedule) (xs ys : List Schedule) → a ∷ xs ≡ b ∷ ys → a ≡ b
one_head a b xs ys e = cc

one_tail : (a b : Schedule) (xs ys : List Schedule) → a ∷ xs ≡ b ∷ ys → xs ≡ ys
one_tail a b xs ys e = cc

no_schedule : (b : Schedule) (ys : List Schedule) → [] ≡ b ∷ ys → ⊥
no_schedule b ys e = cc

from_out : (old : Version) (all earlier : List Change) (change : Change) (schedule : Schedule) → schedule_out old all (dropped_element old change) ≡ schedule ∷ [] → From old all earlier change schedule
from_out old all earlier change schedule is = pick (dropped_element old change) refl
  where
    pick : (o : Option ElementDef) → dropped_element old change ≡ o → From old all earlier change schedule
    pick None t = absurd (no_schedule schedule [] (sym (ap (schedule_out old all) t) ∙ is))
    pick (Some e) t = Leaves e t (sym (one_head (out_schedule old all e) schedule [] [] (sym (ap (schedule_out old all) t) ∙ is)))

pub from : (old : Version) (all earlier : List Change) (change : Change) (schedule : Schedule) → schedule_of old all earlier change ≡ schedule ∷ [] → From old all earlier change schedule
from old all earlier (AddIndex table name columns) schedule is = NewIndex table name columns refl (sym (one_head _ schedule [] [] is))
from old all earlier (AddColumn table name kind) schedule is = NewColumn table name kind refl (sym (one_head _ schedule [] [] is))
from old all earlier (DropIndex table name) schedule is = from_out old all earlier (DropIndex table name) schedule is
from old all earlier (DropColumn table name) schedule is = from_out old all earlier (DropColumn table name) schedule is
from old all earlier (Abandon table name) schedule is = from_out old all earlier (Abandon table name) schedule is

-- a change makes at most one schedule
single : (old : Version) (all earlier : List Change) (change : Change) → (schedule_of old all earlier change ≡ []) ⊎ ((schedule : Schedule) × (schedule_of old all earlier change ≡ schedule ∷ []))
single old all earlier (AddIndex table name columns) = inr (_, refl)
single old all earlier (AddColumn table name kind) = inr (_, refl)
single old all earlier change = out (dropped_element old change)
  where
    out : (o : Option ElementDef) → (schedule_out old all o ≡ []) ⊎ ((schedule : Schedule) × (schedule_out old all o ≡ schedule ∷ []))
    out None = inl refl
    out (Some e) = inr (_, refl)

-- the change of a schedule, after those before it
pub record Placed (old : Version) (all earlier changes : List Change) (done : List Schedule) (schedule : Schedule) : Type 0 where
  pub before : List Change
  pub change : Change
  pub after : List Change
  pub split : changes ≡ before ++ change ∷ after
  pub done_is : done ≡ schedules_from old all earlier before
  pub from_change : From old all (earlier ++ before) change schedule

pub placed : (old : Version) (all earlier changes : List Change) (done rest : List Schedule) (schedule : Schedule) → schedules_from old all earlier changes ≡ done ++ schedule ∷ rest → Placed old all earlier changes done schedule
placed old all earlier [] [] rest schedule e = absurd (no_schedule _ _ e)
placed old all earlier [] (x ∷ done) rest schedule e = absurd (no_schedule _ _ e)
placed old all earlier (change ∷ changes) done rest schedule e = pick (λ ds f. placed old all (earlier ++ change ∷ []) changes ds rest schedule f) (single old all earlier change) done e
  where
    behind : (ds : List Schedule) → Placed old all (earlier ++ change ∷ []) changes ds schedule → (first : List Schedule) → schedule_of old all earlier change ≡ first → Placed old all earlier (change ∷ changes) (first ++ ds) schedule
    behind ds p first is = record {
      before = change ∷ p.before;
      change = p.change;
      after = p.after;
      split = ap (λ cs. change ∷ cs) p.split;
      done_is = ap (λ d. first ++ d) p.done_is ∙ ap (λ f. f ++ schedules_from old all (earlier ++ change ∷ []) p.before) (sym is);
      from_change = subst (λ cs. From old all cs p.change schedule) (append_assoc earlier (change ∷ []) p.before) p.from_change;
    }

    pick : ((ds : List Schedule) → schedules_from old all (earlier ++ change ∷ []) changes ≡ ds ++ schedule ∷ rest → Placed old all (earlier ++ change ∷ []) changes ds schedule)
        → (schedule_of old all earlier change ≡ []) ⊎ ((x : Schedule) × (schedule_of old all earlier change ≡ x ∷ [])) → (done : List Schedule) → schedules_from old all earlier (change ∷ changes) ≡ done ++ schedule ∷ rest → Placed old all earlier (change ∷ changes) done schedule
    pick again (inl none) done e = behind done (again done (ap (λ f. f ++ schedules_from old all (earlier ++ change ∷ []) changes) (sym none) ∙ e)) [] none
    pick again (inr some) [] e =
        let first : some.0 ∷ schedules_from old all (earlier ++ change ∷ []) changes ≡ schedule ∷ rest = ap (λ f. f ++ schedules_from old all (earlier ++ change ∷ []) changes) (sym some.1) ∙ e in
        let same : some.0 ≡ schedule = one_head some.0 schedule _ _ first in
        record {
          before = [];
          change = change;
          after = changes;
          split = refl;
          done_is = refl;
          from_change = subst (λ cs. From old all cs change schedule) (sym (append-nil earlier)) (from old all earlier change schedule (some.1 ∙ ap (λ t. t ∷ []) same));
        }
    pick again (inr some) (x ∷ ds) e =
        let first : some.0 ∷ schedules_from old all (earlier ++ change ∷ []) changes ≡ x ∷ (ds ++ schedule ∷ rest) = ap (λ f. f ++ schedules_from old all (earlier ++ change ∷ []) changes) (sym some.1) ∙ e in
        let same : some.0 ≡ x = one_head some.0 x _ _ first in
        behind ds (again ds (one_tail some.0 x _ _ first)) (x ∷ []) (some.1 ∙ ap (λ t. t ∷ []) same)

-- ---- how many enter at each time

-- of the entries that a test is of
pub counts : (old : Version) (all : List Change) (time : ℕ) (test : Move → Bool) (on : Change → Bool)
    → ((earlier : List Change) (change : Change) → count_by test (flat_map (move_of time) (schedule_of old all earlier change)) ≡ cond (on change) 1 0)
    → (earlier changes : List Change) → count_by test (flat_map (move_of time) (schedules_from old all earlier changes)) ≡ count_by on changes
counts old all time test on h earlier [] = refl
counts old all time test on h earlier (change ∷ changes) =
    ap (count_by test) (flat_map-append (move_of time) (schedule_of old all earlier change) _)
    ∙ sum_by-append (λ (m : Move). cond (test m) 1 0) (flat_map (move_of time) (schedule_of old all earlier change)) _
    ∙ ap (λ c. c + count_by test (flat_map (move_of time) (schedules_from old all (earlier ++ change ∷ []) changes))) (h earlier change)
    ∙ ap (λ c. cond (on change) 1 0 + c) (counts old all time test on h (earlier ++ change ∷ []) changes)
    ∙ sym (count_first on change changes)

pub alone : (time : ℕ) (schedule : Schedule) → flat_map (move_of time) (schedule ∷ []) ≡ move_of time schedule
alone time schedule = flat_map-cons (move_of time) schedule [] ∙ append-nil (move_of time schedule)

-- what comes, comes in
pub comes_in : (kind : Kind) → is_in (state_path_in kind) ≡ true
comes_in kind = by (is_filled kind)
  where
    by : (filled : Bool) → is_in (if filled then FilledIn else PlainIn) ≡ true
    by true = refl
    by false = refl

-- and none of what leaves does
pub out_of : (kind : Kind) (state : ElementState) → is_in (state_path_out kind state) ≡ false
out_of kind DeleteOnly = refl
out_of kind WriteOnly = refl
out_of kind Absent = (from_public (is_filled kind)).1
out_of kind Public = (from_public (is_filled kind)).1

no_out_entry : (old : Version) (all : List Change) (time : ℕ) (o : Option ElementDef) → count_by is_entry (flat_map (move_of time) (schedule_out old all o)) ≡ 0
no_out_entry old all time None = refl
no_out_entry old all time (Some e) = ap (count_by is_entry) (alone time (out_schedule old all e)) ∙ (no_entry time (out_schedule old all e) (out_of e.kind e.state)).0

and_so : (b : Bool) → (b && true) ≡ b
and_so true = refl
and_so false = refl

one_entry : (time : ℕ) (schedule : Schedule) → is_in schedule.state_path ≡ true → count_by is_entry (flat_map (move_of time) (schedule ∷ [])) ≡ cond (schedule.wait == time) 1 0
one_entry time schedule new = ap (count_by is_entry) (alone time schedule) ∙ entries is_entry (λ n to. refl) (λ n. refl) time schedule new true refl ∙ ap (λ b. cond b 1 0) (and_so (schedule.wait == time))

change_entries : (old : Version) (all : List Change) (time : ℕ) (earlier : List Change) (change : Change) → count_by is_entry (flat_map (move_of time) (schedule_of old all earlier change)) ≡ cond (enters_at all time change) 1 0
change_entries old all time earlier (AddIndex table name columns) = one_entry time (index_schedule old all earlier table name columns) refl
change_entries old all time earlier (AddColumn table name kind) = one_entry time (column_schedule (number_of old.next all earlier 0) table name kind) (comes_in kind)
change_entries old all time earlier change = no_out_entry old all time (dropped_element old change)

-- ---- numbers

-- an added element waits as its change says, and has its number; what leaves had one before
pub data Role (old : Version) (all earlier : List Change) (change : Change) (schedule : Schedule) : Type 0 where
  Enters : enters_at all schedule.wait change ≡ true → schedule.number ≡ number_of old.next all earlier schedule.wait → Role old all earlier change schedule
  Goes : (e : ElementDef) → dropped_element old change ≡ Some e → schedule.number ≡ e.number → is_in schedule.state_path ≡ false → Role old all earlier change schedule

pub role : (old : Version) (all earlier : List Change) (change : Change) (schedule : Schedule) → From old all earlier change schedule → Role old all earlier change schedule
role old all earlier change schedule (NewIndex table name columns is schedule_is) =
    Enters (ap (enters_at all schedule.wait) is ∙ (Decides-eqb (wait_in all table columns) schedule.wait).1 (sym (ap (λ (t : Schedule). t.wait) schedule_is)))
    (ap (λ (t : Schedule). t.number) schedule_is ∙ ap (number_of old.next all earlier) (sym (ap (λ (t : Schedule). t.wait) schedule_is)))
role old all earlier change schedule (NewColumn table name kind is schedule_is) =
    Enters (ap (enters_at all schedule.wait) is ∙ (Decides-eqb 0 schedule.wait).1 (sym (ap (λ (t : Schedule). t.wait) schedule_is)))
    (ap (λ (t : Schedule). t.number) schedule_is ∙ ap (number_of old.next all earlier) (sym (ap (λ (t : Schedule). t.wait) schedule_is)))
role old all earlier change schedule (Leaves e found schedule_is) = Goes e found (ap (λ (t : Schedule). t.number) schedule_is) (ap (λ (t : Schedule). is_in t.state_path) schedule_is ∙ out_of e.kind e.state)

module _ (old : Version) (all : List Change) where
  -- those that wait less have entered
  next_is : (time : ℕ) → next_at old (schedules old all) time ≡ old.next + count_by (enters_before all time) all
  next_is zero = omega (arith, none_before all all)
  next_is (suc time) = omega (arith, next_is time, before_next all time all, counts old all time is_entry (enters_at all time) (change_entries old all time) [] all)

  -- numbers are given in order
  pub number_is : (done rest : List Schedule) (schedule : Schedule) (time : ℕ) → schedules old all ≡ done ++ schedule ∷ rest → transition_at schedule time ≡ Appear → schedule.number ≡ next_at old (schedules old all) time + count_by is_entry (flat_map (move_of time) done)
  number_is done rest schedule time split transition = pick (role old all p.before p.change schedule p.from_change)
    where
      p : Placed old all [] all done schedule
      p = placed old all [] all done rest schedule split

      first : (time ≡ schedule.wait) × (is_in schedule.state_path ≡ true)
      first = appears schedule time transition

      entered : (t : ℕ) → count_by is_entry (flat_map (move_of t) done) ≡ count_by (enters_at all t) p.before
      entered t = ap (λ d. count_by is_entry (flat_map (move_of t) d)) p.done_is ∙ counts old all t is_entry (enters_at all t) (change_entries old all t) [] p.before

      pick : Role old all p.before p.change schedule → schedule.number ≡ next_at old (schedules old all) time + count_by is_entry (flat_map (move_of time) done)
      pick (Enters at is) =
          let there : schedule.number ≡ next_at old (schedules old all) schedule.wait + count_by is_entry (flat_map (move_of schedule.wait) done) = omega (arith, is, next_is schedule.wait, entered schedule.wait) in
          subst (λ t. schedule.number ≡ next_at old (schedules old all) t + count_by is_entry (flat_map (move_of t) done)) (sym first.0) there
      pick (Goes e found is out) = absurd (true≢false (sym first.1 ∙ out))

  -- whoever enters later has the greater number
  pub later_greater : (wait more : ℕ) (one two after : List Change) (change : Change) → wait < more → all ≡ one ++ change ∷ after → enters_at all wait change ≡ true → number_of old.next all one wait < number_of old.next all two more
  later_greater wait more one two after change lt split at =
      omega (arith, before_more all wait more lt all, count_split (enters_at all wait) all one after change split, one_if (enters_at all wait change) at)

-- ---- different numbers

or_here : (a b : Bool) → b ≡ true → (a || b) ≡ true
or_here true b e = refl
or_here false b e = e

pub any_middle : (test : Change → Bool) (xs before after : List Change) (x : Change) → xs ≡ before ++ x ∷ after → test x ≡ true → list_any test xs ≡ true
any_middle test xs before after x e is = ap (list_any test) e ∙ list_any-append test before (x ∷ after) ∙ or_here (list_any test before) _ (ap (λ b. b || list_any test after) is)

pub same_element : (old : Version) (a b : ElementDef) → element_at old a.number ≡ Some a → element_at old b.number ≡ Some b → a.number ≡ b.number → a ≡ b
same_element old a b at_a at_b is = let e : Some a ≡ Some b = sym at_a ∙ ap (element_at old) is ∙ at_b in cc

module _ (old : Version) (sound : IsSoundVersion old) (all : List Change) (plannable : IsPlannable old all) where
  -- what a change takes out, no other takes out after it
  twice : (before after : List Change) (change : Change) (e : ElementDef) → all ≡ before ++ change ∷ after → dropped_element old change ≡ Some e → list_any (drops e.table e.name) before ≡ true → ⊥
  twice before after (AddIndex table name columns) e split is earlier = not_both e None is refl
  twice before after (AddColumn table name kind) e split is earlier = not_both e None is refl
  twice before after (DropIndex table name) e split is earlier =
      let there = index_there old (ordered sound) table name e is in
      plannable before after (DropIndex table name) Unknown split (inr (subst (λ t. list_any (drops t name) before ≡ true) there.1 (subst (λ n. list_any (drops e.table n) before ≡ true) there.2 earlier)))
  twice before after (DropColumn table name) e split is earlier =
      let there = column_there old (ordered sound) table name e is in
      plannable before after (DropColumn table name) Unknown split (inr (subst (λ t. list_any (drops t name) before ≡ true) there.1 (subst (λ n. list_any (drops e.table n) before ≡ true) there.2 earlier)))
  twice before after (Abandon table name) e split is earlier =
      let there = entering_there old (ordered sound) table name e is in
      plannable before after (Abandon table name) Unknown split (inr (subst (λ t. list_any (drops t name) before ≡ true) there.1 (subst (λ n. list_any (drops e.table n) before ≡ true) there.2 earlier)))

  pub apart_is : (done rest : List Schedule) (schedule other : Schedule) → schedules old all ≡ done ++ schedule ∷ rest → Contains done other → other.number ≢ schedule.number
  apart_is done rest schedule other split among same = differ (role old all p.before p.change schedule p.from_change) (role old all q.before q.change other q.from_change)
    where
      p : Placed old all [] all done schedule
      p = placed old all [] all done rest schedule split

      s : (before after : List Schedule) × (done ≡ before ++ other ∷ after)
      s = split_at done other among

      q : Placed old all [] p.before s.0 other
      q = placed old all [] p.before s.0 s.1 other (sym p.done_is ∙ s.2)

      split_q : all ≡ q.before ++ q.change ∷ (q.after ++ p.change ∷ p.after)
      split_q = p.split ∙ ap (λ cs. cs ++ p.change ∷ p.after) q.split ∙ append_assoc q.before (q.change ∷ q.after) (p.change ∷ p.after)

      goes : (change : Change) → Contains all change → (e : ElementDef) → dropped_element old change ≡ Some e → Departs old change e
      goes change has e is = departs old sound all plannable change has e is

      has_p : Contains all p.change
      has_p = subst (λ cs. Contains cs p.change) (sym p.split) (contains_middle p.before p.after p.change)

      has_q : Contains all q.change
      has_q = subst (λ cs. Contains cs q.change) (sym split_q) (contains_middle q.before (q.after ++ p.change ∷ p.after) q.change)

      below : (change : Change) → Contains all change → (e : ElementDef) → dropped_element old change ≡ Some e → e.number < old.next
      below change has e is = (ordered sound).below e.number e (goes change has e is).there

      as_long : other.wait ≡ schedule.wait → enters_at all other.wait q.change ≡ true → schedule.number ≡ number_of old.next all p.before schedule.wait → other.number ≡ number_of old.next all q.before other.wait → ⊥
      as_long waits at pn qn =
          let pn_too : schedule.number ≡ number_of old.next all p.before other.wait = subst (λ w. schedule.number ≡ number_of old.next all p.before w) (sym waits) pn in
          omega (arith, pn_too, qn, same, count_split (enters_at all other.wait) p.before q.before q.after q.change q.split, one_if (enters_at all other.wait q.change) at)

      differ : Role old all p.before p.change schedule → Role old all q.before q.change other → ⊥
      differ (Enters pe pn) (Enters qe qn) = elim (cases_lt schedule.wait other.wait) [
        | inl less ↦ omega (arith, pn, qn, same, later_greater old all schedule.wait other.wait p.before q.before p.after p.change less p.split pe)
        | inr le ↦ elim (cases_lt other.wait schedule.wait) [
          | inl less ↦ omega (arith, pn, qn, same, later_greater old all other.wait schedule.wait q.before p.before (q.after ++ p.change ∷ p.after) q.change less split_q qe)
          | inr ge ↦ as_long (omega (arith, le, ge)) qe pn qn
        ]
      ]
      differ (Enters pe pn) (Goes f found qn out) = let small : f.number < old.next = below q.change has_q f found in omega (arith, pn, qn, same)
      differ (Goes f found pn out) (Enters qe qn) = let small : f.number < old.next = below p.change has_p f found in omega (arith, pn, qn, same)
      differ (Goes f found pn out) (Goes g found_q qn out_q) =
          let one : f ≡ g = same_element old f g (goes p.change has_p f found).there (goes q.change has_q g found_q).there (sym pn ∙ sym same ∙ qn) in
          twice p.before p.after p.change f p.split found (any_middle (drops f.table f.name) p.before q.before q.after q.change q.split (subst (λ (x : ElementDef). drops x.table x.name q.change ≡ true) (sym one) (goes q.change has_q g found_q).is_named))

  pub one_is : (a b : Schedule) → Contains (schedules old all) a → Contains (schedules old all) b → a.number ≡ b.number → a ≡ b
  one_is a b has_a has_b same = pick (Contains-append_cases sa.0 (a ∷ sa.1) b (subst (λ ts. Contains ts b) sa.2 has_b))
    where
      sa : (before after : List Schedule) × (schedules old all ≡ before ++ a ∷ after)
      sa = split_at (schedules old all) a has_a

      behind : Contains sa.1 b → a ≡ b
      behind has =
          let sb = split_at sa.1 b has in
          let whole : schedules old all ≡ (sa.0 ++ a ∷ sb.0) ++ b ∷ sb.1 = sa.2 ∙ ap (λ r. sa.0 ++ a ∷ r) sb.2 ∙ sym (append_assoc sa.0 (a ∷ sb.0) (b ∷ sb.1)) in
          absurd (apart_is (sa.0 ++ a ∷ sb.0) sb.1 b a whole (contains_middle sa.0 sb.0 a) same)

      pick : Contains sa.0 b ⊎ Contains (a ∷ sa.1) b → a ≡ b
      pick (inl has) = absurd (apart_is sa.0 sa.1 a b sa.2 has (sym same))
      pick (inr has) = elim (contains_cases a sa.1 b has) [ inl is ↦ is | inr more ↦ behind more ]
