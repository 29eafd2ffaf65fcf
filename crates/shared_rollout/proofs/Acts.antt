-- Attempts until one act is done, and acts until no change is under way.
use Rattle.std.proofs.Common.{◌≡◌, ℕ, ◌+◌, ◌<◌, ◌≤◌, ◌++◌, ◌∷◌, ◌↔◌, List, [], length, All, Option, Some, None, refl, sym, ap, ◌∙◌, subst, inl, arith}
use Rattle.std.specs.Prelude.{Result, Ok, Err, IfOk, IfErr}
use Rattle.std.specs.List.{flat_map}
use Rattle.std.proofs.lemmas.List.{append_assoc, append-nil, length-append}
use Rattle.std.proofs.lemmas.List.Concat.{flat_map-cons}
use Rattle.std.proofs.lemmas.Grind.{flat_map-append}
use Rattle.std.proofs.lemmas.List.Elements.{All-append, All-cons, All-nil, All-same, All-weaker}
use Rattle.std.proofs.Math.Nat.{le-max_left}
use Rattle.lease.specs.Timeline.{max_moment}
use Rattle.locked_store.specs.Receipt.{Receipt}
use Rattle.locked_store.specs.State.{State, facts_of}
use Rattle.locked_store.specs.Known.{Known, own_of}
use Rattle.locked_store.specs.Receipts.{IsLogged}
use Rattle.locked_store.specs.Act.TheVariants as act
use Rattle.locked_store.specs.Advanced.{Advanced}
use Rattle.locked_store.specs.Advanced.TheVariants as advanced
use Rattle.shared_rollout.specs.Operator.{AreActs, AreNumbers, HasCompleted, HasStopped, IsAdvanced, IsRefused, IsSeen, WasDueAt, WereOvertaken, asked, entries_in, entries_of, next_of, receipts_of}
use Rattle.shared_rollout.specs.inner.Attempts.{Acts, ActsAndKeeps, Attempts}
use Rattle.shared_rollout.specs.declared.ask.Ask.{Ask}
use Rattle.shared_rollout.specs.declared.fault.OperatorFault.{OperatorFault}
use Rattle.shared_rollout.specs.declared.fault.OperatorFault.TheVariants as fault

-- ---- tries

-- a handle by which no entry was added since
abbrev pub IsStill : Known → Known → Type 0
IsStill v w = (own_of w ≡ own_of v) × (w.count ≡ v.count) × (v.front ≤ w.front)

pub still_same : (v w : Known) → w ≡ v → IsStill v w
still_same v w is = (ap own_of is, ap (λ (k : Known). k.count) is, omega (arith, ap (λ (k : Known). k.front) is))

pub too_late : (start : State) (ask : Ask) (v w : Known) → w ≡ v → max_moment < ask.moment → Acts start ask v (Err fault.MomentTooLarge) w
too_late start ask v w is late = let s = still_same v w is in record { same = s.0; rises = s.2; says = (inl late, s.1) }

last_done : (start : State) (ask : Ask) (v u w : Known) (done : Advanced) → IsStill v u → Attempts start ask u (Ok (Some done)) w → Acts start ask v (Ok done) w
last_done start ask v u w done s a =
    record { same = a.same ∙ s.0; rises = omega (arith, a.rises, s.2); says = (a.says.0, a.says.1, a.says.2 ∙ ap (λ n. n + entries_of done) s.1) }

pub done_at_last : (start : State) (ask : Ask) (v u w : Known) (found : Option Advanced) (done : Advanced) → found ≡ Some done → IsStill v u → Attempts start ask u (Ok found) w → Acts start ask v (Ok done) w
done_at_last start ask v u w found done is s a = last_done start ask v u w done s (subst (λ (o : Option Advanced). Attempts start ask u (Ok o) w) is a)

pub none_done : (start : State) (ask : Ask) (u w : Known) (found : Option Advanced) → found ≡ None → Attempts start ask u (Ok found) w → Attempts start ask u (Ok None) w
none_done start ask u w found is a = subst (λ (o : Option Advanced). Attempts start ask u (Ok o) w) is a

pub refused_at_last : (start : State) (ask : Ask) (v u w : Known) (why : OperatorFault) → IsStill v u → Attempts start ask u (Err why) w → Acts start ask v (Err why) w
refused_at_last start ask v u w why s a = record { same = a.same ∙ s.0; rises = omega (arith, a.rises, s.2); says = (a.says.0, a.says.1 ∙ s.1) }

pub still_later : (start : State) (ask : Ask) (v u w : Known) → IsStill v u → Attempts start ask u (Ok None) w → IsStill v w
still_later start ask v u w s a = (a.same ∙ s.0, a.says.1 ∙ s.1, omega (arith, a.rises, s.2))

-- as many tries as were allowed
pub busy : (start : State) (ask : Ask) (v w : Known) (failed : ℕ) → IsStill v w → failed ≤ ask.tries → ask.tries ≤ failed → WereOvertaken start ask failed → Acts start ask v (Err (fault.Busy ask.tries)) w
busy start ask v w failed s within over were =
    let all : failed ≡ ask.tries = omega (arith, within, over) in record { same = s.0; rises = s.2; says = ((refl, subst (λ n. WereOvertaken start ask n) all were), s.1) }

-- ---- acts

as_many : (done : Advanced) → length (receipts_of done) ≡ entries_of done
as_many (advanced.Began number receipt) = refl
as_many (advanced.Published version receipt) = refl
as_many (advanced.Worked number done) = refl
as_many (advanced.Waiting until) = refl
as_many advanced.Finished = refl

pub acted : (start : State) (ask : Ask) (v w : Known) (old mid new : List Receipt) (done : Advanced) (next : Option ℕ) → mid ≡ old → Acts start ask v (Ok done) w → next ≡ next_of ask.moment done → new ≡ mid ++ receipts_of done
    → ActsAndKeeps start ask v old (Ok next) w new
acted start ask v w old mid new done next same a next_is new_is =
    let is : new ≡ old ++ receipts_of done = new_is ∙ ap (λ l. l ++ receipts_of done) same in
    record {
      same = a.same;
      rises = a.rises;
      counted = omega (arith, a.says.2, ap (λ (l : List Receipt). length l) is, length-append old (receipts_of done), as_many done);
      says = record { done = done; is_advanced = a.says.0; seen = a.says.1; next_is = next_is; kept = is };
    }

pub act_refused : (start : State) (ask : Ask) (v w : Known) (old new : List Receipt) (why : OperatorFault) → new ≡ old → Acts start ask v (Err why) w → ActsAndKeeps start ask v old (Err why) w new
act_refused start ask v w old new why same a =
    record {
      same = a.same;
      rises = a.rises;
      counted = omega (arith, a.says.1, ap (λ (l : List Receipt). length l) same);
      says = (a.says.0, same);
    }

-- no room for a receipt
pub no_room : (start : State) (ask : Ask) (v w : Known) (old new : List Receipt) → w ≡ v → new ≡ old → ActsAndKeeps start ask v old (Err fault.Memory) w new
no_room start ask v w old new is same =
    let s = still_same v w is in act_refused start ask v w old new fault.Memory same (record { same = s.0; rises = s.2; says = (tt, s.1) })

-- ---- until no change is under way

some_same : (a b : ℕ) → Some a ≡ Some b → a ≡ b
some_same a b e = cc

-- a wait is for a later moment
not_before : (start : State) (ask : Ask) (done : Advanced) (next : ℕ) → IsAdvanced start ask done → next_of ask.moment done ≡ Some next → ask.moment ≤ next
not_before start ask (advanced.Began number receipt) next d is = omega (arith, some_same ask.moment next is)
not_before start ask (advanced.Published version receipt) next d is = omega (arith, some_same ask.moment next is)
not_before start ask (advanced.Worked number done) next d is = omega (arith, some_same ask.moment next is)
not_before start ask (advanced.Waiting until) next d is = omega (arith, some_same until next is, d.2.0.1, le-max_left ask.moment (facts_of d.0).moment)
not_before start ask advanced.Finished next d is = absurd cc

one_logged : (start : State) (front : ℕ) (receipt : Receipt) → IsLogged start front receipt → All (IsLogged start front) (receipt ∷ [])
one_logged start front receipt is = All-cons (IsLogged start front) receipt [] is (All-nil (IsLogged start front))

are_logged : (start : State) (ask : Ask) (done : Advanced) → IsAdvanced start ask done → All (IsLogged start ask.front) (receipts_of done)
are_logged start ask (advanced.Began number receipt) d = one_logged start ask.front receipt d.2
are_logged start ask (advanced.Published version receipt) d = one_logged start ask.front receipt d.3
are_logged start ask (advanced.Worked number done) d = one_logged start ask.front done.receipt d.2
are_logged start ask (advanced.Waiting until) d = All-nil (IsLogged start ask.front)
are_logged start ask advanced.Finished d = All-nil (IsLogged start ask.front)

-- what came after more of the log came after less of it
logged_since : (start : State) (front later : ℕ) → front ≤ later → (receipt : Receipt) → IsLogged start later receipt → IsLogged start front receipt
logged_since start front later le receipt is = record { core = is.core; is_core = is.is_core; stands = is.stands; new = omega (arith, le, is.new) }

-- one act more
acts_push : (start : State) (pieces limit tries front moment last now seen next : ℕ) (acts : List Advanced) (done : Advanced) → AreActs start pieces limit tries front moment acts last now
    → IsAdvanced start (asked now pieces limit tries last) done → IsSeen start now done seen → next_of now done ≡ Some next → AreActs start pieces limit tries front moment (acts ++ done ∷ []) seen next
acts_push start pieces limit tries front moment last now seen next [] done are is at then = (
  seen,
  next,
  subst (λ f. IsAdvanced start (asked moment pieces limit tries f) done) are.0 (subst (λ m. IsAdvanced start (asked m pieces limit tries last) done) are.1 is),
  subst (λ m. IsSeen start m done seen) are.1 at,
  subst (λ m. next_of m done ≡ Some next) are.1 then,
  (refl, refl),
)
acts_push start pieces limit tries front moment last now seen next (first ∷ acts) done are is at then =
    (are.0, are.1, are.2, are.3, are.4, acts_push start pieces limit tries are.0 are.1 last now seen next acts done are.5 is at then)

push_kept : (old : List Receipt) (acts : List Advanced) (done : Advanced) → (old ++ flat_map receipts_of acts) ++ receipts_of done ≡ old ++ flat_map receipts_of (acts ++ done ∷ [])
push_kept old acts done =
    let alone : flat_map receipts_of (done ∷ []) ≡ receipts_of done = flat_map-cons receipts_of done [] ∙ append-nil (receipts_of done) in
    append_assoc old (flat_map receipts_of acts) (receipts_of done)
    ∙ ap (λ l. old ++ l) (sym (flat_map-append receipts_of acts (done ∷ []) ∙ ap (λ l. flat_map receipts_of acts ++ l) alone))

-- some acts, the last of which left the handle so
pub record Went (start : State) (pieces limit tries moment : ℕ) (v : Known) (old : List Receipt) (now : ℕ) (w : Known) (new : List Receipt) : Type 0 where
  pub same : own_of w ≡ own_of v
  pub rises : v.front ≤ w.front
  pub counted : w.count + length old ≡ v.count + length new
  pub logged : All (IsLogged start v.front) old → All (IsLogged start v.front) new
  pub later : moment ≤ now
  pub acts : List Advanced
  pub are : AreActs start pieces limit tries v.front moment acts w.front now
  pub kept : new ≡ old ++ flat_map receipts_of acts

pub no_act : (start : State) (pieces limit tries moment : ℕ) (v : Known) (old : List Receipt) → Went start pieces limit tries moment v old moment v old
no_act start pieces limit tries moment v old =
    record { same = refl; rises = omega arith; counted = refl; logged = λ all. all; later = omega arith; acts = []; are = (refl, refl); kept = sym (append-nil old) }

pub one_act_more : (start : State) (pieces limit tries moment now front next : ℕ) (v u w : Known) (old mid new : List Receipt) (answer : Option ℕ) → front ≡ u.front → answer ≡ Some next → Went start pieces limit tries moment v old now u mid
    → ActsAndKeeps start (asked now pieces limit tries front) u mid (Ok answer) w new → Went start pieces limit tries moment v old next w new
one_act_more start pieces limit tries moment now front next v u w old mid new answer is some went t =
    let k = t.says in
    let then : next_of now k.done ≡ Some next = sym k.next_is ∙ some in
    let here : IsAdvanced start (asked now pieces limit tries u.front) k.done = subst (λ f. IsAdvanced start (asked now pieces limit tries f) k.done) is k.is_advanced in
    record {
      same = t.same ∙ went.same;
      rises = omega (arith, went.rises, t.rises);
      counted = omega (arith, went.counted, t.counted);
      logged = λ all.
          All-same (IsLogged start v.front) new (mid ++ receipts_of k.done) k.kept
          (All-append (IsLogged start v.front) mid (receipts_of k.done) (went.logged all)
          (All-weaker (IsLogged start u.front) (IsLogged start v.front) (logged_since start v.front u.front went.rises) (receipts_of k.done) (are_logged start (asked now pieces limit tries u.front) k.done here)));
      later = omega (arith, went.later, not_before start (asked now pieces limit tries u.front) k.done next here then);
      acts = went.acts ++ k.done ∷ [];
      are = acts_push start pieces limit tries v.front moment u.front now w.front next went.acts k.done went.are here k.seen then;
      kept = k.kept ∙ ap (λ l. l ++ receipts_of k.done) went.kept ∙ push_kept old went.acts k.done;
    }

-- the last look found that no change is under way
finds_nothing : (start : State) (ask : Ask) (front : ℕ) (done : Advanced) → next_of ask.moment done ≡ None → IsSeen start ask.moment done front → (receipts_of done ≡ []) × WasDueAt start front ask.moment act.Nothing
finds_nothing start ask front (advanced.Began number receipt) none at = absurd cc
finds_nothing start ask front (advanced.Published version receipt) none at = absurd cc
finds_nothing start ask front (advanced.Worked number done) none at = absurd cc
finds_nothing start ask front (advanced.Waiting until) none at = absurd cc
finds_nothing start ask front advanced.Finished none at = (refl, at)

-- the handle's number, its share and front, and the receipts, after the last look
pub record Ended (start : State) (v : Known) (old : List Receipt) (w : Known) (new : List Receipt) : Type 0 where
  pub same : own_of w ≡ own_of v
  pub rises : v.front ≤ w.front
  pub counted : w.count + length old ≡ v.count + length new
  pub logged : All (IsLogged start v.front) old → All (IsLogged start v.front) new

nothing_more : (start : State) (pieces limit tries moment now : ℕ) (v u w : Known) (old mid new : List Receipt) → new ≡ mid → own_of w ≡ own_of u → u.front ≤ w.front → w.count + length mid ≡ u.count + length new
    → Went start pieces limit tries moment v old now u mid → Ended start v old w new
nothing_more start pieces limit tries moment now v u w old mid new is id front counted went =
    record {
      same = id ∙ went.same;
      rises = omega (arith, went.rises, front);
      counted = omega (arith, went.counted, counted);
      logged = λ all. All-same (IsLogged start v.front) new mid is (went.logged all);
    }

pub finished_at : (start : State) (pieces limit tries moment now front : ℕ) (v u w : Known) (old mid new : List Receipt) (answer : Option ℕ) → front ≡ u.front → answer ≡ None → Went start pieces limit tries moment v old now u mid
    → ActsAndKeeps start (asked now pieces limit tries front) u mid (Ok answer) w new → HasCompleted start pieces limit tries v.front moment old now w.front new × Ended start v old w new
finished_at start pieces limit tries moment now front v u w old mid new answer is none went t =
    let k = t.says in
    let f = finds_nothing start (asked now pieces limit tries front) w.front k.done (sym k.next_is ∙ none) k.seen in
    let same : new ≡ mid = k.kept ∙ ap (λ l. mid ++ l) f.0 ∙ append-nil mid in (
      record { acts = went.acts; last = u.front; are = went.are; kept = same ∙ went.kept; since = t.rises; nothing = f.1 },
      nothing_more start pieces limit tries moment now v u w old mid new same t.same t.rises t.counted went,
    )

pub refused_at : (start : State) (pieces limit tries moment now front : ℕ) (v u w : Known) (old mid new : List Receipt) (why : OperatorFault) → front ≡ u.front → Went start pieces limit tries moment v old now u mid
    → ActsAndKeeps start (asked now pieces limit tries front) u mid (Err why) w new → HasStopped start pieces limit tries v.front moment old why w.front new × Ended start v old w new
refused_at start pieces limit tries moment now front v u w old mid new why is went t = (
  record {
    acts = went.acts;
    last = u.front;
    now = now;
    are = went.are;
    later = went.later;
    kept = t.says.1 ∙ went.kept;
    refused = subst (λ f. IsRefused start (asked now pieces limit tries f) w.front why) is t.says.0;
  },
  nothing_more start pieces limit tries moment now v u w old mid new t.says.1 t.same t.rises t.counted went,
)

-- a refusal for a bad number, and no other
pub bad_count : (start : State) (pieces limit tries front moment : ℕ) (old : List Receipt) (seen : ℕ) → ¬ (AreNumbers pieces limit tries) → HasStopped start pieces limit tries front moment old fault.BadCount seen old
bad_count start pieces limit tries front moment old seen bad =
    record { acts = []; last = front; now = moment; are = (refl, refl); later = omega arith; kept = sym (append-nil old); refused = bad }

pub is_no_bad_count : (start : State) (ask : Ask) (front : ℕ) (why : OperatorFault) → AreNumbers ask.pieces ask.limit ask.tries → IsRefused start ask front why → (why ≡ fault.BadCount) ↔ (¬ (AreNumbers ask.pieces ask.limit ask.tries))
is_no_bad_count start ask front why are is = (λ bad. subst (IsRefused start ask front) bad is, λ no. absurd (no are))

-- ---- the calls

pub acts_as : (start : State) (moment pieces limit tries front own : ℕ) (v w : Known) (result : Result Advanced OperatorFault) → front ≡ own → Acts start (asked moment pieces limit tries front) v result w
    → Acts start (asked moment pieces limit tries own) v result w
acts_as start moment pieces limit tries front own v w result is a = subst (λ f. Acts start (asked moment pieces limit tries f) v result w) is a

pub acts_done : (start : State) (ask : Ask) (v w : Known) (result : Result Advanced OperatorFault) → Acts start ask v result w → IfOk result (λ done. IsAdvanced start ask done)
acts_done start ask v w (Ok done) a = a.says.0
acts_done start ask v w (Err why) a = tt

pub acts_seen : (start : State) (ask : Ask) (v w : Known) (result : Result Advanced OperatorFault) → Acts start ask v result w → IfOk result (λ done. IsSeen start ask.moment done w.front)
acts_seen start ask v w (Ok done) a = a.says.1
acts_seen start ask v w (Err why) a = tt

pub acts_order : (start : State) (ask : Ask) (v w : Known) (result : Result Advanced OperatorFault) → AreNumbers ask.pieces ask.limit ask.tries → Acts start ask v result w
    → IfErr result (λ why. (why ≡ fault.BadCount) ↔ (¬ (AreNumbers ask.pieces ask.limit ask.tries)))
acts_order start ask v w (Ok done) are a = tt
acts_order start ask v w (Err why) are a = is_no_bad_count start ask w.front why are a.says.0

pub acts_refused : (start : State) (ask : Ask) (v w : Known) (result : Result Advanced OperatorFault) → Acts start ask v result w → IfErr result (λ why. IsRefused start ask w.front why)
acts_refused start ask v w (Ok done) a = tt
acts_refused start ask v w (Err why) a = a.says.0

pub acts_counted : (start : State) (ask : Ask) (v w : Known) (result : Result Advanced OperatorFault) → Acts start ask v result w → w.count ≡ v.count + entries_in result
acts_counted start ask v w (Ok done) a = a.says.2
acts_counted start ask v w (Err why) a = omega (arith, a.says.1)

pub any_ok : {A E P : Type 0} (result : Result A E) → P → IfOk result (λ x. P)
any_ok (Ok x) p = p
any_ok (Err e) p = tt
