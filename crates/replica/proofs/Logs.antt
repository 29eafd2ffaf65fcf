-- Entries repeated in turn, and whole logs.
use Rattle.std.proofs.Common.{◌≡◌, List, [], ◌∷◌, ◌++◌, Option, Some, None, refl, sym, ap, subst, ◌∙◌, append-nil, append_assoc}
use Rattle.std.specs.List.{AllByRecursion}
use Rattle.replay.specs.declared.entry.Entry.{Entry}
use Rattle.world.specs.declared.event.Event.{Event}
use Rattle.world.specs.declared.event.Reply.{Reply}
use Rattle.world.specs.Run.{Happens, Runs}
use Rattle.world.specs.State.{State, effect, opened}
use Rattle.replica.specs.Next.{IsNext}
use Rattle.replica.specs.Laws.{RepeatsAll, RepeatsAreEqual, IsKnown, added, left_by, LogsRepeat, LogsAreNeverRefused}
use Rattle.replica.proofs.Accepted.{accepted_next, accepted_effect}

-- the state that entries leave
abbrev pub effects : State → List Entry → State
effects old [] = old
effects old (entry ∷ entries) = effects (effect old entry) entries

-- each is the next one once those before it have been repeated
abbrev pub AreNext : State → List Entry → Type 0
AreNext old [] = Unit {0}
AreNext old (entry ∷ entries) = IsNext old entry × AreNext (effect old entry) entries

repeats_leave : (old new : State) (entries : List Entry) → RepeatsAll old entries new → new ≡ effects old entries
repeats_leave old new [] all = all
repeats_leave old new (entry ∷ entries) all = repeats_leave all.1 new entries all.3 ∙ ap (λ (s : State). effects s entries) all.2.3

pub repeats_equal : RepeatsAreEqual
repeats_equal old one other entries a b = repeats_leave old one entries a ∙ sym (repeats_leave old other entries b)

log_of : (old : State) (entries : List Entry) → (effects old entries).log ≡ old.log ++ entries
log_of old [] = sym (append-nil old.log)
log_of old (entry ∷ entries) = log_of (effect old entry) entries ∙ append_assoc old.log (entry ∷ []) entries

next_at : (old : State) (before : List Entry) (entry : Entry) (after : List Entry) → AreNext old (before ++ entry ∷ after) → IsNext (effects old before) entry
next_at old [] entry after all = all.0
next_at old (first ∷ before) entry after all = next_at (effect old first) before entry after all.1

-- what a run added
record Logged (old : State) (events : List Event) (new : State) (entries : List Entry) : Type 0 where
  state : new ≡ effects old entries
  next : AllByRecursion IsKnown events → AreNext old entries

logged_more : (old middle new : State) (event : Event) (events : List Event) (reply : Reply) (entries : List Entry) (o : Option Entry) → added reply ≡ o → Happens old event reply middle → Logged middle events new entries
    → (all : List Entry) × Logged old (event ∷ events) new all
logged_more old middle new event events reply entries None at happens rest =
    let is : middle ≡ old = accepted_effect old middle event reply happens ∙ ap (left_by old) at in
    (entries, record { state = rest.state ∙ ap (λ (s : State). effects s entries) is; next = λ known. subst (λ (s : State). AreNext s entries) is (rest.next known.1) })
logged_more old middle new event events reply entries (Some entry) at happens rest =
    let is : middle ≡ effect old entry = accepted_effect old middle event reply happens ∙ ap (left_by old) at in (
      entry ∷ entries,
      record {
        state = rest.state ∙ ap (λ (s : State). effects s entries) is;
        next = λ known. (accepted_next old middle event reply entry known.0 happens at, subst (λ (s : State). AreNext s entries) is (rest.next known.1));
      },
    )

run_logged : (old new : State) (events : List Event) (replies : List Reply) → Runs old events replies new → (entries : List Entry) × Logged old events new entries
run_logged old new [] [] run = ([], record { state = run; next = λ known. tt })
run_logged old new [] (reply ∷ replies) run = absurd run
run_logged old new (event ∷ events) [] run = absurd run
run_logged old new (event ∷ events) (reply ∷ replies) run =
    let rest = run_logged run.0 new events replies run.4 in
    logged_more old run.0 new event events reply rest.0 (added reply) refl run.1 rest.1

pub logs_repeat : LogsRepeat
logs_repeat opening events replies one other run repeats =
    let logged = run_logged (opened opening) one events replies run in
    let same : one.log ≡ logged.0 = ap (λ (s : State). s.log) logged.1.state ∙ log_of (opened opening) logged.0 in
    repeats_leave (opened opening) other one.log repeats ∙ ap (effects (opened opening)) same ∙ sym logged.1.state

pub logs_never_refused : LogsAreNeverRefused
logs_never_refused opening events replies one middle new before entry after known run split repeats refused =
    let logged = run_logged (opened opening) one events replies run in
    let same : logged.0 ≡ before ++ entry ∷ after = sym (ap (λ (s : State). s.log) logged.1.state ∙ log_of (opened opening) logged.0) ∙ split in
    let next = next_at (opened opening) before entry after (subst (AreNext (opened opening)) same (logged.1.next known)) in
    refused.0 (subst (λ (s : State). IsNext s entry) (sym (repeats_leave (opened opening) middle before repeats)) next)
