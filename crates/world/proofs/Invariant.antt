-- What is true of the fields of a World, after any call; and what it says of the versions.
use Rattle.std.proofs.Common.{◌≡◌, ℕ, ◌+◌, ◌<◌, ◌≤◌, max, List, [], ◌∷◌, ◌++◌, length, Option, Some, None, refl, sym, ap, subst, ◌∙◌, ◌⊎◌, inl, inr, arith, Bool, true, false, cond, eq-eqb, ne_eqb}
use Rattle.std.specs.Prelude.{slice_get, ◌||◌, ◌==◌, zero, suc}
use Rattle.element_state.specs.Consistent.{IsConsistent}
use Rattle.lease.specs.declared.lease.Lease.{Lease}
use Rattle.lease.specs.Refusals.{Serves}
use Rattle.lease.specs.Timeline.{Timeline, last_publication, newest as newest_number}
use Rattle.lease.proofs.Uses.{usable_to}
use Rattle.row_map.specs.Rows.{Pairs}
use Rattle.schema_version.specs.Version.{Version}
use Rattle.replay.specs.declared.entry.Entry.{Entry}
use Rattle.replay.specs.declared.entry.What.{What}
use Rattle.replay.specs.Headline.{MayFollow}
use Rattle.replay.specs.Replay.{Facts, start, version_in, version_at, after, after_all, pairs_by}
use Rattle.replay.specs.Kept.{IsKept, FactsAgree as AgreesOf}
use Rattle.world.specs.declared.entry.Receipt.{Receipt}
use Rattle.world.specs.declared.log.Log.{Log}
use Rattle.world.specs.declared.world.World.TheInside.{Inside}
use Rattle.world.specs.Calls.{effective_moment, Appends}
use Rattle.checkpoint_check.specs.Checkpoint.{said_by}
use Rattle.world.specs.Inside.{state_of, state_with, Follow, IsHeld}
use Rattle.world.specs.Whole.{whole, one_more, count_of}
use Rattle.world.specs.State.{State, facts_of, effect, recent, IsReplayed, Agrees}

none_some : {A B : Type 0} {v : A} → None ≡ Some v → B
none_some e = absurd cc

some_one : {A : Type 0} {v w : A} → Some v ≡ (let o : Option A = Some w in o) → v ≡ w
some_one e = cc

-- ---- one entry more

after_all-append : (facts : Facts) (log more : List Entry) → after_all facts (log ++ more) ≡ after_all (after_all facts log) more
after_all-append facts [] more = refl
after_all-append facts (entry ∷ log) more = after_all-append (after facts entry) log more

pub facts_after : (s : State) (entry : Entry) → facts_of (effect s entry) ≡ after (facts_of s) entry
facts_after s entry = after_all-append (said_by s.opening) s.log (entry ∷ [])

-- the fields g after an accepted call on f
pub held_after : (f g : Inside) (entry : Entry) → state_of g ≡ effect (state_of f) entry → Follow g (after (facts_of (state_of f)) entry) → IsKept (after (facts_of (state_of f)) entry) → IsHeld g
held_after f g entry state follow kept =
    let same : after (facts_of (state_of f)) entry ≡ facts_of (state_of g) = sym (facts_after (state_of f) entry) ∙ ap facts_of (sym state) in
    record { follow = subst (Follow g) same follow; kept = subst IsKept same kept }

-- and after one that changed nothing but the room of a list
pub held_same : (f g : Inside) → IsHeld f → state_of g ≡ state_of f → Follow g (facts_of (state_of f)) → IsHeld g
held_same f g h state follow =
    let same : facts_of (state_of f) ≡ facts_of (state_of g) = ap facts_of (sym state) in
    record { follow = subst (Follow g) same follow; kept = subst IsKept same h.kept }

-- ---- the log

-- one entry more, and the receipt for it
pub record IsLogged (old : Log) (entry : Entry) (receipt : Receipt) (new : Log) : Type 0 where
  pub entries : whole new ≡ one_more (whole old) entry
  pub moment : new.moment ≡ entry.moment
  pub reported : receipt ≡ record { place = count_of (whole old) + 1; entry = entry }

-- what was made ready, where room was made before, is entered
pub logged : (old room new : Log) (draft entry : Entry) (receipt : Receipt) → whole room ≡ whole old → draft ≡ entry → whole new ≡ one_more (whole room) draft → new.moment ≡ draft.moment
    → receipt ≡ record { place = count_of (whole room) + 1; entry = draft } → IsLogged old entry receipt new
logged old room new draft entry receipt made is entries moment reported = record {
  entries = entries ∙ (λ i. one_more (made i) (is i));
  moment = moment ∙ ap (λ (e : Entry). e.moment) is;
  reported = reported ∙ (λ i. record { place = count_of (made i) + 1; entry = is i });
}

-- the fields g have an entry more than f, and the pairs that it gives
pub state_logged : (f g : Inside) (entry : Entry) (receipt : Receipt) → IsLogged f.log entry receipt g.log → g.store ≡ pairs_by (facts_of (state_of f)) f.store entry.what
    → state_of g ≡ effect (state_of f) entry
state_logged f g entry receipt e pairs = λ i. state_with (e.entries i) (pairs i)

pub appended : (f g : Inside) (now : ℕ) (what : What) (receipt : Receipt) → IsLogged f.log (record { moment = now; what = what }) receipt g.log → state_of g ≡ effect (state_of f) (record { moment = now; what = what }) → (facts_of (state_of f)).moment ≤ now → MayFollow (facts_of (state_of f)) now what → Appends (state_of f) now what receipt (state_of g)
appended f g now what receipt e state later follows = record {
  later = later;
  follows = follows;
  entry = ap (λ (r : Receipt). r.entry) e.reported;
  place = ap (λ (r : Receipt). r.place) e.reported;
  state = state ∙ ap (λ (r : Receipt). effect (state_of f) r.entry) (sym e.reported);
}

-- ---- in the words of the call

pub follow_of : (f : Inside) (s : State) → IsHeld f → state_of f ≡ s → Follow f (facts_of s)
follow_of f s h view = subst (λ (x : State). Follow f (facts_of x)) view h.follow

pub kept_of : (f : Inside) (s : State) → IsHeld f → state_of f ≡ s → IsKept (facts_of s)
kept_of f s h view = subst (λ (x : State). IsKept (facts_of x)) view h.kept

pub counted_is : (f : Inside) (s : State) → IsHeld f → state_of f ≡ s → (moment now : ℕ) → now ≡ max moment f.log.moment → now ≡ effective_moment s moment
counted_is f s h view moment now is = is ∙ ap (max moment) ((follow_of f s h view).moment)

-- the moment that counts is not before the last entry
pub later : (f : Inside) (s : State) → (moment now : ℕ) → now ≡ effective_moment s moment → (facts_of s).moment ≤ now
later f s moment now is = omega (arith, is)

-- nor before the last publication
pub published : (f : Inside) (s : State) → IsHeld f → state_of f ≡ s → (moment now : ℕ) → now ≡ effective_moment s moment → last_publication f.line ≤ now
published f s h view moment now is =
    subst (λ (l : Timeline). last_publication l ≤ now) (sym (follow_of f s h view).line) (omega (arith, (kept_of f s h view).since, is))

pub replayed : (f : Inside) (s : State) → IsHeld f → state_of f ≡ s → IsReplayed s
replayed f s h view = ap (λ (x : State). x.pairs) (sym view) ∙ (follow_of f s h view).pairs

pub agrees : (f : Inside) (s : State) → IsHeld f → state_of f ≡ s → AgreesOf (facts_of s) → Agrees s
agrees f s h view all number version usable at =
    subst (λ (p : Pairs). IsConsistent version (facts_of s).rows p) (sym (replayed f s h view)) (all number version usable at)

-- ---- the versions

-- the newest version stands under the number of versions
newest_there : (newest : Version) (older : List Version) (number : ℕ) → number ≡ length older + 1 → version_in (newest ∷ older) number ≡ Some newest
newest_there newest older number is = ap (λ (b : Bool). cond b (Some newest) (version_in older number)) (eq-eqb number (length older + 1) is)

-- and the one before it under the number before
before_there : (newest : Version) (older : List Version) (number : ℕ) → number ≡ length older → 1 ≤ number → version_in (newest ∷ older) number ≡ slice_get older 0
before_there newest [] number is some = absurd (omega (arith, is, some))
before_there newest (before ∷ older) number is some =
    ap (λ (b : Bool). cond b (Some newest) (version_in (before ∷ older) number)) (ne_eqb number (length (before ∷ older) + 1) (λ e. not_next number (length (before ∷ older)) is e))
    ∙ newest_there before older number (omega (arith, is))
  where
    not_next : (n m : ℕ) → n ≡ m → n ≡ m + 1 → ⊥
    not_next n m a b = absurd (omega (arith, a, b))

-- there is none before the first
none_there : (newest : Version) (older : List Version) (number : ℕ) → number ≡ length older → number ≡ 0 → version_in (newest ∷ older) number ≡ slice_get older 0
none_there newest [] number is first = ap (λ (n : ℕ). version_in (newest ∷ []) n) first
none_there newest (before ∷ older) number is first = absurd (omega (arith, is, first))

zero_or : (n : ℕ) → (n ≡ 0) ⊎ (1 ≤ n)
zero_or zero = inl refl
zero_or (suc n) = inr (omega arith)

-- the one before the newest, if there is one
before_or_none : (newest : Version) (older : List Version) (number : ℕ) → number ≡ length older → version_in (newest ∷ older) number ≡ slice_get older 0
before_or_none newest older number is = elim (zero_or number) [
  | inl first ↦ none_there newest older number is first
  | inr some ↦ before_there newest older number is some
]

recent_by : (facts : Facts) (number : ℕ) (b c : Bool) → (number == newest_number facts.line) ≡ b → (number + 1 == newest_number facts.line) ≡ c → recent facts number ≡ cond (b || c) (version_at facts number) None
recent_by facts number b c here next = λ i. cond (here i || next i) (version_at facts number) None

pub newest_recent : (facts : Facts) (number : ℕ) → IsKept facts → number ≡ newest_number facts.line → recent facts number ≡ Some facts.newest
newest_recent facts number k is =
    recent_by facts number true (number + 1 == newest_number facts.line) (eq-eqb number (newest_number facts.line) is) refl
    ∙ newest_there facts.newest facts.older number (omega (arith, is, k.counted))

pub before_recent : (facts : Facts) (number : ℕ) → IsKept facts → number < newest_number facts.line → number + 1 ≡ newest_number facts.line → recent facts number ≡ slice_get facts.older 0
before_recent facts number k below is =
    recent_by facts number (number == newest_number facts.line) true refl (eq-eqb (number + 1) (newest_number facts.line) is)
    ∙ ap (λ (b : Bool). cond b (version_at facts number) None) (or_true (number == newest_number facts.line))
    ∙ before_or_none facts.newest facts.older number (omega (arith, is, k.counted))
  where
    or_true : (b : Bool) → (b || true) ≡ true
    or_true true = refl
    or_true false = refl

pub none_recent : (facts : Facts) (number : ℕ) → (number ≡ newest_number facts.line → ⊥) → (number + 1 ≡ newest_number facts.line → ⊥) → recent facts number ≡ None
none_recent facts number here next = recent_by facts number false false (ne_eqb number (newest_number facts.line) here) (ne_eqb (number + 1) (newest_number facts.line) next)

-- ---- the version of a lease that serves

-- what is used is the newest version, or the one before
used : (facts : Facts) (lease : Lease) (now : ℕ) → IsKept facts → facts.moment ≤ now → Serves facts.line lease now → (lease.version ≡ newest_number facts.line) ⊎ ((1 ≤ lease.version) × (lease.version + 1 ≡ newest_number facts.line))
used facts lease now k after v = elim (usable_to facts.line lease.version now k.valid (omega (arith, k.since, after)) (lease, refl, v.honest, v.in_force)) [
  | inl is ↦ inl is
  | inr is ↦ inr (is.0, is.1)
]

pub under_newest : (facts : Facts) (number : ℕ) → IsKept facts → number ≡ newest_number facts.line → version_at facts number ≡ Some facts.newest
under_newest facts number k is = newest_there facts.newest facts.older number (omega (arith, is, k.counted))

pub under_before : (facts : Facts) (lease : Lease) (now : ℕ) (o : Option Version) → IsKept facts → facts.moment ≤ now → Serves facts.line lease now → (lease.version ≡ newest_number facts.line → ⊥) → o ≡ slice_get facts.older 0 → version_at facts lease.version ≡ o
under_before facts lease now o k after v other is = elim (used facts lease now k after v) [
  | inl here ↦ absurd (other here)
  | inr below ↦ before_there facts.newest facts.older lease.version (omega (arith, below.1, k.counted)) below.0 ∙ sym is
]

-- there is one
pub some_before : (facts : Facts) (lease : Lease) (now : ℕ) → IsKept facts → facts.moment ≤ now → Serves facts.line lease now → (lease.version ≡ newest_number facts.line → ⊥) → None ≡ slice_get facts.older 0 → ⊥
some_before facts lease now k after v other is = elim (used facts lease now k after v) [
  | inl here ↦ other here
  | inr below ↦ by facts.older (omega (arith, below.0, below.1, k.counted)) is
]
  where
    by : (older : List Version) → 1 ≤ length older → None ≡ slice_get older 0 → ⊥
    by [] some e = absurd (omega (arith, some))
    by (before ∷ older) some e = none_some e
