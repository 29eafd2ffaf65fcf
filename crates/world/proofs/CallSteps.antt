-- Each call of a World over its fields: the relation that it meets, and what is true of the fields afterwards.
use Rattle.std.proofs.Common.{◌≡◌, ℕ, ◌<◌, ◌≤◌, List, [], length, Option, Some, None, Result, Ok, Err, refl, sym, ap, subst, ◌∙◌, inl, inr, arith}
use Rattle.std.specs.Prelude.{◌≢◌}
use Rattle.std.specs.FinMap as map
use Rattle.collections.specs.Refusal.{IsClear, IsFirst}
use Rattle.lease.specs.declared.lease.Lease.{Lease}
use Rattle.lease.specs.declared.fault.LeaseFault.{LeaseFault}
use Rattle.lease.specs.declared.fault.LeaseFault.TheVariants as lease_fault
use Rattle.lease.specs.Refusals.{Serves, Condition as LeaseCondition, rank as lease_rank}
use Rattle.lease.specs.Timeline.{Timeline, IsLength, granted_at, max_moment, opened as line_opened}
use Rattle.row_map.specs.Expect.{Holds}
use Rattle.row_map.specs.Rows.{Pairs}
use Rattle.row_map.specs.Writes.{laid}
use Rattle.schema_version.specs.Sound.{IsSoundVersion}
use Rattle.schema_version.specs.Version.{Version}
use Rattle.row_write.specs.declared.op.RowOutcome.TheVariants.{Done, Refused}
use Rattle.row_write.specs.declared.fault.RowFault.{RowFault}
use Rattle.row_write.specs.Made.{PreparedTxn, IsMade}
use Rattle.txn_store.specs.declared.fault.SetFault.{SetFault}
use Rattle.txn_store.specs.declared.fault.SetFault.TheVariants as reported
use Rattle.txn_store.specs.TestAndSet.{Sets}
use Rattle.replay.specs.declared.entry.Entry.{Entry}
use Rattle.replay.specs.declared.entry.What.TheVariants.{Lease as Granted}
use Rattle.replay.specs.Replay.{Facts, start, version_at, pairs_by, after}
use Rattle.replay.specs.Kept.{IsKept}
use Rattle.replay.specs.Laws.{OpeningsKeep, LeasesKeep, IsDue, OutcomesHold, TxnsKeep, RefusedWriteNothing, txn_entry}
use Rattle.world.specs.declared.committed.Committed.TheVariants as committed
use Rattle.world.specs.declared.commit.CommitFault.{CommitFault}
use Rattle.world.specs.declared.commit.CommitFault.TheVariants as commit_fault
use Rattle.world.specs.declared.grant.GrantFault.TheVariants as grant_fault
use Rattle.world.specs.declared.entry.Receipt.{Receipt}
use Rattle.world.specs.declared.log.Log.{Log}
use Rattle.world.specs.declared.world.World.TheInside.{Inside}
use Rattle.world.specs.Calls.{effective_moment, GrantCondition, LeaseAt, LeaseStep, CommitCondition, commit_rank, CommitAt}
use Rattle.checkpoint_check.specs.Checkpoint.{Checkpoint, said_by, IsWhole}
use Rattle.world.specs.Inside.{state_of, state_with, Follow, IsHeld}
use Rattle.world.specs.Whole.{Entries, whole, none_yet}
use Rattle.world.specs.State.{State, facts_of, effect}
use Rattle.world.specs.Faults.{set_reported, lease_reported}
use Rattle.world.proofs.Invariant.{IsLogged, state_logged, appended, held_after, held_same, follow_of, later as not_before}

some_one : {A : Type 0} {v w : A} → Some v ≡ (let o : Option A = Some w in o) → v ≡ w
some_one e = cc

-- ---- opening

pub opened_held : (f : Inside) (opening : Checkpoint) → IsWhole opening → f.log.moment ≡ opening.moment → f.line ≡ opening.line → f.newest ≡ opening.newest → f.before ≡ opening.before → f.begun.items ≡ opening.progress → whole f.log ≡ none_yet opening → f.store ≡ opening.pairs → IsHeld f
opened_held f opening is_whole moment line newest before begun log store =
    let same : said_by opening ≡ facts_of (state_of f) = ap (λ (es : Entries). facts_of (state_with es f.store)) (sym log) in
    record {
      follow = subst (Follow f) same (record { moment = moment; line = line; newest = newest; before = before ∙ sym is_whole.before; begun = begun; pairs = store });
      kept = subst IsKept same is_whole.kept;
    }

-- ---- lease

-- the fields after a call that changed the log alone
abbrev pub with_log : Inside → Log → Inside
with_log f log = record f { log = log }

abbrev pub lease_entry : ℕ → Lease → Entry
lease_entry now lease = record { moment = now; what = Granted lease }

lease_state : (f : Inside) (log : Log) (now : ℕ) (lease : Lease) (receipt : Receipt) → IsLogged f.log (lease_entry now lease) receipt log → state_of (with_log f log) ≡ effect (state_of f) (lease_entry now lease)
lease_state f log now lease receipt e = state_logged f (with_log f log) (lease_entry now lease) receipt e refl

pub lease_held : (f : Inside) (s : State) (log : Log) (now : ℕ) (lease : Lease) (receipt : Receipt) → LeasesKeep → IsHeld f → state_of f ≡ s → (facts_of s).moment ≤ now → IsLogged f.log (lease_entry now lease) receipt log → IsHeld (with_log f log)
lease_held f s log now lease receipt law h view later e =
    let w = h.follow in
    held_after f (with_log f log) (lease_entry now lease) (lease_state f log now lease receipt e)
    (record { moment = e.moment; line = w.line; newest = w.newest; before = w.before; begun = w.begun; pairs = w.pairs })
    (law (facts_of (state_of f)) now lease (subst (λ (x : State). (facts_of x).moment ≤ now) (sym view) later) h.kept)

grant_clear : (now : ℕ) → now ≤ max_moment → IsClear (GrantCondition now)
grant_clear now le grant_fault.MomentTooLarge = λ lt. absurd (omega (arith, le, lt))
grant_clear now le grant_fault.Memory = λ x. x

lease_done : (f : Inside) (log : Log) (now : ℕ) (lease : Lease) (schema : Version) (receipt : Receipt) → IsHeld f → (facts_of (state_of f)).moment ≤ now → now ≤ max_moment → lease ≡ granted_at f.line now → schema ≡ f.newest → IsLogged f.log (lease_entry now lease) receipt log
    → LeaseAt (state_of f) now (Ok (record { lease = lease; schema = schema; receipt = receipt })) (state_of (with_log f log))
lease_done f log now lease schema receipt h after_last le granted same e = (
  grant_clear now le,
  granted ∙ ap (λ (l : Timeline). granted_at l now) h.follow.line,
  same ∙ h.follow.newest,
  appended f (with_log f log) now (Granted lease) receipt e (lease_state f log now lease receipt e) after_last tt,
)

ok_one : {A E : Type 0} (a b : A) → (Ok a ≡ (let r : Result A E = Ok b in r)) → a ≡ b
ok_one a b e = cc

pub lease_step : (f : Inside) (s : State) (log : Log) (now moment : ℕ) (lease : Lease) (schema : Version) (receipt : Receipt) → IsHeld f → state_of f ≡ s → now ≡ effective_moment s moment
    → Serves f.line lease now → (now ≤ max_moment → Ok lease ≡ (let r : Result Lease LeaseFault = Ok (granted_at f.line now) in r)) → schema ≡ f.newest → IsLogged f.log (lease_entry now lease) receipt log
    → LeaseStep s moment (Ok (record { lease = lease; schema = schema; receipt = receipt })) (state_of (with_log f log))
lease_step f s log now moment lease schema receipt h view counted_at v granted same e =
    let after_last : (facts_of (state_of f)).moment ≤ now = subst (λ (x : State). (facts_of x).moment ≤ now) (sym view) (not_before f s moment now counted_at) in
    let done = lease_done f log now lease schema receipt h after_last v.moment (ok_one lease (granted_at f.line now) (granted v.moment)) same e in
    subst (λ (n : ℕ). LeaseAt s n (Ok (record { lease = lease; schema = schema; receipt = receipt })) (state_of (with_log f log))) counted_at
    (subst (λ (x : State). LeaseAt x now (Ok (record { lease = lease; schema = schema; receipt = receipt })) (state_of (with_log f log))) view done)

-- ---- a commit that is refused

-- the schema is that of the lease's version, and the lease serves
pub record IsFit (facts : Facts) (now : ℕ) (p : PreparedTxn) : Type 0 where
  pub later : facts.moment ≤ now
  pub schema : version_at facts p.lease.version ≡ Some p.schema
  pub serves : Serves facts.line p.lease now

commit_clear : (s : State) (now : ℕ) (p : PreparedTxn) → IsFit (facts_of s) now p → Holds p.expect s.pairs → IsClear (CommitCondition s now p)
commit_clear s now p v h commit_fault.MomentTooLarge = λ lt. absurd (omega (arith, v.serves.moment, lt))
commit_clear s now p v h commit_fault.BadLease = λ no. no v.serves.honest
commit_clear s now p v h (commit_fault.LeaseEnded until counted_at) = λ c. c.2 v.serves.in_force
commit_clear s now p v h commit_fault.WrongSchema = λ other. other v.schema
commit_clear s now p v h (commit_fault.Conflict key) = λ c. h key c.0
commit_clear s now p v h commit_fault.Memory = λ x. x

commit_lower : (s : State) (now : ℕ) (p : PreparedTxn) → IsFit (facts_of s) now p → (other : CommitFault) → commit_rank other < 5 → ¬ (CommitCondition s now p other)
commit_lower s now p v commit_fault.MomentTooLarge lt = λ c. absurd (omega (arith, v.serves.moment, c))
commit_lower s now p v commit_fault.BadLease lt = λ no. no v.serves.honest
commit_lower s now p v (commit_fault.LeaseEnded until counted_at) lt = λ c. c.2 v.serves.in_force
commit_lower s now p v commit_fault.WrongSchema lt = λ other. other v.schema
commit_lower s now p v (commit_fault.Conflict key) lt = λ c. absurd (omega (arith, lt))
commit_lower s now p v commit_fault.Memory lt = λ x. x

lease_lower : (s : State) (now : ℕ) (p : PreparedTxn) (rank : ℕ) → rank ≤ 3 → ((other : LeaseFault) → lease_rank other < rank → ¬ (LeaseCondition (facts_of s).line p.lease now other)) → (other : CommitFault) → commit_rank other < rank → ¬ (CommitCondition s now p other)
lease_lower s now p rank le none commit_fault.MomentTooLarge lt = none lease_fault.MomentTooLarge lt
lease_lower s now p rank le none commit_fault.BadLease lt = none lease_fault.BadLease lt
lease_lower s now p rank le none (commit_fault.LeaseEnded until counted_at) lt = none (lease_fault.LeaseEnded until counted_at) lt
lease_lower s now p rank le none commit_fault.WrongSchema lt = λ other. absurd (omega (arith, lt, le))
lease_lower s now p rank le none (commit_fault.Conflict key) lt = λ c. absurd (omega (arith, lt, le))
lease_lower s now p rank le none commit_fault.Memory lt = λ x. x

lease_refused : (s : State) (now : ℕ) (p : PreparedTxn) (fault : LeaseFault) → IsFirst lease_rank (LeaseCondition (facts_of s).line p.lease now) fault → CommitAt s now p (Err (lease_reported fault)) s
lease_refused s now p lease_fault.MomentTooLarge first = ((inr first.0, lease_lower s now p 1 (omega arith) first.1), refl)
lease_refused s now p lease_fault.BadLease first = ((inr first.0, lease_lower s now p 2 (omega arith) first.1), refl)
lease_refused s now p (lease_fault.LeaseEnded until at) first = ((inr first.0, lease_lower s now p 3 (omega arith) first.1), refl)

-- its lease does not serve
pub commit_unheld : (f : Inside) (s : State) (moment now : ℕ) (p : PreparedTxn) (lease : Lease) (fault : LeaseFault) (reported_as : CommitFault) → IsHeld f → state_of f ≡ s → now ≡ effective_moment s moment → lease ≡ p.lease
    → IsFirst lease_rank (LeaseCondition f.line lease now) fault → reported_as ≡ lease_reported fault → CommitAt s (effective_moment s moment) p (Err reported_as) s
commit_unheld f s moment now p lease fault reported_as h view counted_at same first is =
    let on_line : IsFirst lease_rank (LeaseCondition (facts_of s).line p.lease now) fault
    = subst (λ (l : Lease). IsFirst lease_rank (LeaseCondition (facts_of s).line l now) fault) same (subst (λ (l : Timeline). IsFirst lease_rank (LeaseCondition l lease now) fault) (follow_of f s h view).line first) in
    subst (λ (r : CommitFault). CommitAt s (effective_moment s moment) p (Err r) s) (sym is)
    (subst (λ (n : ℕ). CommitAt s n p (Err (lease_reported fault)) s) counted_at (lease_refused s now p fault on_line))

-- the lease serves, in the words of the log
pub serves_there : (f : Inside) (s : State) (now : ℕ) (lease asked : Lease) → IsHeld f → state_of f ≡ s → lease ≡ asked → Serves f.line lease now → Serves (facts_of s).line asked now
serves_there f s now lease asked h view same v = subst (λ (l : Lease). Serves (facts_of s).line l now) same (subst (λ (l : Timeline). Serves l lease now) (follow_of f s h view).line v)

-- prepared under another schema than that of the lease's version
pub commit_other : (s : State) (now : ℕ) (p : PreparedTxn) → Serves (facts_of s).line p.lease now → version_at (facts_of s) p.lease.version ≢ Some p.schema → CommitAt s now p (Err commit_fault.WrongSchema) s
commit_other s now p v differ = ((inr differ, lower), refl)
  where
    lower : (other : CommitFault) → commit_rank other < 4 → ¬ (CommitCondition s now p other)
    lower commit_fault.MomentTooLarge lt = λ c. absurd (omega (arith, v.moment, c))
    lower commit_fault.BadLease lt = λ no_lease. no_lease v.honest
    lower (commit_fault.LeaseEnded until counted_at) lt = λ c. c.2 v.in_force
    lower commit_fault.WrongSchema lt = λ other. absurd (omega (arith, lt))
    lower (commit_fault.Conflict key) lt = λ c. absurd (omega (arith, lt))
    lower commit_fault.Memory lt = λ x. x

pub differs : (facts : Facts) (p : PreparedTxn) (number : ℕ) (found : Version) → number ≡ p.lease.version → version_at facts number ≡ Some found → (p.schema ≡ found → ⊥) → version_at facts p.lease.version ≢ Some p.schema
differs facts p number found same at other = λ is. other (some_one (sym is ∙ ap (version_at facts) (sym same) ∙ at))

-- ---- the store, and the room of the log

-- the fields after a test-and-set that changed nothing, also where room was made in the log
abbrev pub with_store : Inside → Pairs → Log → Inside
with_store f store log = record f { store = store; log = log }

pub same_state : (f : Inside) (store : Pairs) (log : Log) → store ≡ f.store → whole log ≡ whole f.log → state_of (with_store f store log) ≡ state_of f
same_state f store log pairs items = λ i. state_with (items i) (pairs i)

pub same_held : (f : Inside) (store : Pairs) (log : Log) → IsHeld f → store ≡ f.store → whole log ≡ whole f.log → log.moment ≡ f.log.moment → IsHeld (with_store f store log)
same_held f store log h pairs items moment =
    let w = h.follow in
    held_same f (with_store f store log) h (same_state f store log pairs items) (record { moment = moment ∙ w.moment; line = w.line; newest = w.newest; before = w.before; begun = w.begun; pairs = pairs ∙ w.pairs })

-- the store refused
set_same : (f : Inside) (p : PreparedTxn) (fault : SetFault) (store : Pairs) → Sets p.expect p.batch f.store (Err fault) store → store ≡ f.store
set_same f p (reported.Conflict key) store set = set.1
set_same f p reported.Memory store set = set

commit_failed : (f : Inside) (now : ℕ) (p : PreparedTxn) (fault : SetFault) (store : Pairs) (log : Log) → IsFit (facts_of (state_of f)) now p → Sets p.expect p.batch f.store (Err fault) store → whole log ≡ whole f.log
    → CommitAt (state_of f) now p (Err (set_reported fault)) (state_of (with_store f store log))
commit_failed f now p (reported.Conflict key) store log v set items = ((inr set.0, commit_lower (state_of f) now p v), same_state f store log set.1 items)
commit_failed f now p reported.Memory store log v set items = ((inl refl, commit_lower (state_of f) now p v), same_state f store log set items)

pub failed_held : (f : Inside) (p : PreparedTxn) (fault : SetFault) (store : Pairs) (log : Log) → IsHeld f → Sets p.expect p.batch f.store (Err fault) store → whole log ≡ whole f.log → log.moment ≡ f.log.moment → IsHeld (with_store f store log)
failed_held f p fault store log h set items moment = same_held f store log h (set_same f p fault store set) items moment

-- ---- a commit that comes to the store

-- what a commit may count on
pub record IsServed (f : Inside) (now : ℕ) (p : PreparedTxn) : Type 0 where
  pub held : IsHeld f
  pub made : IsMade p
  pub fit : IsFit (facts_of (state_of f)) now p

pub served_by : (f : Inside) (s : State) (now : ℕ) (p : PreparedTxn) → IsHeld f → state_of f ≡ s → IsMade p → (facts_of s).moment ≤ now → version_at (facts_of s) p.lease.version ≡ Some p.schema → Serves (facts_of s).line p.lease now → IsServed f now p
served_by f s now p h view made later schema v = record { held = h; made = made; fit = subst (λ (x : State). IsFit (facts_of x) now p) (sym view) (record { later = later; schema = schema; serves = v }) }

due : (f : Inside) (now : ℕ) (p : PreparedTxn) → IsServed f now p → Holds p.expect f.store → IsDue (facts_of (state_of f)) now p
due f now p v holds = record {
  made = v.made;
  usable = (p.lease, refl, v.fit.serves.honest, v.fit.serves.in_force);
  schema = v.fit.schema;
  holds = subst (Holds p.expect) v.held.follow.pairs holds;
}

-- the three laws of transactions
pub record TxnLaws : Type 0 where
  pub outcome : OutcomesHold
  pub done : TxnsKeep
  pub refused : RefusedWriteNothing

-- the rows refuse it: the empty batch was written
refused_same : (f : Inside) (now : ℕ) (p : PreparedTxn) (op : ℕ) (why : RowFault) (store : Pairs) → TxnLaws → IsServed f now p → Holds p.expect f.store × (store ≡ laid p.batch f.store) → p.reported ≡ Refused op why → store ≡ f.store
refused_same f now p op why store laws v set is =
    let d = due f now p v set.0 in
    let w = v.held.follow in
    let refused = sym (laws.outcome (facts_of (state_of f)) now p v.fit.later d v.held.kept) ∙ is in
    set.1 ∙ ap (laid p.batch) w.pairs ∙ laws.refused (facts_of (state_of f)) now p op why v.fit.later d refused v.held.kept ∙ sym w.pairs

pub refused_held : (f : Inside) (now : ℕ) (p : PreparedTxn) (op : ℕ) (why : RowFault) (store : Pairs) → TxnLaws → IsServed f now p → Holds p.expect f.store × (store ≡ laid p.batch f.store) → p.reported ≡ Refused op why → IsHeld (with_store f store f.log)
refused_held f now p op why store laws v set is = same_held f store f.log v.held (refused_same f now p op why store laws v set is) refl refl

pub step_refused : (f : Inside) (s : State) (now : ℕ) (p : PreparedTxn) (op : ℕ) (why : RowFault) (store : Pairs) → TxnLaws → state_of f ≡ s → IsServed f now p → Holds p.expect f.store × (store ≡ laid p.batch f.store) → p.reported ≡ Refused op why
    → CommitAt s now p (Ok (committed.Refused op why)) (state_of (with_store f store f.log))
step_refused f s now p op why store laws view v set is =
    subst (λ (x : State). CommitAt x now p (Ok (committed.Refused op why)) (state_of (with_store f store f.log))) view (
      commit_clear (state_of f) now p v.fit set.0,
      sym (laws.outcome (facts_of (state_of f)) now p v.fit.later (due f now p v set.0) v.held.kept) ∙ is,
      same_state f store f.log (refused_same f now p op why store laws v set is) refl,
      set.0,
    )

pub step_failed : (f : Inside) (s : State) (now : ℕ) (p : PreparedTxn) (fault : SetFault) (as_reported : CommitFault) (store : Pairs) (log : Log) → state_of f ≡ s → IsServed f now p → Sets p.expect p.batch f.store (Err fault) store → whole log ≡ whole f.log
    → as_reported ≡ set_reported fault → CommitAt s now p (Err as_reported) (state_of (with_store f store log))
step_failed f s now p fault as_reported store log view v set items is =
    subst (λ (r : CommitFault). CommitAt s now p (Err r) (state_of (with_store f store log))) (sym is)
    (subst (λ (x : State). CommitAt x now p (Err (set_reported fault)) (state_of (with_store f store log))) view (commit_failed f now p fault store log v.fit set items))

-- memory ran out before the store was asked
pub step_short : (s g : State) (now : ℕ) (p : PreparedTxn) (as_reported : CommitFault) → (facts_of s).moment ≤ now → version_at (facts_of s) p.lease.version ≡ Some p.schema → Serves (facts_of s).line p.lease now → g ≡ s → as_reported ≡ commit_fault.Memory → CommitAt s now p (Err as_reported) g
step_short s g now p as_reported later schema v same is =
    subst (λ (r : CommitFault). CommitAt s now p (Err r) g) (sym is)
    (subst (λ (x : State). CommitAt s now p (Err commit_fault.Memory) x) (sym same) ((inl refl, commit_lower s now p (record { later = later; schema = schema; serves = v })), refl))

-- ---- a commit that is done

-- its batch writes what its entry says
written : (f : Inside) (now : ℕ) (p : PreparedTxn) (store : Pairs) → TxnLaws → IsServed f now p → Holds p.expect f.store × (store ≡ laid p.batch f.store) → p.reported ≡ Done
    → (store ≡ (after (facts_of (state_of f)) (txn_entry now p)).pairs) × IsKept (after (facts_of (state_of f)) (txn_entry now p))
written f now p store laws v set is =
    let d = due f now p v set.0 in
    let done = sym (laws.outcome (facts_of (state_of f)) now p v.fit.later d v.held.kept) ∙ is in
    let law = laws.done (facts_of (state_of f)) now p v.fit.later d done v.held.kept in
    (set.1 ∙ ap (laid p.batch) v.held.follow.pairs ∙ law.0, law.1)

txn_state : (f : Inside) (now : ℕ) (p : PreparedTxn) (store : Pairs) (log : Log) (receipt : Receipt) → IsHeld f → store ≡ (after (facts_of (state_of f)) (txn_entry now p)).pairs → IsLogged f.log (txn_entry now p) receipt log
    → state_of (with_store f store log) ≡ effect (state_of f) (txn_entry now p)
txn_state f now p store log receipt h is_pairs e =
    state_logged f (with_store f store log) (txn_entry now p) receipt e (is_pairs ∙ ap (λ (ps : Pairs). pairs_by (facts_of (state_of f)) ps (txn_entry now p).what) (sym h.follow.pairs))

pub done_held : (f : Inside) (now : ℕ) (p : PreparedTxn) (store : Pairs) (log : Log) (receipt : Receipt) → TxnLaws → IsServed f now p → Holds p.expect f.store × (store ≡ laid p.batch f.store) → p.reported ≡ Done → IsLogged f.log (txn_entry now p) receipt log
    → IsHeld (with_store f store log)
done_held f now p store log receipt laws v set done e =
    let w = v.held.follow in
    let wrote = written f now p store laws v set done in
    held_after f (with_store f store log) (txn_entry now p) (txn_state f now p store log receipt v.held wrote.0 e)
    (record { moment = e.moment; line = w.line; newest = w.newest; before = w.before; begun = w.begun; pairs = wrote.0 }) wrote.1

pub step_done : (f : Inside) (s : State) (now : ℕ) (p : PreparedTxn) (store : Pairs) (log : Log) (receipt : Receipt) → TxnLaws → state_of f ≡ s → IsServed f now p → Holds p.expect f.store × (store ≡ laid p.batch f.store) → p.reported ≡ Done → IsLogged f.log (txn_entry now p) receipt log
    → CommitAt s now p (Ok (committed.Done receipt)) (state_of (with_store f store log))
step_done f s now p store log receipt laws view v set done e =
    let wrote = written f now p store laws v set done in
    let d = due f now p v set.0 in
    let accepts = sym (laws.outcome (facts_of (state_of f)) now p v.fit.later d v.held.kept) ∙ done in
    subst (λ (x : State). CommitAt x now p (Ok (committed.Done receipt)) (state_of (with_store f store log))) view (
      commit_clear (state_of f) now p v.fit set.0,
      sym (laws.outcome (facts_of (state_of f)) now p v.fit.later (due f now p v set.0) v.held.kept) ∙ done,
      appended f (with_store f store log) now (txn_entry now p).what receipt e (txn_state f now p store log receipt v.held wrote.0 e) v.fit.later (record { prepared = p; same = refl; due = d; done = accepts }),
      set.0,
    )
