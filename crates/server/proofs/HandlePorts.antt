-- What the lock answers, as a port's answers.
use Rattle.std.proofs.Common.{◌≡◌, ℕ, ◌+◌, ◌<◌, ◌≤◌, List, ⊎_elim, inr, refl, sym, subst, ap, arith}
use Rattle.std.specs.Prelude.{Option, Some, None, Result, Ok, Err, IfOk}
use Rattle.std.specs.declared.alloc.AllocError.{AllocError}
use Rattle.collections.specs.Refusal.{IsRefusal}
use Rattle.row_map.specs.Expect.{View}
use Rattle.row_write.specs.declared.op.RowOp.{RowOp}
use Rattle.row_write.specs.Made.{PreparedTxn}
use Rattle.lease.specs.declared.lease.Lease.{Lease}
use Rattle.lease.specs.Timeline.{max_moment}
use Rattle.schema_version.specs.Version.{Version}
use Rattle.locked_store.specs.Calls.{LeaseStep, CommitStep, IsReadView, GrantCondition, grant_rank, effective_moment}
use Rattle.locked_store.specs.State.{State, entry_count}
use Rattle.locked_store.specs.Committed.{Committed}
use Rattle.locked_store.specs.Committed.TheVariants as committed
use Rattle.locked_store.specs.Grant.{Grant}
use Rattle.locked_store.specs.Receipt.{Receipt}
use Rattle.locked_store.specs.CommitFault.{CommitFault}
use Rattle.locked_store.specs.CommitFault.TheVariants as commit_fault
use Rattle.locked_store.specs.GrantFault.{GrantFault}
use Rattle.locked_store.specs.GrantFault.TheVariants as grant_fault
use Rattle.locked_store.specs.declared.fault.SharedFault.{SharedFault}
use Rattle.locked_store.specs.declared.fault.SharedFault.TheVariants as shared
use Rattle.locked_store.specs.Answers.{Answers, AnswersBack, BackBy, WentBackTo, Counts, grant_place, commit_place, no_place}
use Rattle.locked_store.specs.Cores.{IsCore, IsCoreSince}
use Rattle.locked_store.specs.Known.{Known, own_of}
use Rattle.locked_store.proofs.Logging.{lease_logged, commit_logged}
use Rattle.server.specs.HandlePorts.{HasSeen, WasShorter, SaidByCore, WasCommitted, WasUncommitted, lease_and_schema, kept_with}
use Rattle.server.specs.Outcomes.{Said, Sees, Keys, GrantSays, Keeps, ReadSays, CommitSays, RefusalSays, FaultSays}
use Rattle.server.specs.Tallies.{retried, last_of_fault, last_by, last_of_commit}

-- a call goes through the same handle, and takes nothing out of the log
abbrev Own : Known → Known → Type 0
Own v w = own_of w ≡ own_of v

own : (v w : Known) → w.id ≡ v.id → w.taken ≡ v.taken → Own v w
own v w id taken = λ i. (id i, taken i)

counts_own : (v w : Known) (place : Option ℕ) → Counts v place w → Own v w
counts_own v w (Some place) c = own v w c.0 c.4
counts_own v w None c = own v w c.0 c.2

pub same_id : {T E : Type 0} (start : State) (v w : Known) (answer : Result T (SharedFault E)) (step : State → Result T E → State → Type 0) (place : T → Option ℕ) → Answers start v answer w step place
    → Own v w
same_id start v w (Ok x) step place a = counts_own v w (place x) a.2.5
same_id start v w (Err (shared.World e)) step place a = counts_own v w None a.2.5
same_id start v w (Err (shared.WentBack seen)) step place a = ap own_of a.2

pub same_id_back : {T E P : Type 0} (start : State) (v w : Known) (prepared : P) (answer : Result T (SharedFault E × P)) (step : State → Result T (E × P) → State → Type 0) (place : T → Option ℕ)
    → AnswersBack start v prepared answer w step place → Own v w
same_id_back {E = E} start v w prepared (Ok x) step place a = counts_own v w (place x) a.2.5
same_id_back {E = E} start v w prepared (Err refusal) step place a = go refusal.0 a
  where
    go : (fault : SharedFault E) → BackBy start v fault refusal.1 prepared w step place → Own v w
    go (shared.World e) b = own v w b.2.5.0 b.2.5.2
    go (shared.WentBack seen) b = ap own_of b.0.2

-- a call that is no commit counts no refusal
counts_refused : (v w : Known) (place : Option ℕ) → Counts v place w → w.refused ≡ v.refused
counts_refused v w (Some place) c = c.5
counts_refused v w None c = c.3

pub same_refused : {T E : Type 0} (start : State) (v w : Known) (answer : Result T (SharedFault E)) (step : State → Result T E → State → Type 0) (place : T → Option ℕ) → Answers start v answer w step place
    → w.refused ≡ v.refused
same_refused start v w (Ok x) step place a = counts_refused v w (place x) a.2.5
same_refused start v w (Err (shared.World e)) step place a = counts_refused v w None a.2.5
same_refused start v w (Err (shared.WentBack seen)) step place a = ap (λ (k : Known). k.refused) a.2

-- a commit that is to be tried again is one that was refused
retried_fault : (fault : CommitFault) → retried (last_of_fault fault) ≤ 1
retried_fault commit_fault.MomentTooLarge = omega arith
retried_fault commit_fault.BadLease = omega arith
retried_fault (commit_fault.LeaseEnded until now) = omega arith
retried_fault commit_fault.WrongSchema = omega arith
retried_fault (commit_fault.Conflict key) = omega arith
retried_fault commit_fault.Memory = omega arith

pub refused_back : (start : State) (v w : Known) (prepared : PreparedTxn) (answer : Result Committed (SharedFault CommitFault × PreparedTxn)) (step : State → Result Committed (CommitFault × PreparedTxn) → State → Type 0)
    → AnswersBack start v prepared answer w step commit_place → v.refused + retried (last_of_commit answer) ≤ w.refused
refused_back start v w prepared (Ok (committed.Done receipt)) step a = omega (arith, counts_refused v w (Some receipt.place) a.2.5)
refused_back start v w prepared (Ok (committed.Refused op why)) step a = omega (arith, counts_refused v w None a.2.5)
refused_back start v w prepared (Err refusal) step a = go refusal.0 a
  where
    go : (fault : SharedFault CommitFault) → BackBy start v fault refusal.1 prepared w step commit_place → v.refused + retried (last_by fault) ≤ w.refused
    go (shared.World e) b = omega (arith, retried_fault e, b.2.5.3)
    go (shared.WentBack seen) b = omega (arith, ap (λ (k : Known). k.refused) b.0.2)

-- the core of a call has at least as many entries as were seen before it
since : (start : State) (front : ℕ) (v : Known) (core : State) → IsCore start core → v.front ≤ entry_count core → front ≤ v.front → IsCoreSince start front core
since start front v core is seen le = record { is_core = is; since = omega (arith, le, seen) }

-- the log is shorter than a front that the handle had
was_shorter : (start : State) (most : ℕ) (v w : Known) (seen : ℕ) → HasSeen start most v.front → WentBackTo start v seen w → WasShorter start most seen
was_shorter start most v w seen has back = (back.1, (v.front, has, back.0))

-- the front after a call is the one before it, or a length that the log had
pub stays : {T E : Type 0} (start : State) (v w : Known) (answer : Result T (SharedFault E)) (step : State → Result T E → State → Type 0) (place : T → Option ℕ) → Answers start v answer w step place
    → (most : ℕ) → HasSeen start most v.front → HasSeen start most w.front
stays start v w (Ok x) step place a most has = inr (a.1, a.2.1, sym a.2.4)
stays start v w (Err (shared.World e)) step place a most has = inr (a.1, a.2.1, sym a.2.4)
stays start v w (Err (shared.WentBack seen)) step place a most has = subst (λ (k : Known). HasSeen start most k.front) (sym a.2) has

pub stays_back : {T E P : Type 0} (start : State) (v w : Known) (prepared : P) (answer : Result T (SharedFault E × P)) (step : State → Result T (E × P) → State → Type 0) (place : T → Option ℕ)
    → AnswersBack start v prepared answer w step place → (most : ℕ) → HasSeen start most v.front → HasSeen start most w.front
stays_back {E = E} start v w prepared (Ok x) step place a most has = inr (a.1, a.2.1, sym a.2.4)
stays_back {E = E} start v w prepared (Err refusal) step place a most has = go refusal.0 a
  where
    go : (fault : SharedFault E) → BackBy start v fault refusal.1 prepared w step place → HasSeen start most w.front
    go (shared.World e) b = inr (b.1, b.2.1, sym b.2.4)
    go (shared.WentBack seen) b = subst (λ (k : Known). HasSeen start most k.front) (sym b.0.2) has

-- ---- a lease

too_large : (now : ℕ) → IsRefusal grant_rank (GrantCondition now) grant_fault.Memory grant_fault.MomentTooLarge → max_moment < now
too_large now refused = ⊎_elim (λ (e : grant_fault.MomentTooLarge ≡ grant_fault.Memory). absurd (cc)) (λ (c : max_moment < now). c) refused.0

pub grant_says : (start : State) (front most : ℕ) (v w : Known) (moment : ℕ) (answer : Result Grant (SharedFault GrantFault)) → Answers start v answer w (λ c r d. LeaseStep c moment r d) grant_place → Sees (HasSeen start) front most v.front
    → GrantSays (SaidByCore start front most) moment (lease_and_schema answer)
grant_says start front most v w moment (Ok given) a at = (a.0, since start front v a.0 a.2.0 a.2.2 at.0, a.2.3.1, a.2.3.2)
grant_says start front most v w moment (Err (shared.World grant_fault.MomentTooLarge)) a at = (a.0, since start front v a.0 a.2.0 a.2.2 at.0, too_large (effective_moment a.0 moment) a.2.3.0)
grant_says start front most v w moment (Err (shared.World grant_fault.Memory)) a at = tt
grant_says start front most v w moment (Err (shared.WentBack seen)) a at = was_shorter start most v w seen at.1 a

pub granted : (start : State) (front most : ℕ) (v w : Known) (moment : ℕ) (answer : Result Grant (SharedFault GrantFault)) (reported : Result (Lease × Version) (SharedFault GrantFault)) → reported ≡ lease_and_schema answer
    → Answers start v answer w (λ c r d. LeaseStep c moment r d) grant_place → Sees (HasSeen start) front most v.front → GrantSays (SaidByCore start front most) moment reported
granted start front most v w moment answer reported is a at =
    subst (λ (x : Result (Lease × Version) (SharedFault GrantFault)). GrantSays (SaidByCore start front most) moment x) (sym is) (grant_says start front most v w moment answer a at)

keeps_lent : (start : State) (front most : ℕ) (v w : Known) (moment : ℕ) (before : List Receipt) (answer : Result Grant (SharedFault GrantFault)) → Answers start v answer w (λ c r d. LeaseStep c moment r d) grant_place → front ≤ v.front
    → Keeps (SaidByCore start front most) before (lease_and_schema answer) (kept_with before answer)
keeps_lent start front most v w moment before (Ok given) a le = (given.receipt, refl, ap (λ e. e.what) a.2.3.3.entry, lease_logged start v w front moment given a le)
keeps_lent start front most v w moment before (Err fault) a le = refl

pub keeps : (start : State) (front most : ℕ) (v w : Known) (moment : ℕ) (before held after : List Receipt) (answer : Result Grant (SharedFault GrantFault)) (reported : Result (Lease × Version) (SharedFault GrantFault))
    → held ≡ before → reported ≡ lease_and_schema answer → after ≡ kept_with held answer → Answers start v answer w (λ c r d. LeaseStep c moment r d) grant_place → front ≤ v.front
    → Keeps (SaidByCore start front most) before reported after
keeps start front most v w moment before held after answer reported held_is reported_is after_is a le =
    subst (λ (x : List Receipt). Keeps (SaidByCore start front most) x reported after) held_is
    (subst (λ (x : Result (Lease × Version) (SharedFault GrantFault)). Keeps (SaidByCore start front most) held x after) (sym reported_is)
    (subst (λ (x : List Receipt). Keeps (SaidByCore start front most) held (lease_and_schema answer) x) (sym after_is) (keeps_lent start front most v w moment held answer a le)))

-- ---- a read

pub read_says : (start : State) (front most : ℕ) (v w : Known) (keys : Keys) (answer : Result View (SharedFault AllocError)) → Answers start v answer w (λ c r d. IfOk r (λ view. IsReadView c keys view) × (d ≡ c)) no_place → Sees (HasSeen start) front most v.front
    → ReadSays (SaidByCore start front most) keys answer
read_says start front most v w keys (Ok view) a at = (a.0, since start front v a.0 a.2.0 a.2.2 at.0, a.2.3.0)
read_says start front most v w keys (Err (shared.World fault)) a at = tt
read_says start front most v w keys (Err (shared.WentBack seen)) a at = was_shorter start most v w seen at.1 a

-- ---- a commit

fault_of : (may : Said → Type 0) (moment : ℕ) (ops : List RowOp) (fault : CommitFault) → may (Said.uncommitted moment ops fault) → FaultSays may moment ops fault
fault_of may moment ops commit_fault.MomentTooLarge is = is
fault_of may moment ops commit_fault.BadLease is = is
fault_of may moment ops (commit_fault.LeaseEnded until now) is = is
fault_of may moment ops commit_fault.WrongSchema is = is
fault_of may moment ops (commit_fault.Conflict key) is = is
fault_of may moment ops commit_fault.Memory is = tt

refusal_says : (start : State) (front most : ℕ) (v w : Known) (moment : ℕ) (prepared back : PreparedTxn) (fault : SharedFault CommitFault)
    → BackBy {T = Committed} start v fault back prepared w (λ c r d. CommitStep c moment prepared r d) commit_place → Sees (HasSeen start) front most v.front → RefusalSays (SaidByCore start front most) moment prepared.ops fault
refusal_says start front most v w moment prepared back (shared.World fault) b at =
    let why : WasUncommitted start front moment prepared.ops fault =
    record { core = b.0; is_core = since start front v b.0 b.2.0 b.2.2 at.0; prepared = prepared; own = refl; back = back; left = b.1; refused = b.2.3 } in
    fault_of (SaidByCore start front most) moment prepared.ops fault why
refusal_says start front most v w moment prepared back (shared.WentBack seen) b at = was_shorter start most v w seen at.1 b.0

pub commit_says : (start : State) (front most : ℕ) (v w : Known) (moment : ℕ) (prepared : PreparedTxn) (answer : Result Committed (SharedFault CommitFault × PreparedTxn))
    → AnswersBack start v prepared answer w (λ c r d. CommitStep c moment prepared r d) commit_place → Sees (HasSeen start) front most v.front → CommitSays (SaidByCore start front most) moment prepared.ops answer
commit_says start front most v w moment prepared (Ok (committed.Done receipt)) a at =
    let was : WasCommitted start front moment prepared.ops receipt =
    record { core = a.0; is_core = since start front v a.0 a.2.0 a.2.2 at.0; prepared = prepared; own = refl; left = a.1; done = a.2.3; logged = commit_logged start v w front moment prepared receipt a at.0 } in
    (was, (prepared.lease, ap (λ e. e.what) a.2.3.2.entry))
commit_says start front most v w moment prepared (Ok (committed.Refused op why)) a at = (a.0, since start front v a.0 a.2.0 a.2.2 at.0, a.2.3.1)
commit_says start front most v w moment prepared (Err refusal) a at = refusal_says start front most v w moment prepared refusal.1 refusal.0 a at
