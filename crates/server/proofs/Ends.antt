-- How a try ends.
use Rattle.std.proofs.Common.{◌≡◌, ℕ, ◌+◌, ◌≤◌, List, [], ◌∷◌, ◌++◌, ⊎_elim, refl, subst, sym, ap, ◌∙◌, arith}
use Rattle.std.specs.Prelude.{◌↔◌, Option, Some, None, Result, Ok, Err}
use Rattle.std.specs.FinMap as map
use Rattle.std.proofs.lemmas.List.Elements.{All-append, All-cons, All-nil, All-same}
use Rattle.collections.specs.Refusal.{IsFirst, IsRefusal}
use Rattle.row_map.specs.Expect.{View}
use Rattle.row_map.specs.Rows.{Bytes}
use Rattle.row_write.specs.declared.op.RowOp.{RowOp}
use Rattle.row_write.specs.declared.fault.PrepareFault.{PrepareFault}
use Rattle.row_write.specs.declared.fault.PrepareFault.TheVariants as prepare_fault
use Rattle.row_write.specs.Prepare.{rank, Condition}
use Rattle.row_write.specs.Reads.{IsRead}
use Rattle.lease.specs.declared.lease.Lease.{Lease}
use Rattle.schema_version.specs.Version.{Version}
use Rattle.locked_store.specs.Receipt.{Receipt}
use Rattle.locked_store.specs.GrantFault.{GrantFault}
use Rattle.locked_store.specs.declared.fault.SharedFault.{SharedFault}
use Rattle.server.specs.declared.request.Outcome.{Outcome}
use Rattle.server.specs.declared.request.Outcome.TheVariants as outcome
use Rattle.server.specs.declared.request.Request.{Request}
use Rattle.server.specs.declared.tally.Tally.{Tally}
use Rattle.server.specs.declared.tally.Last.{Last}
use Rattle.server.specs.declared.tally.Last.TheVariants as last
use Rattle.server.specs.Outcomes.{Said, WasGranted, Keys, Keeps, IsEnd, IsLeaseReceipt, IsServed, IsTrueOf, IsFailedTry, FailedSoOften, unprepared_by, receipts_of, tries_of}
use Rattle.server.specs.Tallies.{tally}
use Rattle.server.specs.inner.Tries.{HasFailed, IsTrueOfTry, StayLeases, receipts_in, retries_after}

-- a refusal that is not for memory has its condition
with_condition : {F : Type 0} (number : F → ℕ) (C : F → Type 0) (memory fault : F) → ¬ (fault ≡ memory) → IsRefusal number C memory fault → IsFirst number C fault
with_condition number C memory fault other refused = (⊎_elim (λ (e : fault ≡ memory). absurd (other e)) (λ (c : C fault). c) refused.0, refused.1)

-- a refusal of the preparation, as the request ends
pub unprepared : (may : Said → Type 0) (requests : List Request) (moment tries : ℕ) (ops : List RowOp) (fault : PrepareFault) (lease : Lease) (schema : Version) (keys : Keys) (view : View)
    → WasGranted may requests lease schema → ((key : Bytes) → (map.get keys key ≡ Some tt) ↔ IsRead schema ops key) → may (Said.viewed keys view)
    → IsRefusal rank (Condition schema ops view) prepare_fault.Memory fault → IsTrueOf may requests moment ops tries (unprepared_by fault)
unprepared may requests moment tries ops prepare_fault.NoTable lease schema keys view granted own viewed refused = record { lease = lease; schema = schema; granted = granted; keys = keys; own = own; view = view; viewed = viewed; first = with_condition rank (Condition schema ops view) prepare_fault.Memory prepare_fault.NoTable (λ e. cc) refused }
unprepared may requests moment tries ops (prepare_fault.NotPublic column) lease schema keys view granted own viewed refused = record { lease = lease; schema = schema; granted = granted; keys = keys; own = own; view = view; viewed = viewed; first = with_condition rank (Condition schema ops view) prepare_fault.Memory (prepare_fault.NotPublic column) (λ e. cc) refused }
unprepared may requests moment tries ops prepare_fault.WrongType lease schema keys view granted own viewed refused = record { lease = lease; schema = schema; granted = granted; keys = keys; own = own; view = view; viewed = viewed; first = with_condition rank (Condition schema ops view) prepare_fault.Memory prepare_fault.WrongType (λ e. cc) refused }
unprepared may requests moment tries ops prepare_fault.TooManyOps lease schema keys view granted own viewed refused = record { lease = lease; schema = schema; granted = granted; keys = keys; own = own; view = view; viewed = viewed; first = with_condition rank (Condition schema ops view) prepare_fault.Memory prepare_fault.TooManyOps (λ e. cc) refused }
unprepared may requests moment tries ops prepare_fault.ViewMismatch lease schema keys view granted own viewed refused = record { lease = lease; schema = schema; granted = granted; keys = keys; own = own; view = view; viewed = viewed; first = with_condition rank (Condition schema ops view) prepare_fault.Memory prepare_fault.ViewMismatch (λ e. cc) refused }
unprepared may requests moment tries ops prepare_fault.Memory lease schema keys view granted own viewed refused = tt

-- the same, where the schema and the operations went over as copies
pub unprepared_so : (may : Said → Type 0) (requests : List Request) (moment tries : ℕ) (ops : List RowOp) (fault : PrepareFault) (lease : Lease) (schema : Version) (keys : Keys) (view : View)
    → WasGranted may requests lease schema → (seen : Version) (these : List RowOp) → seen ≡ schema → these ≡ ops → ((key : Bytes) → (map.get keys key ≡ Some tt) ↔ IsRead seen these key) → may (Said.viewed keys view)
    → (copy : Version) (again : List RowOp) → copy ≡ schema → again ≡ ops
    → IsRefusal rank (Condition copy again view) prepare_fault.Memory fault → (o : Outcome) → o ≡ unprepared_by fault → IsTrueOf may requests moment ops tries o
unprepared_so may requests moment tries ops fault lease schema keys view granted seen these seen_is these_is own viewed copy again schema_is ops_is refused o is =
    let read_so : (key : Bytes) → (map.get keys key ≡ Some tt) ↔ IsRead schema ops key =
    λ key. subst (λ (v : Version). (map.get keys key ≡ Some tt) ↔ IsRead v ops key) seen_is (subst (λ (os : List RowOp). (map.get keys key ≡ Some tt) ↔ IsRead seen os key) these_is (own key)) in
    let same : IsRefusal rank (Condition schema ops view) prepare_fault.Memory fault =
    subst (λ (v : Version). IsRefusal rank (Condition v ops view) prepare_fault.Memory fault) schema_is (subst (λ (os : List RowOp). IsRefusal rank (Condition copy os view) prepare_fault.Memory fault) ops_is refused) in
    subst (λ (x : Outcome). IsTrueOf may requests moment ops tries x) (sym is) (unprepared may requests moment tries ops fault lease schema keys view granted read_so viewed same)

unprepared_none : (fault : PrepareFault) → receipts_of (unprepared_by fault) ≡ 0
unprepared_none prepare_fault.NoTable = refl
unprepared_none (prepare_fault.NotPublic column) = refl
unprepared_none prepare_fault.WrongType = refl
unprepared_none prepare_fault.TooManyOps = refl
unprepared_none prepare_fault.ViewMismatch = refl
unprepared_none prepare_fault.Memory = refl

unprepared_last : (fault : PrepareFault) (answer : Last) → answer ≡ last.ReadDone → IsEnd (unprepared_by fault) answer
unprepared_last prepare_fault.NoTable answer e = e
unprepared_last (prepare_fault.NotPublic column) answer e = e
unprepared_last prepare_fault.WrongType answer e = e
unprepared_last prepare_fault.TooManyOps answer e = e
unprepared_last prepare_fault.ViewMismatch answer e = e
unprepared_last prepare_fault.Memory answer e = tt

-- it ends after a read, and holds no receipt
pub unprepared_ends : (fault : PrepareFault) (answer : Last) → answer ≡ last.ReadDone → (o : Outcome) → o ≡ unprepared_by fault → IsEnd o answer × (receipts_of o ≡ 0)
unprepared_ends fault answer e o is = (subst (λ (x : Outcome). IsEnd x answer) (sym is) (unprepared_last fault answer e), ap receipts_of is ∙ unprepared_none fault)

-- the last try ends as the request does
pub served : (tries : ℕ) (before : Tally) (o : Outcome) (after : Tally) → IsEnd o after.last → IsServed tries before o after
served tries before (outcome.Done receipt) after e = e
served tries before (outcome.Row op why) after e = e
served tries before (outcome.Unprepared fault) after e = e
served tries before (outcome.Rejected fault) after e = e
served tries before (outcome.Busy n) after e = absurd e
served tries before outcome.Held after e = e
served tries before (outcome.WentBack seen) after e = e
served tries before outcome.Memory after e = e

-- the failed tries that the outcome tells of are among those that were counted
pub reported_by : (tries : ℕ) (first : Last) (o : Outcome) (after : Tally) → IsServed tries (tally 0 first) o after → tries_of o ≤ after.retries
reported_by tries first (outcome.Done receipt) after s = omega arith
reported_by tries first (outcome.Row op why) after s = omega arith
reported_by tries first (outcome.Unprepared fault) after s = omega arith
reported_by tries first (outcome.Rejected fault) after s = omega arith
reported_by tries first (outcome.Busy n) after s = omega (arith, s.0, s.1)
reported_by tries first outcome.Held after s = omega arith
reported_by tries first (outcome.WentBack seen) after s = omega arith
reported_by tries first outcome.Memory after s = omega arith

-- no try failed yet
pub none_failed : (may : Said → Type 0) (moment : ℕ) (ops : List RowOp) → FailedSoOften may moment ops 0
none_failed may moment ops = ([], refl, All-nil (IsFailedTry may moment ops))

-- one more
pub one_more_failed : (may : Said → Type 0) (moment : ℕ) (ops : List RowOp) (times : ℕ) → FailedSoOften may moment ops times → HasFailed may moment ops → FailedSoOften may moment ops (times + 1)
one_more_failed may moment ops times failed one =
    (one.0 ∷ failed.0, omega (arith, failed.1), All-cons (IsFailedTry may moment ops) one.0 failed.0 one.1 failed.2)

-- the receipt of a lease is kept beside the others
pub still_leases : (may : Said → Type 0) (before after : List Receipt) (answer : Result (Lease × Version) (SharedFault GrantFault)) → Keeps may before answer after → StayLeases may before after
still_leases may before after (Ok given) keeps all =
    All-same (IsLeaseReceipt may) after (before ++ keeps.0 ∷ []) keeps.1
    (All-append (IsLeaseReceipt may) before (keeps.0 ∷ []) all (All-cons (IsLeaseReceipt may) keeps.0 [] (keeps.3, (given.0, keeps.2)) (All-nil (IsLeaseReceipt may))))
still_leases may before after (Err fault) keeps all = All-same (IsLeaseReceipt may) after before keeps all

-- ---- a try that another one follows, and one that none follows

pub try_failed : (may : Said → Type 0) (requests : List Request) (moment tries : ℕ) (ops : List RowOp) (found : Option Outcome) → found ≡ None → IsTrueOfTry may requests moment ops tries found → HasFailed may moment ops
try_failed may requests moment tries ops found is own = subst (IsTrueOfTry may requests moment ops tries) is own

pub try_ended : (may : Said → Type 0) (requests : List Request) (moment tries : ℕ) (ops : List RowOp) (found : Option Outcome) (o : Outcome) → found ≡ Some o → IsTrueOfTry may requests moment ops tries found → IsTrueOf may requests moment ops tries o
try_ended may requests moment tries ops found o is own = subst (IsTrueOfTry may requests moment ops tries) is own

pub one_more_retry : (retries : ℕ) (found : Option Outcome) → found ≡ None → retries_after retries found ≡ retries + 1
one_more_retry retries found is = ap (retries_after retries) is

pub none_holds_none : (found : Option Outcome) → found ≡ None → receipts_in found ≡ 0
none_holds_none found is = ap receipts_in is
