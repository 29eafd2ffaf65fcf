-- What a port's answers come to, of the operations of a request.
use Rattle.std.proofs.Common.{◌≡◌, ℕ, List, subst, ap, ◌∙◌}
use Rattle.std.specs.Prelude.{Ok, Err, false}
use Rattle.std.specs.declared.alloc.AllocError.{AllocError}
use Rattle.row_write.specs.declared.op.RowOp.{RowOp}
use Rattle.row_write.specs.declared.fault.RowFault.{RowFault}
use Rattle.locked_store.specs.Receipt.{Receipt}
use Rattle.locked_store.specs.Committed.{Committed}
use Rattle.locked_store.specs.Committed.TheVariants as committed
use Rattle.locked_store.specs.CommitFault.{CommitFault}
use Rattle.locked_store.specs.CommitFault.TheVariants as commit_fault
use Rattle.locked_store.specs.GrantFault.{GrantFault}
use Rattle.locked_store.specs.GrantFault.TheVariants as grant_fault
use Rattle.locked_store.specs.declared.fault.SharedFault.{SharedFault}
use Rattle.locked_store.specs.declared.fault.SharedFault.TheVariants as shared
use Rattle.server.specs.declared.tally.Tally.{Tally}
use Rattle.server.specs.Outcomes.{Said, Keys, IsAgain, IsReceiptOf, GrantSays, ReadSays, CommitSays, RefusalSays, FaultSays}
use Rattle.server.specs.Tallies.{tally, last_by, last_of_fault}

-- ---- of a lease

pub grant_back : (may : Said → Type 0) (moment : ℕ) (refusal : SharedFault GrantFault) (seen : ℕ) → refusal ≡ shared.WentBack seen → GrantSays may moment (Err refusal) → may (Said.went_back seen)
grant_back may moment refusal seen is says = subst (λ (x : SharedFault GrantFault). GrantSays may moment (Err x)) is says

pub grant_overdue : (may : Said → Type 0) (moment : ℕ) (refusal : SharedFault GrantFault) (fault : GrantFault) → refusal ≡ shared.World fault → fault ≡ grant_fault.MomentTooLarge
    → GrantSays may moment (Err refusal) → may (Said.overdue moment)
grant_overdue may moment refusal fault is fault_is says =
    subst (λ (x : GrantFault). GrantSays may moment (Err (shared.World x))) fault_is (subst (λ (x : SharedFault GrantFault). GrantSays may moment (Err x)) is says)

-- ---- of a read

pub read_back : (may : Said → Type 0) (keys : Keys) (refusal : SharedFault AllocError) (seen : ℕ) → refusal ≡ shared.WentBack seen → ReadSays may keys (Err refusal) → may (Said.went_back seen)
read_back may keys refusal seen is says = subst (λ (x : SharedFault AllocError). ReadSays may keys (Err x)) is says

-- ---- of a commit

pub done_says : (may : Said → Type 0) (moment : ℕ) (these ops : List RowOp) → these ≡ ops → (done : Committed) (receipt : Receipt) → done ≡ committed.Done receipt
    → CommitSays may moment these (Ok done) → may (Said.done moment ops receipt) × IsReceiptOf ops receipt
done_says may moment these ops own done receipt is says =
    subst (λ (os : List RowOp). may (Said.done moment os receipt) × IsReceiptOf os receipt) own (subst (λ (x : Committed). CommitSays may moment these (Ok x)) is says)

pub refused_says : (may : Said → Type 0) (moment : ℕ) (these ops : List RowOp) → these ≡ ops → (done : Committed) (op : ℕ) (why : RowFault) → done ≡ committed.Refused op why
    → CommitSays may moment these (Ok done) → may (Said.unfit ops op why)
refused_says may moment these ops own done op why is says =
    subst (λ (os : List RowOp). may (Said.unfit os op why)) own (subst (λ (x : Committed). CommitSays may moment these (Ok x)) is says)

pub back_says : (may : Said → Type 0) (moment : ℕ) (these : List RowOp) (refusal : SharedFault CommitFault) (seen : ℕ) → refusal ≡ shared.WentBack seen
    → RefusalSays may moment these refusal → may (Said.went_back seen)
back_says may moment these refusal seen is says = subst (λ (x : SharedFault CommitFault). RefusalSays may moment these x) is says

pub fault_says : (may : Said → Type 0) (moment : ℕ) (these ops : List RowOp) → these ≡ ops → (refusal : SharedFault CommitFault) (reported fault : CommitFault) → refusal ≡ shared.World reported → reported ≡ fault
    → RefusalSays may moment these refusal → FaultSays may moment ops fault
fault_says may moment these ops own refusal reported fault is reported_is says =
    subst (λ (os : List RowOp). FaultSays may moment os fault) own (subst (λ (x : CommitFault). FaultSays may moment these x) reported_is (subst (λ (x : SharedFault CommitFault). RefusalSays may moment these x) is says))

pub ended_last : (t : Tally) (retries : ℕ) (refusal : SharedFault CommitFault) (reported : CommitFault) (until now : ℕ) → refusal ≡ shared.World reported → reported ≡ commit_fault.LeaseEnded until now
    → t ≡ tally retries (last_by refusal) → IsAgain false t.last
ended_last t retries refusal reported until now is reported_is tallied = (until, now, ap (λ (x : Tally). x.last) tallied ∙ ap last_by is ∙ ap last_of_fault reported_is)
