-- Cited by the contracts of World::check, World::commit, World::lease, World::open and 6 more.
-- What each call of the core may answer, and the state that it leaves.
use Rattle.std.specs.Prelude.{◌≡◌, ◌≢◌, ℕ, ◌+◌, ◌<◌, ◌≤◌, max, length, Option, Some, Result, Ok, Err, ◌↔◌}
use Rattle.std.specs.FinMap as map
use Rattle.audit.specs.declared.report.CheckReport.{CheckReport}
use Rattle.audit.specs.Audit.{IsAudit}
use Rattle.keycode.specs.Order.{bytes_cmp}
use Rattle.collections.specs.Refusal.{IsRefusal, IsClear}
use Rattle.lease.specs.Timeline.{IsHonest, IsInForce, granted_at, max_moment, IsLength}
use Rattle.row_map.specs.Expect.{IsConflict, Holds, View}
use Rattle.row_map.specs.Rows.{Bytes}
use Rattle.schema_version.specs.Declare.{declared, IsLawful}
use Rattle.row_write.specs.declared.op.RowOutcome.TheVariants.{Done, Refused}
use Rattle.row_write.specs.Plain.{outcome}
use Rattle.row_write.specs.Made.{PreparedTxn}
use Rattle.replay.specs.declared.entry.What.{What}
use Rattle.replay.specs.declared.entry.What.TheVariants.{Lease as Granted, Txn}
use Rattle.replay.specs.Headline.{MayFollow}
use Rattle.replay.specs.Replay.{Opening, version_at}
use Rattle.checkpoint_check.specs.Checkpoint.{opening_checkpoint}
use Rattle.world.specs.declared.config.Config.{Config}
use Rattle.world.specs.declared.committed.Committed.{Committed}
use Rattle.world.specs.declared.committed.Committed.TheVariants as committed
use Rattle.world.specs.declared.entry.Receipt.{Receipt}
use Rattle.world.specs.declared.entry.Grant.{Grant}
use Rattle.world.specs.declared.open.OpenFault.{OpenFault}
use Rattle.world.specs.declared.open.OpenFault.TheVariants as open_fault
use Rattle.world.specs.declared.grant.GrantFault.{GrantFault}
use Rattle.world.specs.declared.grant.GrantFault.TheVariants as grant_fault
use Rattle.world.specs.declared.commit.CommitFault.{CommitFault}
use Rattle.world.specs.declared.commit.CommitFault.TheVariants as commit_fault
use Rattle.world.specs.State.{State, facts_of, effect, entry_count, opened}

-- the moment that counts: the greater of the one handed in and the last entry's
abbrev pub effective_moment : State → ℕ → ℕ
effective_moment state moment = max moment (facts_of state).moment

-- one entry more, which may follow those before it, with the receipt for it
pub record Appends (old : State) (now : ℕ) (what : What) (receipt : Receipt) (new : State) : Type 0 where
  pub later : (facts_of old).moment ≤ now
  pub follows : MayFollow (facts_of old) now what
  pub entry : receipt.entry ≡ record { moment = now; what = what }
  pub place : receipt.place ≡ entry_count old + 1
  pub state : new ≡ effect old receipt.entry

-- ---- opening

abbrev pub open_rank : OpenFault → ℕ
open_rank open_fault.BadTable = 1
open_rank open_fault.BadLength = 2
open_rank open_fault.Memory = 3

abbrev pub OpenCondition : Config → OpenFault → Type 0
OpenCondition config open_fault.BadTable = ¬ (IsLawful config.tables)
OpenCondition config open_fault.BadLength = ¬ (IsLength config.length)
OpenCondition config open_fault.Memory = ⊥

abbrev pub opening_of : Config → Opening
opening_of config = record { length = config.length; schema = declared config.tables }

-- a world begins with the declared version, no rows and no pairs
abbrev pub OpenStep : Config → Result State OpenFault → Type 0
OpenStep config (Ok new) = IsClear (OpenCondition config) × (new ≡ opened (opening_checkpoint (opening_of config)))
OpenStep config (Err fault) = IsRefusal open_rank (OpenCondition config) open_fault.Memory fault

-- ---- lease

abbrev pub grant_rank : GrantFault → ℕ
grant_rank grant_fault.MomentTooLarge = 1
grant_rank grant_fault.Memory = 2

abbrev pub GrantCondition : ℕ → GrantFault → Type 0
GrantCondition now grant_fault.MomentTooLarge = max_moment < now
GrantCondition now grant_fault.Memory = ⊥

-- now is the moment that counts: a lease is one on the newest version, from then on
abbrev pub LeaseAt : State → ℕ → Result Grant GrantFault → State → Type 0
LeaseAt old now (Ok given) new =
    IsClear (GrantCondition now)
    × (given.lease ≡ granted_at (facts_of old).line now)
    × (given.schema ≡ (facts_of old).newest)
    × Appends old now (Granted given.lease) given.receipt new
LeaseAt old now (Err fault) new = IsRefusal grant_rank (GrantCondition now) grant_fault.Memory fault × (new ≡ old)

abbrev pub LeaseStep : State → ℕ → Result Grant GrantFault → State → Type 0
LeaseStep old moment = LeaseAt old (effective_moment old moment)

-- ---- commit

-- out of memory may come in place of a conflict
abbrev pub commit_rank : CommitFault → ℕ
commit_rank commit_fault.MomentTooLarge = 1
commit_rank commit_fault.BadLease = 2
commit_rank (commit_fault.LeaseEnded until now) = 3
commit_rank commit_fault.WrongSchema = 4
commit_rank (commit_fault.Conflict key) = 5
commit_rank commit_fault.Memory = 5

abbrev pub CommitCondition : State → ℕ → PreparedTxn → CommitFault → Type 0
CommitCondition old now prepared commit_fault.MomentTooLarge = max_moment < now
CommitCondition old now prepared commit_fault.BadLease = ¬ (IsHonest (facts_of old).line now prepared.lease)
CommitCondition old now prepared (commit_fault.LeaseEnded until effective_moment) = (until ≡ prepared.lease.until) × (effective_moment ≡ now) × (¬ (IsInForce prepared.lease now))
CommitCondition old now prepared commit_fault.WrongSchema = version_at (facts_of old) prepared.lease.version ≢ Some prepared.schema
CommitCondition old now prepared (commit_fault.Conflict key) = IsConflict prepared.expect old.pairs key
CommitCondition old now prepared commit_fault.Memory = ⊥

-- now is the moment that counts: a transaction is logged where plain rows accept it, and else refused by its first bad operation; in both
-- cases all that it read still holds
abbrev pub CommitAt : State → ℕ → PreparedTxn → Result Committed CommitFault → State → Type 0
CommitAt old now prepared (Ok (committed.Done receipt)) new =
    IsClear (CommitCondition old now prepared)
    × (outcome (facts_of old).rows prepared.ops ≡ Done)
    × Appends old now (Txn prepared.lease prepared.ops) receipt new
    × Holds prepared.expect old.pairs
CommitAt old now prepared (Ok (committed.Refused op why)) new =
    IsClear (CommitCondition old now prepared)
    × (outcome (facts_of old).rows prepared.ops ≡ Refused op why)
    × (new ≡ old)
    × Holds prepared.expect old.pairs
CommitAt old now prepared (Err fault) new = IsRefusal commit_rank (CommitCondition old now prepared) commit_fault.Memory fault × (new ≡ old)

-- the answer to one who keeps what was prepared, as it is to one who gets it back with a refusal
abbrev pub given_back : {T E P : Type 0} → P → Result T E → Result T (E × P)
given_back prepared (Ok done) = Ok done
given_back prepared (Err fault) = Err (fault, prepared)

-- a refusal gives the prepared transaction back
abbrev pub CommitStep : State → ℕ → PreparedTxn → Result Committed (CommitFault × PreparedTxn) → State → Type 0
CommitStep old moment prepared (Ok done) new = CommitAt old (effective_moment old moment) prepared (Ok done) new
CommitStep old moment prepared (Err refusal) new = CommitAt old (effective_moment old moment) prepared (Err refusal.0) new × (refusal.1 ≡ prepared)

-- ---- the calls that change nothing

-- each key that is to be read, with its value in the store or with none, and no other key
abbrev pub IsReadView : State → map.FinMap bytes_cmp (Unit {0}) → View → Type 0
IsReadView state keys view =
    (key : Bytes) (value : Option Bytes) → (map.get view key ≡ Some value) ↔ ((map.get keys key ≡ Some tt) × (map.get state.pairs key ≡ value))

-- the audit of the pairs by the newest version
abbrev pub IsCheck : State → CheckReport → Type 0
IsCheck state report = IsAudit (facts_of state).newest state.pairs report
