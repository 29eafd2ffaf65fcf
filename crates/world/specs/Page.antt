-- Cited by the contracts of World::query_page, Snapshot::query_page.
-- What a page of a query under a lease has, and of a snapshot.
use Rattle.std.specs.Prelude.{◌≡◌, ℕ, ◌+◌, ◌<◌, Some, Result, Ok, Err}
use Rattle.collections.specs.Refusal.{IsRefusal, IsClear}
use Rattle.element_state.specs.Consistent.{IsConsistent}
use Rattle.element_state.specs.Visible.{visible_rows}
use Rattle.lease.specs.declared.fault.LeaseFault.{LeaseFault}
use Rattle.lease.specs.declared.fault.LeaseFault.TheVariants as lease_fault
use Rattle.lease.specs.declared.lease.Lease.{Lease}
use Rattle.lease.specs.Timeline.{IsHonest, IsInForce, max_moment}
use Rattle.replay.specs.Replay.{version_at}
use Rattle.row_map.specs.Rows.{Rows}
use Rattle.row_page.specs.Page.{page_of, rows_within}
use Rattle.row_page.specs.Refused.{page_rank, PageCondition}
use Rattle.row_page.specs.declared.fault.PageFault.{PageFault}
use Rattle.row_page.specs.declared.fault.PageFault.TheVariants.{Query as Faulty}
use Rattle.row_page.specs.declared.page.RowPage.{RowPage}
use Rattle.row_page.specs.declared.range.KeyRange.{KeyRange}
use Rattle.row_query.specs.Answer.{plain_answer}
use Rattle.row_query.specs.declared.fault.QueryFault.TheVariants.{Memory}
use Rattle.row_query.specs.declared.query.Query.{Query as Asked}
use Rattle.schema_version.specs.Version.{Version}
use Rattle.world.specs.Calls.{effective_moment}
use Rattle.world.specs.Snapshot.{Taken}
use Rattle.world.specs.State.{State, facts_of}
use Rattle.world.specs.declared.page.PageRefusal.{PageRefusal}
use Rattle.world.specs.declared.page.PageRefusal.TheVariants as refusal

-- what is reported of a lease
abbrev pub lease_reported : LeaseFault → PageRefusal
lease_reported lease_fault.MomentTooLarge = refusal.MomentTooLarge
lease_reported lease_fault.BadLease = refusal.BadLease
lease_reported (lease_fault.LeaseEnded until now) = refusal.LeaseEnded until now

-- the lease comes first, then the page; out of memory last
abbrev pub refusal_rank : PageRefusal → ℕ
refusal_rank refusal.MomentTooLarge = 1
refusal_rank refusal.BadLease = 2
refusal_rank (refusal.LeaseEnded until now) = 3
refusal_rank (refusal.Page fault) = 4 + page_rank fault

-- the page has this fault under the schema of the lease's version
abbrev pub IsFaultyPage : State → Lease → Asked → KeyRange → ℕ → PageFault → Type 0
IsFaultyPage old lease query range limit fault = (version : Version) × (version_at (facts_of old) lease.version ≡ Some version) × PageCondition version query range limit fault

abbrev pub RefusalCondition : State → ℕ → Lease → Asked → KeyRange → ℕ → PageRefusal → Type 0
RefusalCondition old now lease query range limit refusal.MomentTooLarge = max_moment < now
RefusalCondition old now lease query range limit refusal.BadLease = ¬ (IsHonest (facts_of old).line now lease)
RefusalCondition old now lease query range limit (refusal.LeaseEnded until effective_moment) = (until ≡ lease.until) × (effective_moment ≡ now) × (¬ (IsInForce lease now))
RefusalCondition old now lease query range limit (refusal.Page fault) = IsFaultyPage old lease query range limit fault

-- the first of the rows of the log that are asked for and whose key is in the range, as the lease's version sees them
abbrev pub IsPageOfLog : State → Lease → Asked → KeyRange → ℕ → RowPage → Type 0
IsPageOfLog old lease query range limit page =
    (version : Version) × (version_at (facts_of old) lease.version ≡ Some version) × (page ≡ page_of limit (rows_within range (plain_answer (visible_rows version (facts_of old).rows) query)))

-- now is the moment that counts
abbrev pub PageAt : State → ℕ → Lease → Asked → KeyRange → ℕ → Result RowPage PageRefusal → Type 0
PageAt old now lease query range limit (Ok page) = IsClear (RefusalCondition old now lease query range limit) × IsPageOfLog old lease query range limit page
PageAt old now lease query range limit (Err fault) = IsRefusal refusal_rank (RefusalCondition old now lease query range limit) (refusal.Page (Faulty Memory)) fault

abbrev pub PageStep : State → ℕ → Lease → Asked → KeyRange → ℕ → Result RowPage PageRefusal → Type 0
PageStep old moment = PageAt old (effective_moment old moment)

-- a page of a snapshot, whenever it is asked: over any rows with which its pairs agree, the first of the plain answer in the range as its
-- version sees them; or the first refusal
abbrev pub IsSnapshotPage : Taken → Asked → KeyRange → ℕ → Result RowPage PageFault → Type 0
IsSnapshotPage taken query range limit (Ok page) =
    IsClear (PageCondition taken.version query range limit)
    × ((rows : Rows) → IsConsistent taken.version rows taken.pairs → page ≡ page_of limit (rows_within range (plain_answer (visible_rows taken.version rows) query)))
IsSnapshotPage taken query range limit (Err fault) = IsRefusal page_rank (PageCondition taken.version query range limit) (Faulty Memory) fault
