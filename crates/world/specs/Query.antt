-- Cited by the contracts of World::query, locked_store::Shared::query.
-- What a query under a lease answers.
use Rattle.std.specs.Prelude.{◌≡◌, ℕ, ◌<◌, List, Some, Result, Ok, Err}
use Rattle.element_state.specs.Visible.{visible_rows}
use Rattle.lease.specs.declared.lease.Lease.{Lease}
use Rattle.lease.specs.Timeline.{IsHonest, IsInForce, max_moment}
use Rattle.collections.specs.Refusal.{IsRefusal, IsClear}
use Rattle.row_map.specs.declared.shape.Row.{Row}
use Rattle.row_query.specs.declared.fault.QueryFault.{QueryFault}
use Rattle.row_query.specs.declared.fault.QueryFault.TheVariants.{Memory}
use Rattle.row_query.specs.declared.query.Query.{Query as Asked}
use Rattle.row_query.specs.Answer.{plain_answer}
use Rattle.row_query.specs.Refused.{IsRefused}
use Rattle.schema_version.specs.Version.{Version}
use Rattle.replay.specs.Replay.{version_at}
use Rattle.world.specs.declared.query.QueryRefusal.{QueryRefusal}
use Rattle.world.specs.declared.query.QueryRefusal.TheVariants as refusal
use Rattle.world.specs.Calls.{effective_moment}
use Rattle.world.specs.State.{State, facts_of}

-- out of memory comes last
abbrev pub query_rank : QueryRefusal → ℕ
query_rank refusal.MomentTooLarge = 1
query_rank refusal.BadLease = 2
query_rank (refusal.LeaseEnded until now) = 3
query_rank (refusal.Query Memory) = 5
query_rank (refusal.Query fault) = 4

-- the query has this fault under the schema of the lease's version
abbrev pub IsFaulty : State → Lease → Asked → QueryFault → Type 0
IsFaulty old lease query fault = (version : Version) × (version_at (facts_of old) lease.version ≡ Some version) × IsRefused version query fault

abbrev pub QueryCondition : State → ℕ → Lease → Asked → QueryRefusal → Type 0
QueryCondition old now lease query refusal.MomentTooLarge = max_moment < now
QueryCondition old now lease query refusal.BadLease = ¬ (IsHonest (facts_of old).line now lease)
QueryCondition old now lease query (refusal.LeaseEnded until effective_moment) = (until ≡ lease.until) × (effective_moment ≡ now) × (¬ (IsInForce lease now))
QueryCondition old now lease query (refusal.Query Memory) = ⊥
QueryCondition old now lease query (refusal.Query fault) = IsFaulty old lease query fault

-- the rows of the log that are asked for, as the lease's version sees them, in whichever way they are found
abbrev pub IsAnsweredBy : State → Lease → Asked → List Row → Type 0
IsAnsweredBy old lease query found = (version : Version) × (version_at (facts_of old) lease.version ≡ Some version) × (found ≡ plain_answer (visible_rows version (facts_of old).rows) query)

-- now is the moment that counts
abbrev pub QueryAt : State → ℕ → Lease → Asked → Result (List Row) QueryRefusal → Type 0
QueryAt old now lease query (Ok found) = IsClear (QueryCondition old now lease query) × IsAnsweredBy old lease query found
QueryAt old now lease query (Err fault) = IsRefusal query_rank (QueryCondition old now lease query) (refusal.Query Memory) fault

abbrev pub QueryStep : State → ℕ → Lease → Asked → Result (List Row) QueryRefusal → Type 0
QueryStep old moment = QueryAt old (effective_moment old moment)
