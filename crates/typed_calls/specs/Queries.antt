-- Cited by the contracts of query, query_snapshot and of what they call.
-- Queries by their code, of a world under a lease and of a snapshot: the code of the rows that are answered.
use Rattle.std.specs.Prelude.{◌≡◌, ℕ, ◌⊎◌, ℤ, List, Result, Ok, Err}
use Rattle.entry_code.specs.Code.{query_code, rows_code}
use Rattle.entry_code.specs.Known.{IsQuery}
use Rattle.keycode.specs.Valid.{IsStorable}
use Rattle.lease.specs.declared.lease.Lease.{Lease}
use Rattle.row_map.specs.declared.shape.Row.{Row}
use Rattle.row_query.specs.declared.fault.QueryFault.{QueryFault}
use Rattle.row_query.specs.declared.fault.QueryFault.TheVariants.{NoTable, NotPublic, WrongType, Memory}
use Rattle.row_query.specs.declared.query.Query.{Query}
use Rattle.script_session.specs.State.{State}
use Rattle.script_session.specs.WorldQuery.{QueryStep}
use Rattle.script_session.specs.Snapshot.{Taken, IsSnapshotAnswer}
use Rattle.script_session.specs.QueryRefusal.{QueryRefusal}
use Rattle.script_session.specs.QueryRefusal.TheVariants as refusal
use Rattle.typed_calls.specs.Bounded.{SeenWithin, IsNoCode}
use Rattle.typed_calls.specs.Statuses.{bad_code, bad_lease, lease_ended, moment_too_large, no_table, not_public, out_of_memory, too_far, wrong_type}
use Rattle.typed_calls.specs.declared.bounded.BoundedWorld.{BoundedWorld}
use Rattle.typed_calls.specs.declared.queries.QueryOutcome.{QueryOutcome}

-- a status without a column
abbrev pub query_alone : ℤ → QueryOutcome
query_alone status = record { status = status; column = 0 }

-- what a fault of the query is reported as
abbrev pub fault_outcome : QueryFault → QueryOutcome
fault_outcome NoTable = query_alone no_table
fault_outcome (NotPublic column) = record { status = not_public; column = column }
fault_outcome WrongType = query_alone wrong_type
fault_outcome Memory = query_alone out_of_memory

-- what a refusal is reported as
abbrev pub query_outcome : QueryRefusal → QueryOutcome
query_outcome refusal.MomentTooLarge = query_alone moment_too_large
query_outcome refusal.BadLease = query_alone bad_lease
query_outcome (refusal.LeaseEnded until now) = query_alone lease_ended
query_outcome (refusal.Query fault) = fault_outcome fault

-- the bytes are the code of a query, which is answered or refused; or of none, or memory ran out before they were read
abbrev pub AnswersCode : (Query → Result (List ℕ) QueryOutcome → Type 0) → List ℕ → Result (List ℕ) QueryOutcome → Type 0
AnswersCode Answers code answer =
    ((answer ≡ Err (query_alone bad_code)) × IsNoCode (IsQuery IsStorable) query_code code)
    ⊎ (answer ≡ Err (query_alone out_of_memory))
    ⊎ ((query : Query) × IsQuery IsStorable query × (code ≡ query_code query) × Answers query answer)

-- the rows that `World::query` answers, or what its refusal is reported as
abbrev pub QueriesWorld : State → ℕ → Lease → Query → Result (List ℕ) QueryOutcome → Type 0
QueriesWorld world moment lease query (Ok code) = (rows : List Row) × QueryStep world moment lease query (Ok rows) × (code ≡ rows_code rows)
QueriesWorld world moment lease query (Err outcome) =
    (outcome ≡ query_alone out_of_memory)
    ⊎ ((fault : QueryRefusal) × QueryStep world moment lease query (Err fault) × (outcome ≡ query_outcome fault))

abbrev pub QueriesIn : BoundedWorld → ℕ → Lease → List ℕ → Result (List ℕ) QueryOutcome → Type 0
QueriesIn bounded moment lease code answer =
    SeenWithin (Err (query_alone too_far)) (λ world a. AnswersCode (QueriesWorld world moment lease) code a) bounded moment answer

-- the same of a snapshot's
abbrev pub QueriesTaken : Taken → Query → Result (List ℕ) QueryOutcome → Type 0
QueriesTaken taken query (Ok code) = (rows : List Row) × IsSnapshotAnswer taken query (Ok rows) × (code ≡ rows_code rows)
QueriesTaken taken query (Err outcome) =
    (outcome ≡ query_alone out_of_memory)
    ⊎ ((fault : QueryFault) × IsSnapshotAnswer taken query (Err fault) × (outcome ≡ fault_outcome fault))

abbrev pub QueriesSnapshot : Taken → List ℕ → Result (List ℕ) QueryOutcome → Type 0
QueriesSnapshot taken code answer = AnswersCode (QueriesTaken taken) code answer
