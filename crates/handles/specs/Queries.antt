-- Cited by the contracts of cagzhomul_query, cagzhomul_snapshot_query, cagzhomul_query_read, cagzhomul_bytes_from and of what they call.
-- The rows that a query answers, by their code, in a handle of their own.
use Rattle.std.specs.Prelude.{◌≡◌, ℕ, ℤ, List, drop, length, Option, Some, None, Result, Ok, Err}
use Rattle.typed_calls.specs.ServerLease.{ServerLease}
use Rattle.typed_calls.specs.Snapshot.{Taken}
use Rattle.typed_calls.specs.Queries.{query_alone, AnswersCode, QueriesIn, QueriesSnapshot}
use Rattle.typed_calls.specs.ReadQueries.{QueriesRow}
use Rattle.typed_calls.specs.Statuses.{ok, closed, already_open}
use Rattle.typed_calls.specs.declared.bounded.BoundedWorld.{BoundedWorld}
use Rattle.typed_calls.specs.declared.queries.QueryOutcome.{QueryOutcome}
use Rattle.typed_calls.specs.declared.reads.Reads.{Reads}
use Rattle.handles.specs.declared.engine.Engine.{Engine}
use Rattle.handles.specs.declared.engine.Engine.TheVariants as engine
use Rattle.handles.specs.declared.outcome.Outcome.{Outcome}
use Rattle.handles.specs.Calls.{laid, Refuses}
use Rattle.handles.specs.Handles.{Fills}

-- the handle, which was closed, holds the code of the rows, unless memory ran out; after a refusal it is closed
abbrev pub Keeps : Result (List ℕ) QueryOutcome → QueryOutcome → Option Engine → Type 0
Keeps (Ok code) outcome bytes = (status : ℤ) × Fills (engine.Bytes code) status bytes × (outcome ≡ query_alone status)
Keeps (Err refusal) outcome bytes = (outcome ≡ refusal) × (bytes ≡ None)

-- ---- query

-- the rows that the world answers, or its refusal
abbrev pub QueriesInto : BoundedWorld → ℕ → ServerLease → List ℕ → QueryOutcome → Option Engine → Type 0
QueriesInto bounded moment held query outcome bytes =
    (answer : Result (List ℕ) QueryOutcome) × QueriesIn bounded moment held.lease query answer × Keeps answer outcome bytes

-- under the lease of a handle
abbrev pub QueriesUnder : BoundedWorld → ℕ → Option Engine → List ℕ → QueryOutcome → Option Engine → Type 0
QueriesUnder bounded moment None query outcome bytes = (outcome ≡ query_alone closed) × (bytes ≡ None)
QueriesUnder bounded moment (Some (engine.Lease held)) query outcome bytes = QueriesInto bounded moment held query outcome bytes
QueriesUnder bounded moment (Some other) query outcome bytes = (outcome ≡ query_alone closed) × (bytes ≡ None)

abbrev pub QueriesOf : Option Engine → ℕ → Option Engine → List ℕ → QueryOutcome → Option Engine → Type 0
QueriesOf None moment lease query outcome bytes = (outcome ≡ query_alone closed) × (bytes ≡ None)
QueriesOf (Some (engine.World bounded)) moment lease query outcome bytes = QueriesUnder bounded moment lease query outcome bytes
QueriesOf (Some other) moment lease query outcome bytes = (outcome ≡ query_alone closed) × (bytes ≡ None)

-- into a closed handle
abbrev pub Queries : Option Engine → ℕ → Option Engine → List ℕ → Option Engine → QueryOutcome → Option Engine → Type 0
Queries world moment lease query (Some e) outcome bytes = (outcome ≡ query_alone already_open) × (bytes ≡ Some e)
Queries world moment lease query None outcome bytes = QueriesOf world moment lease query outcome bytes

-- ---- query_snapshot

-- the rows that a snapshot answers, or its refusal
abbrev pub TakenInto : Taken → List ℕ → QueryOutcome → Option Engine → Type 0
TakenInto taken query outcome bytes =
    (answer : Result (List ℕ) QueryOutcome) × QueriesSnapshot taken query answer × Keeps answer outcome bytes

abbrev pub TakenOf : Option Engine → List ℕ → QueryOutcome → Option Engine → Type 0
TakenOf None query outcome bytes = (outcome ≡ query_alone closed) × (bytes ≡ None)
TakenOf (Some (engine.Snapshot taken)) query outcome bytes = TakenInto taken query outcome bytes
TakenOf (Some other) query outcome bytes = (outcome ≡ query_alone closed) × (bytes ≡ None)

-- into a closed handle
abbrev pub SnapshotQueries : Option Engine → List ℕ → Option Engine → QueryOutcome → Option Engine → Type 0
SnapshotQueries snapshot query (Some e) outcome bytes = (outcome ≡ query_alone already_open) × (bytes ≡ Some e)
SnapshotQueries snapshot query None outcome bytes = TakenOf snapshot query outcome bytes

-- ---- query_read

-- the row that a transaction read, or its refusal
abbrev pub ReadInto : Reads → List ℕ → QueryOutcome → Option Engine → Type 0
ReadInto reads query outcome bytes =
    (answer : Result (List ℕ) QueryOutcome) × AnswersCode (QueriesRow reads.held.schema reads.view) query answer × Keeps answer outcome bytes

abbrev pub ReadOf : Option Engine → List ℕ → QueryOutcome → Option Engine → Type 0
ReadOf None query outcome bytes = (outcome ≡ query_alone closed) × (bytes ≡ None)
ReadOf (Some (engine.Reads reads)) query outcome bytes = ReadInto reads query outcome bytes
ReadOf (Some other) query outcome bytes = (outcome ≡ query_alone closed) × (bytes ≡ None)

-- into a closed handle
abbrev pub ReadQueries : Option Engine → List ℕ → Option Engine → QueryOutcome → Option Engine → Type 0
ReadQueries reads query (Some e) outcome bytes = (outcome ≡ query_alone already_open) × (bytes ≡ Some e)
ReadQueries reads query None outcome bytes = ReadOf reads query outcome bytes

-- ---- bytes_from

-- what the handle holds from this byte on lies in the caller's bytes
abbrev pub BytesFrom : Option Engine → ℕ → List ℕ → Outcome → List ℕ → Type 0
BytesFrom None from out outcome out' = Refuses closed out outcome out'
BytesFrom (Some (engine.Bytes bytes)) from out outcome out' = (outcome ≡ record { status = ok; length = length bytes }) × (out' ≡ laid out (drop from bytes))
BytesFrom (Some other) from out outcome out' = Refuses closed out outcome out'
