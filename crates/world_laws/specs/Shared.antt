-- Cited by the contracts of shared_answers_are_lawful.
-- The laws of the core, of what is answered through the lock of a shared world: each speaks of the very state in which the call was answered.
use Rattle.std.specs.Prelude.{◌≡◌, ℕ, ◌≤◌, List, Some, Result, Ok, IfOk}
use Rattle.std.specs.declared.alloc.AllocError.{AllocError}
use Rattle.audit.specs.declared.report.CheckReport.{CheckReport}
use Rattle.element_state.specs.Consistent.{IsConsistent}
use Rattle.element_state.specs.Elements.{Empty, Exact}
use Rattle.element_state.specs.Kinds.{kind_meaning}
use Rattle.element_state.specs.Visible.{visible_rows}
use Rattle.element_state.specs.Sources.{source_in}
use Rattle.element_state.specs.Tables.{within}
use Rattle.lease.specs.declared.lease.Lease.{Lease}
use Rattle.row_map.specs.declared.shape.Row.{Row}
use Rattle.row_query.specs.Answer.{plain_answer}
use Rattle.row_query.specs.declared.query.Query.{Query}
use Rattle.row_write.specs.Made.{PreparedTxn}
use Rattle.schema_version.specs.declared.element.ElementDef.{ElementDef}
use Rattle.schema_version.specs.declared.element.ElementState.TheVariants.{Absent, Public}
use Rattle.schema_version.specs.declared.step.Move.{Move}
use Rattle.schema_version.specs.Version.{element_at, state_of}
use Rattle.world.specs.declared.committed.Committed.{Committed}
use Rattle.world.specs.declared.commit.CommitFault.{CommitFault}
use Rattle.world.specs.declared.entry.Receipt.{Receipt}
use Rattle.world.specs.declared.publish.PublishFault.{PublishFault}
use Rattle.world.specs.declared.query.QueryRefusal.{QueryRefusal}
use Rattle.world.specs.declared.snapshot.SnapshotFault.{SnapshotFault}
use Rattle.world.specs.Calls.{CommitStep, IsCheck}
use Rattle.world.specs.Publish.{PublishStep}
use Rattle.world.specs.Query.{QueryStep}
use Rattle.world.specs.Snapshot.{Taken, SnapshotStep, IsSnapshotAnswer, IsSnapshotCheck}
use Rattle.world.specs.State.{State, facts_of}
use Rattle.locked_store.specs.Answers.{Answers, AnswersBack, no_place, commit_place, publish_place}
use Rattle.locked_store.specs.declared.fault.SharedFault.{SharedFault}
use Rattle.locked_store.specs.Known.{Known}
use Rattle.world_laws.specs.Clean.{IsClean}
use Rattle.world_laws.specs.Recent.{IsRecent}

-- what `Shared::commit` accepts, `Shared::query` answers, `Shared::snapshot` gives, `Shared::publish` publishes and `Shared::check` counts
abbrev pub Committing : State → Known → ℕ → PreparedTxn → Committed → Known → Type 0
Committing start v moment prepared done w =
    AnswersBack start v prepared (let r : Result Committed (SharedFault CommitFault × PreparedTxn) = Ok done in r) w (λ c r d. CommitStep c moment prepared r d) commit_place

abbrev pub Querying : State → Known → ℕ → Lease → Query → List Row → Known → Type 0
Querying start v moment lease query found w =
    Answers start v (let r : Result (List Row) (SharedFault QueryRefusal) = Ok found in r) w (λ c r d. QueryStep c moment lease query r × (d ≡ c)) no_place

abbrev pub Taking : State → Known → ℕ → Lease → Taken → Known → Type 0
Taking start v moment lease taken w =
    Answers start v (let r : Result Taken (SharedFault SnapshotFault) = Ok taken in r) w (λ c r d. SnapshotStep c moment lease r × (d ≡ c)) no_place

abbrev pub Publishing : State → Known → ℕ → List Move → ℕ × Receipt → Known → Type 0
Publishing start v moment step done w =
    Answers start v (let r : Result (ℕ × Receipt) (SharedFault PublishFault) = Ok done in r) w (λ c r d. PublishStep c moment step r d) publish_place

abbrev pub Checking : State → Known → CheckReport → Known → Type 0
Checking start v report w =
    Answers start v (let r : Result CheckReport (SharedFault AllocError) = Ok report in r) w (λ c r d. IfOk r (λ found. IsCheck c found) × (d ≡ c)) no_place

-- an accepted commit, whether its rows accept or refuse it, is one under a recent lease
abbrev pub SharedCommitsAreRecent : Type 0
SharedCommitsAreRecent =
    (start : State) (v w : Known) (moment : ℕ) (prepared : PreparedTxn) (done : Committed) (a : Committing start v moment prepared done w) → IsRecent a.0 prepared.lease

-- so is an answered query
abbrev pub SharedQueriesAreRecent : Type 0
SharedQueriesAreRecent =
    (start : State) (v w : Known) (moment : ℕ) (lease : Lease) (query : Query) (found : List Row) (a : Querying start v moment lease query found w) → IsRecent a.0 lease

-- and a snapshot; whenever it is asked, the rows that it finds are the plain answer over the rows of the log at which it was taken
abbrev pub SharedSnapshotsAreRecent : Type 0
SharedSnapshotsAreRecent = (start : State) (v w : Known) (moment : ℕ) (lease : Lease) (taken : Taken) (a : Taking start v moment lease taken w) → IsRecent a.0 lease

abbrev pub SharedSnapshotsAnswerTheirLog : Type 0
SharedSnapshotsAnswerTheirLog =
    (start : State) (v w : Known) (moment : ℕ) (lease : Lease) (taken : Taken) (query : Query) (found : List Row) (a : Taking start v moment lease taken w)
    → IsSnapshotAnswer taken query (Ok found) → found ≡ plain_answer (visible_rows taken.version (facts_of a.0).rows) query

-- and what a check of it counts is what an audit of that log counts: nothing missing, nothing without a reason, and the rows of the log
abbrev pub SharedSnapshotChecksAreClean : Type 0
SharedSnapshotChecksAreClean =
    (start : State) (v w : Known) (moment : ℕ) (lease : Lease) (taken : Taken) (report : CheckReport) (a : Taking start v moment lease taken w) → IsSnapshotCheck taken report → IsClean a.0 report

-- an audit finds nothing missing and nothing without a reason, and counts the rows of the log
abbrev pub SharedChecksAreClean : Type 0
SharedChecksAreClean = (start : State) (v w : Known) (report : CheckReport) (a : Checking start v report w) → IsClean a.0 report

-- a publication finds the store consistent with the version after it: an element that is public after it had exactly its pairs already, one that
-- is absent after it had none
abbrev pub SharedPublicationsFindConsistent : Type 0
SharedPublicationsFindConsistent =
    (start : State) (v w : Known) (moment : ℕ) (step : List Move) (done : ℕ × Receipt) (a : Publishing start v moment step done w)
    → IsConsistent (facts_of a.1).newest (facts_of a.0).rows a.0.pairs

abbrev pub SharedPublicationsFindExact : Type 0
SharedPublicationsFindExact =
    (start : State) (v w : Known) (moment : ℕ) (step : List Move) (done : ℕ × Receipt) (number : ℕ) (element : ElementDef) (a : Publishing start v moment step done w) → 1 ≤ number
    → element_at (facts_of a.1).newest number ≡ Some element → element.state ≡ Public
    → Exact (within element.table (kind_meaning number (source_in (facts_of a.1).newest element.kind))) a.0.pairs (facts_of a.0).rows

abbrev pub SharedPublicationsFindEmpty : Type 0
SharedPublicationsFindEmpty =
    (start : State) (v w : Known) (moment : ℕ) (step : List Move) (done : ℕ × Receipt) (number : ℕ) (a : Publishing start v moment step done w) → 1 ≤ number
    → state_of (facts_of a.1).newest number ≡ Absent
    → Empty number a.0.pairs
