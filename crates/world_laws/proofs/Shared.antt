-- What is answered through the lock is answered by a core of which the laws hold.
use Rattle.std.proofs.Common.{ℕ, ◌≤◌, List, Ok, arith}
use Rattle.lease.specs.Timeline.{last_publication}
use Rattle.schema_version.specs.declared.step.Move.{Move}
use Rattle.world.specs.declared.entry.Receipt.{Receipt}
use Rattle.world.specs.Calls.{effective_moment}
use Rattle.world.specs.State.{State, facts_of}
use Rattle.locked_store.specs.Cores.{IsCore}
use Rattle.locked_store.specs.Known.{Known}
use Rattle.world_laws.specs.Clean.{IsWorldState}
use Rattle.world_laws.specs.Found.{IsPublication}
use Rattle.world_laws.specs.Recent.{IsPublishedBy}
use Rattle.world_laws.specs.Shared.{
  Publishing,
  SharedCommitsAreRecent,
  SharedQueriesAreRecent,
  SharedSnapshotsAreRecent,
  SharedSnapshotsAnswerTheirLog,
  SharedChecksAreClean,
  SharedSnapshotChecksAreClean,
  SharedPublicationsFindConsistent,
  SharedPublicationsFindExact,
  SharedPublicationsFindEmpty,
}
use Rattle.world_laws.proofs.Clean.{checks_clean}
use Rattle.world_laws.proofs.Found.{finds_consistent, finds_exact, finds_empty}
use Rattle.world_laws.proofs.Recent.{commits_recent, queries_recent}
use Rattle.world_laws.proofs.Snapshots.{answer_their_log, check_their_log, snapshots_recent}

published : (start : State) (core : State) (moment : ℕ) → IsCore start core → IsPublishedBy core (effective_moment core moment)
published start core moment is = record { valid = is.kept.valid; past = omega (arith, is.kept.since); counted = is.kept.counted }

world_state : (start : State) (core : State) → IsCore start core → IsWorldState core
world_state start core is = record { published = record { valid = is.kept.valid; past = is.kept.since; counted = is.kept.counted }; sound = is.kept.sound; agrees = is.agrees }

publication : (start : State) (v w : Known) (moment : ℕ) (step : List Move) (done : ℕ × Receipt) (a : Publishing start v moment step done w) → IsPublication a.0 (effective_moment a.0 moment) step a.1
publication start v w moment step done a = record { done = done; accepted = a.2.3; valid = a.2.1.kept.valid; counted = a.2.1.kept.counted; agrees = a.2.1.agrees }

pub shared_commits_recent : SharedCommitsAreRecent
shared_commits_recent start v w moment prepared done a = commits_recent a.0 a.1 (effective_moment a.0 moment) prepared done (published start a.0 moment a.2.0) a.2.3

pub shared_queries_recent : SharedQueriesAreRecent
shared_queries_recent start v w moment lease query found a = queries_recent a.0 (effective_moment a.0 moment) lease query found (published start a.0 moment a.2.0) a.2.3.0

pub shared_snapshots_recent : SharedSnapshotsAreRecent
shared_snapshots_recent start v w moment lease taken a = snapshots_recent a.0 (effective_moment a.0 moment) lease taken (published start a.0 moment a.2.0) a.2.3.0

pub shared_snapshots_answer : SharedSnapshotsAnswerTheirLog
shared_snapshots_answer start v w moment lease taken query found a is = answer_their_log a.0 (effective_moment a.0 moment) lease taken query found a.2.3.0 is

pub shared_checks_clean : SharedChecksAreClean
shared_checks_clean start v w report a = checks_clean a.0 report (world_state start a.0 a.2.0) a.2.3.0

pub shared_snapshot_checks_clean : SharedSnapshotChecksAreClean
shared_snapshot_checks_clean start v w moment lease taken report a is =
    checks_clean a.0 report (world_state start a.0 a.2.0) (check_their_log a.0 (effective_moment a.0 moment) lease taken report a.2.3.0 is)

pub shared_publications_consistent : SharedPublicationsFindConsistent
shared_publications_consistent start v w moment step done a = finds_consistent a.0 a.1 (effective_moment a.0 moment) step (publication start v w moment step done a)

pub shared_publications_exact : SharedPublicationsFindExact
shared_publications_exact start v w moment step done number element a above at public =
    finds_exact a.0 a.1 (effective_moment a.0 moment) step number element (publication start v w moment step done a) above at public

pub shared_publications_empty : SharedPublicationsFindEmpty
shared_publications_empty start v w moment step done number a above is = finds_empty a.0 a.1 (effective_moment a.0 moment) step number (publication start v w moment step done a) above is
