-- Cited by the contracts of cagzhomul_query_page, cagzhomul_snapshot_query_page and of what they call.
-- The rows of a page, by their code, in a handle of their own.
use Rattle.std.specs.Prelude.{◌≡◌, ◌⊎◌, ℕ, ℤ, List, Option, Some, None, Result, Ok, Err, Bool, if◌then◌else◌}
use Rattle.typed_calls.specs.ServerLease.{ServerLease}
use Rattle.typed_calls.specs.Snapshot.{Taken}
use Rattle.typed_calls.specs.Pages.{PagesIn, PagesSnapshot}
use Rattle.typed_calls.specs.Statuses.{ok, closed, already_open, out_of_memory}
use Rattle.typed_calls.specs.declared.bounded.BoundedWorld.{BoundedWorld}
use Rattle.typed_calls.specs.declared.pages.CodedPage.{CodedPage}
use Rattle.typed_calls.specs.declared.queries.QueryOutcome.{QueryOutcome}
use Rattle.handles.specs.declared.engine.Engine.{Engine}
use Rattle.handles.specs.declared.engine.Engine.TheVariants as engine
use Rattle.handles.specs.declared.page_calls.PageOutcome.{PageOutcome}

-- a status alone
abbrev pub page_alone : ℤ → PageOutcome
page_alone status = record { status = status; column = 0; more = 0 }

-- what a refusal is reported as
abbrev pub page_refused : QueryOutcome → PageOutcome
page_refused refusal = record { status = refusal.status; column = refusal.column; more = 0 }

abbrev pub page_kept : Bool → PageOutcome
page_kept more = record { status = ok; column = 0; more = if more then 1 else 0 }

-- the handle, which was closed, holds the code of the rows, unless memory ran out; after a refusal it is closed
abbrev pub KeepsPage : Result CodedPage QueryOutcome → PageOutcome → Option Engine → Type 0
KeepsPage (Ok page) outcome bytes =
    ((outcome ≡ page_kept page.more) × (bytes ≡ Some (engine.Bytes page.rows))) ⊎ ((outcome ≡ page_alone out_of_memory) × (bytes ≡ None))
KeepsPage (Err refusal) outcome bytes = (outcome ≡ page_refused refusal) × (bytes ≡ None)

-- ---- query_page

-- the page that the world answers, or its refusal
abbrev pub PagesInto : BoundedWorld → ℕ → ServerLease → List ℕ → PageOutcome → Option Engine → Type 0
PagesInto bounded moment held asked outcome bytes =
    (answer : Result CodedPage QueryOutcome) × PagesIn bounded moment held.lease asked answer × KeepsPage answer outcome bytes

-- under the lease of a handle
abbrev pub PagesUnder : BoundedWorld → ℕ → Option Engine → List ℕ → PageOutcome → Option Engine → Type 0
PagesUnder bounded moment None asked outcome bytes = (outcome ≡ page_alone closed) × (bytes ≡ None)
PagesUnder bounded moment (Some (engine.Lease held)) asked outcome bytes = PagesInto bounded moment held asked outcome bytes
PagesUnder bounded moment (Some other) asked outcome bytes = (outcome ≡ page_alone closed) × (bytes ≡ None)

abbrev pub PagesOf : Option Engine → ℕ → Option Engine → List ℕ → PageOutcome → Option Engine → Type 0
PagesOf None moment lease asked outcome bytes = (outcome ≡ page_alone closed) × (bytes ≡ None)
PagesOf (Some (engine.World bounded)) moment lease asked outcome bytes = PagesUnder bounded moment lease asked outcome bytes
PagesOf (Some other) moment lease asked outcome bytes = (outcome ≡ page_alone closed) × (bytes ≡ None)

-- into a closed handle
abbrev pub Pages : Option Engine → ℕ → Option Engine → List ℕ → Option Engine → PageOutcome → Option Engine → Type 0
Pages world moment lease asked (Some e) outcome bytes = (outcome ≡ page_alone already_open) × (bytes ≡ Some e)
Pages world moment lease asked None outcome bytes = PagesOf world moment lease asked outcome bytes

-- ---- query_page_snapshot

-- the page that a snapshot answers, or its refusal
abbrev pub PageTakenInto : Taken → List ℕ → PageOutcome → Option Engine → Type 0
PageTakenInto taken asked outcome bytes =
    (answer : Result CodedPage QueryOutcome) × PagesSnapshot taken asked answer × KeepsPage answer outcome bytes

abbrev pub PageTakenOf : Option Engine → List ℕ → PageOutcome → Option Engine → Type 0
PageTakenOf None asked outcome bytes = (outcome ≡ page_alone closed) × (bytes ≡ None)
PageTakenOf (Some (engine.Snapshot taken)) asked outcome bytes = PageTakenInto taken asked outcome bytes
PageTakenOf (Some other) asked outcome bytes = (outcome ≡ page_alone closed) × (bytes ≡ None)

-- into a closed handle
abbrev pub SnapshotPages : Option Engine → List ℕ → Option Engine → PageOutcome → Option Engine → Type 0
SnapshotPages snapshot asked (Some e) outcome bytes = (outcome ≡ page_alone already_open) × (bytes ≡ Some e)
SnapshotPages snapshot asked None outcome bytes = PageTakenOf snapshot asked outcome bytes
