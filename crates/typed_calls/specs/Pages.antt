-- Cited by the contracts of query_page, query_page_snapshot and of what they call.
-- Pages of queries by the code of their request, of a world under a lease and of a snapshot.
use Rattle.std.specs.Prelude.{◌≡◌, ℕ, ◌⊎◌, List, Result, Ok, Err}
use Rattle.entry_code.specs.Code.{rows_code}
use Rattle.keycode.specs.Valid.{IsStorable}
use Rattle.lease.specs.declared.lease.Lease.{Lease}
use Rattle.page_code.specs.Code.{request_code, IsRequest}
use Rattle.page_code.specs.declared.request.PageRequest.{PageRequest}
use Rattle.row_page.specs.declared.fault.PageFault.{PageFault}
use Rattle.row_page.specs.declared.fault.PageFault.TheVariants as fault
use Rattle.row_page.specs.declared.page.RowPage.{RowPage}
use Rattle.script_session.specs.Snapshot.{Taken}
use Rattle.script_session.specs.State.{State}
use Rattle.world.specs.Page.{PageStep, IsSnapshotPage}
use Rattle.world.specs.declared.page.PageRefusal.{PageRefusal}
use Rattle.world.specs.declared.page.PageRefusal.TheVariants as refusal
use Rattle.typed_calls.specs.Queries.{query_alone, fault_outcome}
use Rattle.typed_calls.specs.Bounded.{SeenWithin, IsNoCode}
use Rattle.typed_calls.specs.Statuses.{bad_code, bad_count, bad_lease, lease_ended, moment_too_large, out_of_memory, too_far}
use Rattle.typed_calls.specs.declared.bounded.BoundedWorld.{BoundedWorld}
use Rattle.typed_calls.specs.declared.pages.CodedPage.{CodedPage}
use Rattle.typed_calls.specs.declared.queries.QueryOutcome.{QueryOutcome}

-- what a fault of the page is reported as
abbrev pub page_fault : PageFault → QueryOutcome
page_fault fault.BadLimit = query_alone bad_count
page_fault (fault.Query faulty) = fault_outcome faulty

-- what a refusal is reported as
abbrev pub page_refusal : PageRefusal → QueryOutcome
page_refusal refusal.MomentTooLarge = query_alone moment_too_large
page_refusal refusal.BadLease = query_alone bad_lease
page_refusal (refusal.LeaseEnded until now) = query_alone lease_ended
page_refusal (refusal.Page faulty) = page_fault faulty

-- the bytes are the code of a request, which is answered or refused; or of none, or memory ran out before they were read
abbrev pub AnswersRequest : (PageRequest → Result CodedPage QueryOutcome → Type 0) → List ℕ → Result CodedPage QueryOutcome → Type 0
AnswersRequest Answers code answer =
    ((answer ≡ Err (query_alone bad_code)) × IsNoCode (IsRequest IsStorable) request_code code)
    ⊎ (answer ≡ Err (query_alone out_of_memory))
    ⊎ ((asked : PageRequest) × IsRequest IsStorable asked × (code ≡ request_code asked) × Answers asked answer)

abbrev pub coded_page : RowPage → CodedPage
coded_page page = record { rows = rows_code page.rows; more = page.more }

-- the code of the page, unless memory ran out
abbrev pub IsCoded : RowPage → Result CodedPage QueryOutcome → Type 0
IsCoded page (Ok coded) = coded ≡ coded_page page
IsCoded page (Err outcome) = outcome ≡ query_alone out_of_memory

-- the page that `World::query_page` answers, or what its refusal is reported as
abbrev pub PagesWorld : State → ℕ → Lease → PageRequest → Result CodedPage QueryOutcome → Type 0
PagesWorld world moment lease asked (Ok coded) = (page : RowPage) × PageStep world moment lease asked.query asked.range asked.limit (Ok page) × (coded ≡ coded_page page)
PagesWorld world moment lease asked (Err outcome) =
    (outcome ≡ query_alone out_of_memory)
    ⊎ ((fault : PageRefusal) × PageStep world moment lease asked.query asked.range asked.limit (Err fault) × (outcome ≡ page_refusal fault))

abbrev pub PagesIn : BoundedWorld → ℕ → Lease → List ℕ → Result CodedPage QueryOutcome → Type 0
PagesIn bounded moment lease code answer =
    SeenWithin (Err (query_alone too_far)) (λ world a. AnswersRequest (PagesWorld world moment lease) code a) bounded moment answer

-- the same of a snapshot's
abbrev pub PagesTaken : Taken → PageRequest → Result CodedPage QueryOutcome → Type 0
PagesTaken taken asked (Ok coded) = (page : RowPage) × IsSnapshotPage taken asked.query asked.range asked.limit (Ok page) × (coded ≡ coded_page page)
PagesTaken taken asked (Err outcome) =
    (outcome ≡ query_alone out_of_memory)
    ⊎ ((fault : PageFault) × IsSnapshotPage taken asked.query asked.range asked.limit (Err fault) × (outcome ≡ page_fault fault))

abbrev pub PagesSnapshot : Taken → List ℕ → Result CodedPage QueryOutcome → Type 0
PagesSnapshot taken code answer = AnswersRequest (PagesTaken taken) code answer
