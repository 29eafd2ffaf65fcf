-- Each answer of a page under a lease, and what it says of the state.
use Rattle.std.proofs.Common.{◌≡◌, ℕ, ◌+◌, ◌<◌, ◌≤◌, Some, Result, Ok, Err, sym, ap, subst, ◌∙◌, inl, inr, arith}
use Rattle.std.specs.Prelude.{IfOk, IfErr, OnOk}
use Rattle.collections.specs.Refusal.{IsClear, IsFirst, IsRefusal}
use Rattle.lease.specs.declared.lease.Lease.{Lease}
use Rattle.lease.specs.declared.fault.LeaseFault.{LeaseFault}
use Rattle.lease.specs.declared.fault.LeaseFault.TheVariants as lease_fault
use Rattle.lease.specs.Refusals.{Serves, Condition as LeaseCondition, rank as lease_rank}
use Rattle.lease.specs.Timeline.{Timeline}
use Rattle.row_map.specs.Rows.{Rows}
use Rattle.element_state.specs.Consistent.{IsConsistent}
use Rattle.element_state.specs.Visible.{visible_rows}
use Rattle.row_page.specs.Page.{page_of, rows_within}
use Rattle.row_page.specs.Refused.{page_rank, PageCondition}
use Rattle.row_page.specs.declared.fault.PageFault.{PageFault}
use Rattle.row_page.specs.declared.fault.PageFault.TheVariants.{Query as Faulty}
use Rattle.row_page.specs.declared.page.RowPage.{RowPage}
use Rattle.row_page.specs.declared.range.KeyRange.{KeyRange}
use Rattle.row_query.specs.Answer.{plain_answer}
use Rattle.row_query.specs.declared.fault.QueryFault.TheVariants.{Memory}
use Rattle.row_query.specs.declared.query.Query.{Query as Asked}
use Rattle.schema_version.specs.Version.{Version}
use Rattle.schema_version.proofs.Lists.{some_same}
use Rattle.replay.specs.Laws.{LeasesKeep, KeptAgrees}
use Rattle.replay.specs.Replay.{version_at}
use Rattle.world.specs.Calls.{effective_moment}
use Rattle.world.specs.Inside.{state_of, IsHeld}
use Rattle.world.specs.Page.{lease_reported, refusal_rank, RefusalCondition, PageAt, PageStep, IsSnapshotPage}
use Rattle.world.specs.Snapshot.{Taken}
use Rattle.world.specs.State.{State, facts_of}
use Rattle.world.specs.declared.page.PageRefusal.{PageRefusal}
use Rattle.world.specs.declared.page.PageRefusal.TheVariants as refusal
use Rattle.world.specs.declared.world.World.TheInside.{Inside}
use Rattle.world.proofs.Invariant.{follow_of}
use Rattle.world.proofs.Queries.{IsServed, consistent_held}

module _ (s : State) (now : ℕ) (lease : Lease) (query : Asked) (range : KeyRange) (limit : ℕ) where
  abbrev Condition : PageRefusal → Type 0
  Condition = RefusalCondition s now lease query range limit

  abbrev At : Result RowPage PageRefusal → Type 0
  At = PageAt s now lease query range limit

  -- ---- a lease that does not serve

  lease_lower : (rank : ℕ) → rank ≤ 3 → ((other : LeaseFault) → lease_rank other < rank → ¬ (LeaseCondition (facts_of s).line lease now other)) → (other : PageRefusal) → refusal_rank other < rank → ¬ (Condition other)
  lease_lower rank le none refusal.MomentTooLarge lt = none lease_fault.MomentTooLarge lt
  lease_lower rank le none refusal.BadLease lt = none lease_fault.BadLease lt
  lease_lower rank le none (refusal.LeaseEnded until at) lt = none (lease_fault.LeaseEnded until at) lt
  lease_lower rank le none (refusal.Page fault) lt = λ c. absurd (omega (arith, lt, le))

  unserved_at : (fault : LeaseFault) → IsFirst lease_rank (LeaseCondition (facts_of s).line lease now) fault → At (Err (lease_reported fault))
  unserved_at lease_fault.MomentTooLarge first = (inr first.0, lease_lower 1 (omega arith) first.1)
  unserved_at lease_fault.BadLease first = (inr first.0, lease_lower 2 (omega arith) first.1)
  unserved_at (lease_fault.LeaseEnded until at) first = (inr first.0, lease_lower 3 (omega arith) first.1)

  -- ---- a lease that serves

  module _ (serves : Serves (facts_of s).line lease now) (version : Version) (at : version_at (facts_of s) lease.version ≡ Some version) where
    -- the condition of a page under the version of the lease
    of_version : (fault : PageFault) → Condition (refusal.Page fault) → PageCondition version query range limit fault
    of_version fault (other, is, c) = subst (λ v. PageCondition v query range limit fault) (some_same (sym is ∙ at)) c

    served_lower : (rank : ℕ) → ((other : PageFault) → page_rank other < rank → ¬ (PageCondition version query range limit other)) → (other : PageRefusal) → refusal_rank other < 4 + rank → ¬ (Condition other)
    served_lower rank none refusal.MomentTooLarge lt = λ c. absurd (omega (arith, serves.moment, c))
    served_lower rank none refusal.BadLease lt = λ c. c serves.honest
    served_lower rank none (refusal.LeaseEnded until counted) lt = λ c. c.2 serves.in_force
    served_lower rank none (refusal.Page fault) lt = λ c. none fault (omega (arith, lt)) (of_version fault c)

    clear_at : IsClear (PageCondition version query range limit) → IsClear Condition
    clear_at none refusal.MomentTooLarge = λ c. absurd (omega (arith, serves.moment, c))
    clear_at none refusal.BadLease = λ c. c serves.honest
    clear_at none (refusal.LeaseEnded until counted) = λ c. c.2 serves.in_force
    clear_at none (refusal.Page fault) = λ c. none fault (of_version fault c)

    faulty_at : (fault : PageFault) → IsRefusal page_rank (PageCondition version query range limit) (Faulty Memory) fault → At (Err (refusal.Page fault))
    faulty_at fault is = (elim is.0 [ inl short ↦ inl (ap refusal.Page short) | inr c ↦ inr (version, at, c) ], served_lower (page_rank fault) is.1)

-- ---- in the words of the call

pub page_unserved : (f : Inside) (s : State) (moment now : ℕ) (lease : Lease) (query : Asked) (range : KeyRange) (limit : ℕ) (fault : LeaseFault) (as_reported : PageRefusal) → IsHeld f → state_of f ≡ s → now ≡ effective_moment s moment
    → IsFirst lease_rank (LeaseCondition f.line lease now) fault → as_reported ≡ lease_reported fault → PageStep s moment lease query range limit (Err as_reported)
page_unserved f s moment now lease query range limit fault as_reported h view counted_at first is =
    let on_line : IsFirst lease_rank (LeaseCondition (facts_of s).line lease now) fault = subst (λ (l : Timeline). IsFirst lease_rank (LeaseCondition l lease now) fault) ((follow_of f s h view).line) first in
    subst (λ (r : PageRefusal). PageStep s moment lease query range limit (Err r)) (sym is)
    (subst (λ (n : ℕ). PageAt s n lease query range limit (Err (lease_reported fault))) counted_at (unserved_at s now lease query range limit fault on_line))

pub page_faulty : (f : Inside) (s : State) (moment now : ℕ) (lease : Lease) (query : Asked) (range : KeyRange) (limit : ℕ) (schema : Version) (fault : PageFault) (as_reported : PageRefusal) → IsServed f s moment now lease schema
    → IsRefusal page_rank (PageCondition schema query range limit) (Faulty Memory) fault → as_reported ≡ refusal.Page fault → PageStep s moment lease query range limit (Err as_reported)
page_faulty f s moment now lease query range limit schema fault as_reported v is reported =
    subst (λ (r : PageRefusal). PageStep s moment lease query range limit (Err r)) (sym reported)
    (subst (λ (n : ℕ). PageAt s n lease query range limit (Err (refusal.Page fault))) v.counts (faulty_at s now lease query range limit v.serves schema v.schema_is fault is))

pub page_answered : (f : Inside) (s : State) (moment now : ℕ) (lease : Lease) (query : Asked) (range : KeyRange) (limit : ℕ) (schema : Version) (page : RowPage) → LeasesKeep → KeptAgrees → IsServed f s moment now lease schema → IsClear (PageCondition schema query range limit)
    → ((rows : Rows) → IsConsistent schema rows f.store → page ≡ page_of limit (rows_within range (plain_answer (visible_rows schema rows) query))) → PageStep s moment lease query range limit (Ok page)
page_answered f s moment now lease query range limit schema page goes agrees v none answers =
    subst (λ (n : ℕ). PageAt s n lease query range limit (Ok page)) v.counts
    (clear_at s now lease query range limit v.serves schema v.schema_is none, (schema, v.schema_is, answers (facts_of s).rows (consistent_held f s moment now lease schema goes agrees v)))

-- ---- a page of a snapshot

pub is_page : (taken : Taken) (query : Asked) (range : KeyRange) (limit : ℕ) (answer : Result RowPage PageFault)
    → IfErr answer (λ fault. IsRefusal page_rank (PageCondition taken.version query range limit) (Faulty Memory) fault)
    → OnOk answer (IsClear (PageCondition taken.version query range limit))
    → ((rows : Rows) → IsConsistent taken.version rows taken.pairs → IfOk answer (λ page. page ≡ page_of limit (rows_within range (plain_answer (visible_rows taken.version rows) query))))
    → IsSnapshotPage taken query range limit answer
is_page taken query range limit (Ok page) refused clear rows = (clear, rows)
is_page taken query range limit (Err fault) refused clear rows = refused
