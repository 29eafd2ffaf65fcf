-- Each answer of a snapshot under a lease, and what it says of the state.
use Rattle.std.proofs.Common.{◌≡◌, ℕ, ◌<◌, ◌≤◌, ◌⊎◌, List, Result, Ok, Err, refl, sym, ap, subst, ◌∙◌, inl, inr, arith}
use Rattle.std.specs.Prelude.{IfOk, IfErr, OnOk}
use Rattle.collections.specs.Refusal.{IsClear, IsFirst}
use Rattle.lease.specs.declared.lease.Lease.{Lease}
use Rattle.lease.specs.declared.fault.LeaseFault.{LeaseFault}
use Rattle.lease.specs.declared.fault.LeaseFault.TheVariants as lease_fault
use Rattle.lease.specs.Refusals.{Serves, Condition as LeaseCondition, rank as lease_rank}
use Rattle.lease.specs.Timeline.{Timeline}
use Rattle.row_map.specs.declared.shape.Row.{Row}
use Rattle.row_map.specs.Rows.{Pairs, Rows}
use Rattle.row_query.specs.declared.fault.QueryFault.{QueryFault}
use Rattle.row_query.specs.declared.fault.QueryFault.TheVariants.{Memory}
use Rattle.row_query.specs.declared.query.Query.{Query}
use Rattle.row_query.specs.Answer.{plain_answer}
use Rattle.row_query.specs.Refused.{IsRefused, IsSound}
use Rattle.element_state.specs.Consistent.{IsConsistent}
use Rattle.element_state.specs.Visible.{visible_rows}
use Rattle.schema_version.specs.Version.{Version}
use Rattle.replay.specs.Laws.{LeasesKeep, KeptAgrees}
use Rattle.world.specs.declared.snapshot.SnapshotFault.{SnapshotFault}
use Rattle.world.specs.declared.snapshot.SnapshotFault.TheVariants as snapshot_fault
use Rattle.world.specs.declared.world.World.TheInside.{Inside}
use Rattle.world.specs.Calls.{effective_moment}
use Rattle.world.specs.Inside.{state_of, IsHeld}
use Rattle.world.specs.Snapshot.{Taken, IsSnapshotAnswer, snapshot_rank, SnapshotCondition, SnapshotAt, SnapshotStep}
use Rattle.world.specs.State.{State, facts_of}
use Rattle.world.specs.Faults.{snapshot_reported}
use Rattle.world.proofs.Invariant.{follow_of}
use Rattle.world.proofs.Queries.{IsServed, consistent_held}

-- ---- a lease that does not serve

lease_lower : (s : State) (now : ℕ) (lease : Lease) (rank : ℕ) → rank ≤ 3 → ((other : LeaseFault) → lease_rank other < rank → ¬ (LeaseCondition (facts_of s).line lease now other))
    → (other : SnapshotFault) → snapshot_rank other < rank → ¬ (SnapshotCondition s now lease other)
lease_lower s now lease rank le none snapshot_fault.MomentTooLarge lt = none lease_fault.MomentTooLarge lt
lease_lower s now lease rank le none snapshot_fault.BadLease lt = none lease_fault.BadLease lt
lease_lower s now lease rank le none (snapshot_fault.LeaseEnded until counted_at) lt = none (lease_fault.LeaseEnded until counted_at) lt
lease_lower s now lease rank le none snapshot_fault.Memory lt = λ x. x

unserved_at : (s : State) (now : ℕ) (lease : Lease) (fault : LeaseFault) → IsFirst lease_rank (LeaseCondition (facts_of s).line lease now) fault → SnapshotAt s now lease (Err (snapshot_reported fault))
unserved_at s now lease lease_fault.MomentTooLarge first = (inr first.0, lease_lower s now lease 1 (omega arith) first.1)
unserved_at s now lease lease_fault.BadLease first = (inr first.0, lease_lower s now lease 2 (omega arith) first.1)
unserved_at s now lease (lease_fault.LeaseEnded until at) first = (inr first.0, lease_lower s now lease 3 (omega arith) first.1)

pub snapshot_unserved : (f : Inside) (s : State) (moment now : ℕ) (lease : Lease) (fault : LeaseFault) (as_reported : SnapshotFault) → IsHeld f → state_of f ≡ s → now ≡ effective_moment s moment
    → IsFirst lease_rank (LeaseCondition f.line lease now) fault → as_reported ≡ snapshot_reported fault → SnapshotStep s moment lease (Err as_reported)
snapshot_unserved f s moment now lease fault as_reported h view counted_at first is =
    let on_line : IsFirst lease_rank (LeaseCondition (facts_of s).line lease now) fault = subst (λ (l : Timeline). IsFirst lease_rank (LeaseCondition l lease now) fault) ((follow_of f s h view).line) first in
    subst (λ (r : SnapshotFault). SnapshotStep s moment lease (Err r)) (sym is)
    (subst (λ (n : ℕ). SnapshotAt s n lease (Err (snapshot_reported fault))) counted_at (unserved_at s now lease fault on_line))

-- ---- a lease that serves

served_clear : (s : State) (now : ℕ) (lease : Lease) → Serves (facts_of s).line lease now → IsClear (SnapshotCondition s now lease)
served_clear s now lease v snapshot_fault.MomentTooLarge = λ c. absurd (omega (arith, v.moment, c))
served_clear s now lease v snapshot_fault.BadLease = λ none. none v.honest
served_clear s now lease v (snapshot_fault.LeaseEnded until counted_at) = λ c. c.2 v.in_force
served_clear s now lease v snapshot_fault.Memory = λ x. x

-- memory ran out
pub snapshot_short : (f : Inside) (s : State) (moment now : ℕ) (lease : Lease) (schema : Version) (as_reported : SnapshotFault) → IsServed f s moment now lease schema → as_reported ≡ snapshot_fault.Memory → SnapshotStep s moment lease (Err as_reported)
snapshot_short f s moment now lease schema as_reported v is =
    subst (λ (r : SnapshotFault). SnapshotStep s moment lease (Err r)) (sym is)
    (subst (λ (n : ℕ). SnapshotAt s n lease (Err snapshot_fault.Memory)) v.counts (inl refl, λ other lt. served_clear s now lease v.serves other))

pub snapshot_taken : (f : Inside) (s : State) (moment now : ℕ) (lease : Lease) (schema newest : Version) (pairs : Pairs) → LeasesKeep → KeptAgrees → IsServed f s moment now lease schema → newest ≡ f.newest → pairs ≡ f.store
    → SnapshotStep s moment lease (Ok (record { version = schema; newest = newest; pairs = pairs }))
snapshot_taken f s moment now lease schema newest pairs goes agrees v is_newest same =
    subst (λ (n : ℕ). SnapshotAt s n lease (Ok (record { version = schema; newest = newest; pairs = pairs }))) v.counts (
      served_clear s now lease v.serves,
      record {
        version = v.schema_is;
        newest = is_newest ∙ (follow_of f s v.held v.view).newest;
        pairs = same ∙ ap (λ (x : State). x.pairs) v.view;
        consistent = subst (λ (p : Pairs). IsConsistent schema (facts_of s).rows p) (sym same) (consistent_held f s moment now lease schema goes agrees v);
      },
    )

-- ---- what a snapshot answers

pub is_answer : (taken : Taken) (query : Query) (answer : Result (List Row) QueryFault)
    → IfErr answer (λ fault. ((fault ≡ Memory) × IsSound taken.version query) ⊎ IsRefused taken.version query fault)
    → OnOk answer (IsSound taken.version query)
    → ((rows : Rows) → IsConsistent taken.version rows taken.pairs → IfOk answer (λ found. found ≡ plain_answer (visible_rows taken.version rows) query))
    → IsSnapshotAnswer taken query answer
is_answer taken query (Ok found) refused clear rows = (clear, rows)
is_answer taken query (Err fault) refused clear rows = refused
