-- A lease that nothing stands against is on one of the last two versions.
use Rattle.std.proofs.Common.{ℕ, ◌+◌, refl, inl, inr, arith}
use Rattle.element_state.proofs.Whole.{number_one}
use Rattle.lease.specs.declared.lease.Lease.{Lease}
use Rattle.lease.specs.Timeline.{Timeline, IsHonest, IsInForce, IsLastTwo, newest}
use Rattle.lease.proofs.Uses.{usable_last}
use Rattle.world.specs.declared.committed.Committed.TheVariants as committed
use Rattle.world.specs.declared.commit.CommitFault.TheVariants as commit_fault
use Rattle.world.specs.declared.query.QueryRefusal.TheVariants as refusal
use Rattle.world.specs.State.{State, facts_of}
use Rattle.world_laws.specs.Recent.{IsPublishedBy, CommitsAreRecent, QueriesAreRecent}

-- whether a version is one of the last two can be decided
last_two : (line : Timeline) (version : ℕ) → ¬ (¬ (IsLastTwo line version)) → IsLastTwo line version
last_two line version some = elim (number_one version (newest line)) [
  | inl same ↦ inl same
  | inr other ↦ elim (number_one (version + 1) (newest line)) [
    | inl next ↦ elim (number_one version 0) [
      | inl zero_is ↦ absurd (some (λ l. elim l [ inl same ↦ other same | inr before ↦ absurd (omega (arith, zero_is, before.0)) ]))
      | inr above ↦ inr (omega (arith, above), next)
    ]
    | inr older ↦ absurd (some (λ l. elim l [ inl same ↦ other same | inr before ↦ older before.1 ]))
  ]
]

pub lease_recent : (s : State) (now : ℕ) (lease : Lease) → IsPublishedBy s now → ¬ (¬ (IsHonest (facts_of s).line now lease)) → ¬ (¬ (IsInForce lease now)) → IsLastTwo (facts_of s).line lease.version
lease_recent s now lease by honest in_force =
    last_two (facts_of s).line lease.version (λ none. honest (λ h. in_force (λ f. none (usable_last (facts_of s).line lease.version now by.valid by.past (lease, refl, h, f)))))

pub commits_recent : CommitsAreRecent
commits_recent old new now prepared (committed.Done receipt) by step =
    lease_recent old now prepared.lease by (λ h. step.0 commit_fault.BadLease h) (λ f. step.0 (commit_fault.LeaseEnded prepared.lease.until now) (refl, refl, f))
commits_recent old new now prepared (committed.Refused op why) by step =
    lease_recent old now prepared.lease by (λ h. step.0 commit_fault.BadLease h) (λ f. step.0 (commit_fault.LeaseEnded prepared.lease.until now) (refl, refl, f))

pub queries_recent : QueriesAreRecent
queries_recent old now lease query found by step =
    lease_recent old now lease by (λ h. step.0 refusal.BadLease h) (λ f. step.0 (refusal.LeaseEnded lease.until now) (refl, refl, f))
