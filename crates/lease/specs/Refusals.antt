-- Cited by the contracts of Timeline::grant, Timeline::standing.
-- When a lease is refused.
use Rattle.std.specs.Prelude.{◌≡◌, ℕ, ◌<◌, ◌≤◌}
use Rattle.lease.specs.declared.lease.Lease.{Lease}
use Rattle.lease.specs.declared.fault.LeaseFault.{LeaseFault}
use Rattle.lease.specs.declared.fault.LeaseFault.TheVariants.{MomentTooLarge, BadLease, LeaseEnded}
use Rattle.lease.specs.Timeline.{Timeline, IsHonest, IsInForce, max_moment}

-- the order of the refusals
abbrev pub rank : LeaseFault → ℕ
rank MomentTooLarge = 1
rank BadLease = 2
rank (LeaseEnded until now) = 3

-- why a lease doesn't serve at a moment
abbrev pub Condition : Timeline → Lease → ℕ → LeaseFault → Type 0
Condition line lease now MomentTooLarge = max_moment < now
Condition line lease now BadLease = ¬ (IsHonest line now lease)
Condition line lease now (LeaseEnded until counted) = (until ≡ lease.until) × (counted ≡ now) × (¬ (IsInForce lease now))

-- the lease serves: the moment is within the limit, the lease is honest and in force
pub record Serves (line : Timeline) (lease : Lease) (now : ℕ) : Type 0 where
  pub moment : now ≤ max_moment
  pub honest : IsHonest line now lease
  pub in_force : IsInForce lease now
