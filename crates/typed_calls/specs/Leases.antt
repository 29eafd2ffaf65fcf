-- Cited by the contracts of lease, held_by and of what they call.
-- A lease that a world grants.
use Rattle.std.specs.Prelude.{◌≡◌, ℕ, ℤ, Result, Ok, Err}
use Rattle.script_session.specs.declared.session.ServerLease.{ServerLease}
use Rattle.script_session.specs.State.{State}
use Rattle.script_session.specs.Calls.{LeaseStep}
use Rattle.script_session.specs.Grant.{Grant}
use Rattle.script_session.specs.GrantFault.{GrantFault}
use Rattle.script_session.specs.GrantFault.TheVariants.{MomentTooLarge, Memory}
use Rattle.typed_calls.specs.Bounded.{Within}
use Rattle.typed_calls.specs.Statuses.{too_far, moment_too_large, out_of_memory}
use Rattle.typed_calls.specs.declared.bounded.BoundedWorld.{BoundedWorld}

abbrev pub grant_status : GrantFault → ℤ
grant_status MomentTooLarge = moment_too_large
grant_status Memory = out_of_memory

-- the lease, with the schema of its version
abbrev pub held_by : Grant → ServerLease
held_by grant = record { lease = grant.lease; schema = grant.schema }

-- the step of `World::lease`, or the status of its refusal
abbrev pub LeasesWorld : State → ℕ → Result Grant ℤ → State → Type 0
LeasesWorld old moment (Ok grant) new = LeaseStep old moment (Ok grant) new
LeasesWorld old moment (Err status) new = (fault : GrantFault) × LeaseStep old moment (Err fault) new × (status ≡ grant_status fault)

abbrev pub LeasesIn : BoundedWorld → ℕ → Result Grant ℤ → BoundedWorld → Type 0
LeasesIn old moment answer new = Within (Err too_far) (λ world a world'. LeasesWorld world moment a world') old moment answer new
