-- Cited by the contracts of cagzhomul_open, cagzhomul_lease and of what they call.
-- A world that is opened by a code, and a lease of it in a handle of its own.
use Rattle.std.specs.Prelude.{◌≡◌, ℕ, ◌⊎◌, ℤ, List, Option, Some, None, Ok, Err}
use Rattle.typed_calls.specs.Grant.{Grant}
use Rattle.typed_calls.specs.Leases.{LeasesIn, held_by}
use Rattle.typed_calls.specs.Opening.{OpensBounded}
use Rattle.typed_calls.specs.Statuses.{ok, closed, already_open, out_of_memory}
use Rattle.typed_calls.specs.declared.bounded.BoundedWorld.{BoundedWorld}
use Rattle.handles.specs.Handles.{Fills}
use Rattle.handles.specs.declared.engine.Engine.{Engine}
use Rattle.handles.specs.declared.engine.Engine.TheVariants as engine
use Rattle.handles.specs.declared.lease_calls.LeaseOutcome.{LeaseOutcome}

-- ---- open

-- the world that `typed_calls::open` gives, or the status of its refusal
abbrev pub Opens : Option Engine → List ℕ → ℕ → ℤ → Option Engine → Type 0
Opens (Some e) opening furthest status new = (status ≡ already_open) × (new ≡ Some e)
Opens None opening furthest status new =
    ((bounded : BoundedWorld) × OpensBounded opening furthest (Ok bounded) × Fills (engine.World bounded) status new)
    ⊎ (OpensBounded opening furthest (Err status) × (new ≡ None))

-- ---- lease

-- a status alone
abbrev pub lease_alone : ℤ → LeaseOutcome
lease_alone status = record { status = status; version = 0; granted = 0; until = 0; place = 0 }

-- what a grant is reported as
abbrev pub given : Grant → LeaseOutcome
given grant = record { status = ok; version = grant.lease.version; granted = grant.lease.granted; until = grant.lease.until; place = grant.receipt.place }

-- the world grants a lease, which the handle then holds with its schema; or refuses, or memory ran out before it was asked
abbrev pub Grants : BoundedWorld → ℕ → LeaseOutcome → BoundedWorld → Option Engine → Type 0
Grants old moment outcome new lease =
    ((grant : Grant) × LeasesIn old moment (Ok grant) new × (outcome ≡ given grant) × (lease ≡ Some (engine.Lease (held_by grant))))
    ⊎ ((status : ℤ) × LeasesIn old moment (Err status) new × (outcome ≡ lease_alone status) × (lease ≡ None))
    ⊎ ((outcome ≡ lease_alone out_of_memory) × (new ≡ old) × (lease ≡ None))

abbrev pub LeasesInto : Option Engine → ℕ → LeaseOutcome → Option Engine → Option Engine → Type 0
LeasesInto None moment outcome new lease = (outcome ≡ lease_alone closed) × (new ≡ None) × (lease ≡ None)
LeasesInto (Some (engine.World bounded)) moment outcome new lease =
    (it : BoundedWorld) × Grants bounded moment outcome it lease × (new ≡ Some (engine.World it))
LeasesInto (Some other) moment outcome new lease = (outcome ≡ lease_alone closed) × (new ≡ Some other) × (lease ≡ None)

-- into a closed handle
abbrev pub Leases : Option Engine → ℕ → Option Engine → LeaseOutcome → Option Engine → Option Engine → Type 0
Leases old moment (Some e) outcome new lease = (outcome ≡ lease_alone already_open) × (new ≡ old) × (lease ≡ Some e)
Leases old moment None outcome new lease = LeasesInto old moment outcome new lease
