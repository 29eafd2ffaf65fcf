use Rattle.std.proofs.Common.{◌≡◌, ℤ, Some, inl, inr, ap, arith, ◌∙◌}
use Rattle.std.proofs.lemmas.Int.{to_z-of_z}
use Rattle.handles.specs.Leases.{lease_alone}
use Rattle.handles.specs.declared.lease_calls.LeaseOutcome.{LeaseOutcome}
use Rattle.handles.specs.declared.engine.Engine.{Engine}
use Rattle.handles.specs.declared.engine.Engine.TheVariants as engine
use Rattle.handles.proofs.lease_calls.lease_into.Goals as goal

pub returns-in-Ok-lease : goal.returns-in-Ok-lease
returns-in-Ok-lease c =
    inl (
      c.in-Ok-lease.grant,
      c.in-Ok-lease.ensures,
      c.given-outcome.ensures,
      c.put.ensures ∙ ap (λ (x : Engine). Some x) (c.filled.ensures ∙ ap engine.Lease c.held_by.ensures),
    )

-- what is reported of a status that is handed on
of_status : (outcome : LeaseOutcome) (given status : ℤ) → given ≡ status → outcome ≡ lease_alone given → outcome ≡ lease_alone status
of_status outcome given status same is = is ∙ ap lease_alone same

pub returns-in-Err : goal.returns-in-Err
returns-in-Err c =
    inr (inl (c.in-Err.status, c.in-Err.ensures, of_status c.of-in-Err.result _ c.in-Err.status (grind (arith, to_z-of_z)) c.of-in-Err.ensures, c.requires))
