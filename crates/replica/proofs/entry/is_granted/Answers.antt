use Rattle.std.proofs.Common.{◌≡◌, false, true, Result, Ok, Err, sym, ◌∙◌, inl, inr}
use Rattle.lease.specs.Timeline.{max_moment}
use Rattle.world.specs.declared.grant.GrantFault.TheVariants as grant_fault
use Rattle.replica.proofs.Options.{order}
use Rattle.replica.proofs.entry.is_granted.Goals as goal

not_true : {A : Type 0} → false ≡ true → A
not_true e = absurd cc

not_ok : {A E B : Type 0} {e : E} {v : A} → (let r : Result A E = Err e in r) ≡ Ok v → B
not_ok e = absurd cc

pub returns-in-Err : goal.returns-in-Err
returns-in-Err c = (
  λ e. not_true e,
  λ due. elim (order c.args.now max_moment) [
    | inl le ↦ not_ok (sym c.in-Err.is ∙ c.grant.ensures.granted le)
    | inr gt ↦ absurd (due.0 grant_fault.MomentTooLarge gt)
  ],
)
