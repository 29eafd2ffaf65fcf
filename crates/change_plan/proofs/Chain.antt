-- The lowest fault that holds, by tests.
use Rattle.std.proofs.Common.{◌≡◌, ◌<◌, Bool, true, false, Ok, Err, refl, arith}
use Rattle.std.specs.Bool.{Decides}
use Rattle.collections.specs.Refusal.{IsFirst}
use Rattle.change_plan.specs.declared.fault.PlanFault.{PlanFault}
use Rattle.change_plan.specs.declared.fault.PlanFault.TheVariants.{Unknown, NameTaken, StillIndexed, InChange, Limit, Memory}
use Rattle.change_plan.specs.Refusals.{rank}
use Rattle.change_plan.specs.inner.Checks.{Answer, first_fault}

-- the tests decide the conditions of the faults
pub record AreTests (C : PlanFault → Type 0) (u t i m o : Bool) : Type 0 where
  pub unknown : Decides u (C Unknown)
  pub taken : Decides t (C NameTaken)
  pub indexed : Decides i (C StillIndexed)
  pub moving : Decides m (C InChange)
  pub over : Decides o (C Limit)
  pub memory : ¬ (C Memory)

-- what an answer says of the faults
abbrev pub Says : (PlanFault → Type 0) → Answer → Type 0
Says C (Ok done) = (fault : PlanFault) → ¬ (C fault)
Says C (Err fault) = IsFirst rank C fault

refuted : {P : Type 0} → Decides false P → ¬ P
refuted d p = let wrong : false ≡ true = d.1 p in cc

module _ (C : PlanFault → Type 0) where
  below_1 : (other : PlanFault) → rank other < 1 → ¬ (C other)
  below_1 Unknown lt c = absurd (omega (arith, lt))
  below_1 _ lt c = absurd (omega (arith, lt))

  below_2 : ¬ (C Unknown) → (other : PlanFault) → rank other < 2 → ¬ (C other)
  below_2 a Unknown lt c = a c
  below_2 a _ lt c = absurd (omega (arith, lt))

  below_3 : ¬ (C Unknown) → ¬ (C NameTaken) → (other : PlanFault) → rank other < 3 → ¬ (C other)
  below_3 a b Unknown lt c = a c
  below_3 a b NameTaken lt c = b c
  below_3 a b _ lt c = absurd (omega (arith, lt))

  below_4 : ¬ (C Unknown) → ¬ (C NameTaken) → ¬ (C StillIndexed) → (other : PlanFault) → rank other < 4 → ¬ (C other)
  below_4 a b d Unknown lt c = a c
  below_4 a b d NameTaken lt c = b c
  below_4 a b d StillIndexed lt c = d c
  below_4 a b d _ lt c = absurd (omega (arith, lt))

  below_5 : ¬ (C Unknown) → ¬ (C NameTaken) → ¬ (C StillIndexed) → ¬ (C InChange) → (other : PlanFault) → rank other < 5 → ¬ (C other)
  below_5 a b d e Unknown lt c = a c
  below_5 a b d e NameTaken lt c = b c
  below_5 a b d e StillIndexed lt c = d c
  below_5 a b d e InChange lt c = e c
  below_5 a b d e _ lt c = absurd (omega (arith, lt))

  none : ¬ (C Unknown) → ¬ (C NameTaken) → ¬ (C StillIndexed) → ¬ (C InChange) → ¬ (C Limit) → ¬ (C Memory) → (fault : PlanFault) → ¬ (C fault)
  none a b d e f g Unknown c = a c
  none a b d e f g NameTaken c = b c
  none a b d e f g StillIndexed c = d c
  none a b d e f g InChange c = e c
  none a b d e f g Limit c = f c
  none a b d e f g Memory c = g c

  pub chain_says : (u t i m o : Bool) → AreTests C u t i m o → Says C (first_fault u t i m o)
  chain_says true t i m o d = (d.unknown.0 refl, below_1)
  chain_says false true i m o d = (d.taken.0 refl, below_2 (refuted d.unknown))
  chain_says false false true m o d = (d.indexed.0 refl, below_3 (refuted d.unknown) (refuted d.taken))
  chain_says false false false true o d = (d.moving.0 refl, below_4 (refuted d.unknown) (refuted d.taken) (refuted d.indexed))
  chain_says false false false false true d = (d.over.0 refl, below_5 (refuted d.unknown) (refuted d.taken) (refuted d.indexed) (refuted d.moving))
  chain_says false false false false false d = none (refuted d.unknown) (refuted d.taken) (refuted d.indexed) (refuted d.moving) (refuted d.over) d.memory
