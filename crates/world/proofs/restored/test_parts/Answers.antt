use Rattle.std.proofs.Common.{◌≡◌, ℕ, Result, Ok, Err, subst, rules}
use Rattle.std.specs.Prelude.{OnOk}
use Rattle.checkpoint_check.specs.Checkpoint.{Checkpoint}
use Rattle.checkpoint_check.specs.Sound.{IsSound}
use Rattle.checkpoint_check.specs.Given.{given}
use Rattle.world.specs.Restored.{checkpoint_with}
use Rattle.world.proofs.restored.test_parts.Goals as goal

at_place : {A E : Type 0} (r : Result A E) (P : ℕ → Type 0) (place : ℕ) → OnOk r ((n : ℕ) → P n) → OnOk r (P place)
at_place (Ok x) P place h = h place
at_place (Err e) P place h = tt

pub returns-clause-sound : goal.returns-clause-sound
returns-clause-sound c =
    let p = c.args.parts.now in
    let same : given p.place p.moment p.line c.get.result.now _ c.as_slice.result.now p.store ≡ checkpoint_with p = λ i. given p.place p.moment p.line (c.get.ensures i) (c.schema_in.ensures i) (c.as_slice.ensures.value i) p.store in
    subst (λ (cp : Checkpoint). OnOk c.check.result (IsSound cp)) same (at_place c.check.result (λ n. IsSound (given n p.moment p.line c.get.result.now _ c.as_slice.result.now p.store)) p.place c.check.ensures.sound)
