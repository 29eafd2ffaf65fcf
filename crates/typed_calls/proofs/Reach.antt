-- A call on a world with a furthest jump, whose moment is not too far.
use Rattle.std.proofs.Common.{◌≡◌, ℕ, Bool, false, refl, sym, ◌∙◌}
use Rattle.script_session.specs.State.{State}
use Rattle.typed_calls.specs.Bounded.{is_too_far, Within, SeenWithin}
use Rattle.typed_calls.specs.declared.bounded.BoundedWorld.{BoundedWorld}

pub within :
    {A : Type 0} (far : A) (Call : State → A → State → Type 0) (old : BoundedWorld) (moment : ℕ) (shown : Bool) (answer : A) (new : State)
    → shown ≡ is_too_far old moment → shown ≡ false → Call old.world answer new → Within far Call old moment answer (record old { world = new })
within far Call old moment shown answer new is near done = rw (sym is ∙ near) (new, done, refl)

pub seen_within :
    {A : Type 0} (far : A) (Call : State → A → Type 0) (old : BoundedWorld) (moment : ℕ) (shown : Bool) (answer : A)
    → shown ≡ is_too_far old moment → shown ≡ false → Call old.world answer → SeenWithin far Call old moment answer
seen_within far Call old moment shown answer is near done = rw (sym is ∙ near) done
