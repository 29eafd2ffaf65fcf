-- The steps of calls on a world that has a furthest jump, and on what a handle holds.
use Rattle.std.proofs.Common.{◌≡◌, ℕ, ℤ, Bool, false, Option, Some, None, Result, Ok, Err, is_some, ◌⊎◌, inl, refl, sym, subst, ◌∙◌, true≢false}
use Rattle.std.specs.Bool.{MatchBool}
use Rattle.typed_calls.specs.Bounded.{is_too_far, Within}
use Rattle.typed_calls.specs.State.{State}
use Rattle.typed_calls.specs.declared.bounded.BoundedWorld.{BoundedWorld}
use Rattle.handles.specs.declared.engine.Engine.{Engine}
use Rattle.handles.specs.Handles.{Fills}

-- a handle that is not open holds nothing
pub holds_nothing : (held : Option Engine) (shows : Bool) → shows ≡ is_some held → shows ≡ false → held ≡ None
holds_nothing None shows is shut = refl
holds_nothing (Some e) shows is shut = absurd (true≢false (sym is ∙ shut))

-- a status, as it is handed on
pub as_given : (P : ℤ → Type 0) (given status : ℤ) → given ≡ status → P status → P given
as_given P given status same p = subst P (sym same) p

-- what a call gave is in the handle, or memory ran out
pub kept :
    {V : Type 0} (Gives : Result V ℤ → Type 0) (of : V → Engine) (it : V) (given status : ℤ) (new : Option Engine)
    → given ≡ status → Gives (Ok it) → Fills (of it) status new → ((v : V) × Gives (Ok v) × Fills (of v) given new) ⊎ (Gives (Err given) × (new ≡ None))
kept Gives of it given status new same gives fills =
    inl (it, gives, subst (λ (s : ℤ). Fills (of it) s new) (sym same) fills)

-- a call on what a handle holds
pub at_held :
    (To : Option Engine → ℤ → Type 0) (handle : Option Engine) (e held : Engine) (given status : ℤ)
    → Some e ≡ handle → e ≡ held → given ≡ status → To (Some held) status → To handle given
at_held To handle e held given status here is same to =
    subst (λ (s : ℤ). To handle s) (sym same)
    (subst (λ (o : Option Engine). To o status) here (subst (λ (x : Engine). To (Some x) status) (sym is) to))

-- the same, into a closed handle
pub into_closed :
    (To : Option Engine → Option Engine → ℤ → Type 0) (handle closed : Option Engine) (e held : Engine) (given status : ℤ)
    → closed ≡ None → Some e ≡ handle → e ≡ held → given ≡ status → To (Some held) None status → To handle closed given
into_closed To handle closed e held given status shut here is same to =
    subst (λ (o : Option Engine). To handle o given) (sym shut) (at_held (λ (o : Option Engine) (s : ℤ). To o None s) handle e held given status here is same to)

-- a call that changes what a handle holds
pub changes_held :
    (To : Option Engine → Option Engine → Type 0) (old new : Option Engine) (e held changed : Engine)
    → Some e ≡ old → e ≡ held → new ≡ Some changed → To (Some held) (Some changed) → To old new
changes_held To old new e held changed here is last to =
    subst (λ (o : Option Engine). To o new) here
    (subst (λ (x : Engine). To (Some x) new) (sym is) (subst (λ (n : Option Engine). To (Some held) n) (sym last) to))

-- a call at a moment that is not too far
pub within :
    {A : Type 0} (far : A) (Call : State → A → State → Type 0) (old : BoundedWorld) (moment : ℕ) (says : Bool) (answer : A) (world : State)
    → says ≡ is_too_far old moment → says ≡ false → Call old.world answer world → Within far Call old moment answer (record old { world = world })
within far Call old moment says answer world is near call =
    subst
    (λ (b : Bool). MatchBool b ((answer ≡ far) × (record old { world = world } ≡ old)) ((w : State) × Call old.world answer w × (record old { world = world } ≡ record old { world = w })))
    (sym near ∙ is) (world, call, refl)
