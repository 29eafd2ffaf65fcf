-- Cited by the definitions of Leases, Commit and others.
-- A call on a world that has a furthest jump of a call's moment; and codes that are none.
use Rattle.std.specs.Prelude.{◌≡◌, ℕ, ◌-◌, List, Bool, ◌&&◌, nat_lt}
use Rattle.std.specs.Bool.{MatchBool}
use Rattle.script_session.specs.State.{State, entry_count, facts_of}
use Rattle.typed_calls.specs.declared.bounded.BoundedWorld.{BoundedWorld}

-- the moment is further beyond that of the last entry than the world allows; before the first entry none is
abbrev pub is_too_far : BoundedWorld → ℕ → Bool
is_too_far old moment = nat_lt 0 (entry_count old.world) && nat_lt old.furthest (moment - (facts_of old.world).moment)

-- a call at a moment: it is too far, and nothing changes, or the world takes it
abbrev pub Within : {A : Type 0} → A → (State → A → State → Type 0) → BoundedWorld → ℕ → A → BoundedWorld → Type 0
Within far Call old moment answer new =
    MatchBool (is_too_far old moment) ((answer ≡ far) × (new ≡ old))
    ((world : State) × Call old.world answer world × (new ≡ record old { world = world }))

-- the same of a call that changes nothing
abbrev pub SeenWithin : {A : Type 0} → A → (State → A → Type 0) → BoundedWorld → ℕ → A → Type 0
SeenWithin far Call old moment answer = MatchBool (is_too_far old moment) (answer ≡ far) (Call old.world answer)

-- the bytes are the code of nothing that is as P says
abbrev pub IsNoCode : {X : Type 0} → (X → Type 0) → (X → List ℕ) → List ℕ → Type 0
IsNoCode {X} P code bytes = (x : X) → P x → bytes ≡ code x → ⊥
