-- The moment of an entry is the one that counts when its call is made again.
use Rattle.std.proofs.Common.{◌≡◌, ℕ, ◌≤◌, arith}
use Rattle.world.specs.Calls.{effective_moment}
use Rattle.world.specs.State.{State, facts_of}

pub effective_now : (s : State) (now : ℕ) → (facts_of s).moment ≤ now → effective_moment s now ≡ now
effective_now s now later = omega (arith, later)
