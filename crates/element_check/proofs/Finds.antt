-- How many items of a list are found, and the first of them, step by step.
use Rattle.std.proofs.Common.{◌≡◌, ℕ, ◌+◌, ◌≤◌, List, ◌++◌, length, take}

-- what was found with what is found ahead is what is found in all
pub record IsSoFar {X : Type 0} (most count : ℕ) (first ahead all : List X) : Type 0 where
  pub number : count + length ahead ≡ length all
  pub front : take most (first ++ ahead) ≡ take most all
  pub within : length first ≤ most
