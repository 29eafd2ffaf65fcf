-- Cited by the contracts of Timeline::restored.
-- A timeline from its parts.
use Rattle.std.specs.Prelude.{ℕ, ◌+◌, ◌^◌, List, [], ◌∷◌, reverse, Bool, true, false, ◌&&◌, ◌==◌, nat_le}
use Rattle.lease.specs.Timeline.{Timeline, max_moment}

-- the timeline with these publications, that of version 1 first
abbrev pub line_of : ℕ → List ℕ → Timeline
line_of length moments = record { length = length; published = reverse moments }

-- whether each of these moments is within the limit, and at least the lease length after the one before
abbrev pub are_in_turn : ℕ → ℕ → List ℕ → Bool
are_in_turn length last [] = true
are_in_turn length last (moment ∷ moments) = nat_le (last + length) moment && (nat_le moment max_moment && are_in_turn length moment moments)

-- IsValid as a test
abbrev pub is_timeline : ℕ → List ℕ → Bool
is_timeline length [] = false
is_timeline length (first ∷ moments) = (first == 0) && (nat_le 1 length && (nat_le length (2 ^ 32) && are_in_turn length 0 moments))
