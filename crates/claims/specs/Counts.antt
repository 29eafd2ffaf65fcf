-- Cited by the contracts of Opened::new, tasks::perform_all.
-- How many numbers and seats a counter may have.
use Rattle.std.specs.Prelude.{◌≡◌, ℕ, ◌<◌, ◌≤◌, ◌⊎◌}
use Rattle.claims.specs.declared.fault.ClaimFault.{ClaimFault}
use Rattle.claims.specs.declared.fault.ClaimFault.TheVariants as claim_fault

abbrev pub IsCount : ℕ → ℕ → Type 0
IsCount total seats = (total ≤ 1000000) × (0 < seats) × (seats ≤ 64)

-- bad counts, and only those, are refused as such: out of memory comes after them
abbrev pub IsRefused : ℕ → ℕ → ClaimFault → Type 0
IsRefused total seats claim_fault.BadCount = (1000000 < total) ⊎ ((seats ≡ 0) ⊎ (64 < seats))
IsRefused total seats claim_fault.Memory = IsCount total seats
