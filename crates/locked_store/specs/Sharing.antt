-- Cited by the contracts of Shared::new.
-- How many handles a shared world has, and when it is not shared.
use Rattle.std.specs.Prelude.{◌≡◌, ℕ, ◌<◌, ◌≤◌, ◌⊎◌}
use Rattle.locked_store.specs.declared.fault.ShareFault.{ShareFault}
use Rattle.locked_store.specs.declared.fault.ShareFault.TheVariants as share_fault

abbrev pub IsCount : ℕ → Type 0
IsCount count = (0 < count) × (count ≤ 64)

-- a bad number, and only that, is refused as one: out of memory comes after it
abbrev pub IsRefused : ℕ → ShareFault → Type 0
IsRefused count share_fault.BadCount = (count ≡ 0) ⊎ (64 < count)
IsRefused count share_fault.Memory = IsCount count
