-- Cited by the contracts of perform_all.
-- How many tasks and workers there may be.
use Rattle.std.specs.Prelude.{◌≡◌, ℕ, ◌<◌, ◌⊎◌}
use Rattle.claims.specs.Counts.{IsCount}
use Rattle.tasks.specs.declared.fault.TaskFault.{TaskFault}
use Rattle.tasks.specs.declared.fault.TaskFault.TheVariants as task_fault

-- bad counts, and only those, are refused as such: out of memory comes after them
abbrev pub IsRefused : ℕ → ℕ → TaskFault → Type 0
IsRefused total workers task_fault.BadCount = (1000000 < total) ⊎ ((workers ≡ 0) ⊎ (64 < workers))
IsRefused total workers task_fault.Memory = IsCount total workers
