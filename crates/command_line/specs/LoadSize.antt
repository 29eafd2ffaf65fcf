-- Cited by the contracts of load::run_load and of options.
-- How large a load may be, and how fast.
use Rattle.std.specs.Prelude.{◌≤◌, ℕ, Option, IfSome}
use Rattle.command_line.specs.declared.load_size.LoadSize.{LoadSize}

-- Each number of the size is in its range: 1 to 16 servers, 1 to 100,000 rows, 1 to 64 pieces, 1 to 16 workers, 1 to 1,000 rows at a time.
abbrev pub IsLoadSize : LoadSize → Type 0
IsLoadSize size =
    (1 ≤ size.servers) × (size.servers ≤ 16)
    × (1 ≤ size.rows) × (size.rows ≤ 100000)
    × (1 ≤ size.pieces) × (size.pieces ≤ 64)
    × (1 ≤ size.workers) × (size.workers ≤ 16)
    × (1 ≤ size.limit) × (size.limit ≤ 1000)

-- A rate, if there is one, is from 1 to 1,000,000 rows a second.
abbrev pub IsRate : Option ℕ → Type 0
IsRate rate = IfSome rate (λ n. (1 ≤ n) × (n ≤ 1000000))
