-- Cited by the contracts of soak::run_soak.
-- How large a soak may be.
use Rattle.std.specs.Prelude.{◌≤◌}
use Rattle.command_line.specs.declared.soak_size.SoakSize.{SoakSize}

-- Each number of the size is in its range: 1 to 1,000,000,000 updates, 1 to 100,000 rows, 1 to 16 servers.
abbrev pub IsSoakSize : SoakSize → Type 0
IsSoakSize size =
    (1 ≤ size.updates) × (size.updates ≤ 1000000000)
    × (1 ≤ size.rows) × (size.rows ≤ 100000)
    × (1 ≤ size.servers) × (size.servers ≤ 16)
