use Rattle.std.proofs.Common.{◌≡◌, ℕ, ◌≤◌, [], length}
use Rattle.row_map.specs.ReadKey.{until_end}
use Rattle.row_map.proofs.key_reader.read_until_end.Given as goal

abbrev pub invariant-loop-rest : goal.invariant-loop-rest
invariant-loop-rest l = (most : ℕ) × (length l.rest ≤ most) × (until_end most l.values.items l.rest ≡ until_end (length l.bytes) [] l.bytes)

abbrev pub decreases-loop-rest : goal.decreases-loop-rest
decreases-loop-rest l = length l.rest
