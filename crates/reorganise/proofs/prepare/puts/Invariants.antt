use Rattle.std.proofs.Common.{◌≡◌, drop}
use Rattle.std.specs.List.{flat_map}
use Rattle.std.specs.FinMap as map
use Rattle.row_map.specs.Rows.{Bytes}
use Rattle.row_map.specs.Writes.{noted}
use Rattle.schema_version.specs.declared.element.Work.TheVariants.{Fill}
use Rattle.reorganise.specs.Batches.{pair_writes, piece_writes}
use Rattle.reorganise.proofs.prepare.puts.Given as goal

-- the batch so far and the writes for the pairs that are left give the whole batch
abbrev pub invariant-loop-name : goal.invariant-loop-name
invariant-loop-name l = noted l.batch (flat_map (λ (e : Bytes × Bytes). pair_writes l.pairs l.element Fill e.0) (drop l.name-index l.name-items)) ≡ noted map.empty (piece_writes l.pairs l.element Fill)
