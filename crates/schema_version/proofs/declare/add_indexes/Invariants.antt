use Rattle.std.proofs.Common.{◌≡◌, ◌++◌, take}
use Rattle.std.specs.Prelude.{map}
use Rattle.schema_version.specs.Declare.{index_move}
use Rattle.schema_version.proofs.declare.add_indexes.Given as goal

abbrev pub invariant-loop-index : goal.invariant-loop-index
invariant-loop-index l = l.moves.items ≡ l.initial.moves.items ++ map (index_move l.table l.first l.columns) (take l.index-index l.indexes)
