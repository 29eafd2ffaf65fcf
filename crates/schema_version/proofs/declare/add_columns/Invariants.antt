use Rattle.std.proofs.Common.{◌≡◌, ◌++◌, take}
use Rattle.std.specs.Prelude.{map}
use Rattle.schema_version.specs.Declare.{column_move}
use Rattle.schema_version.proofs.declare.add_columns.Given as goal

abbrev pub invariant-loop-column : goal.invariant-loop-column
invariant-loop-column l = l.moves.items ≡ l.initial.moves.items ++ map (column_move l.table) (take l.column-index l.columns)
