use Rattle.std.proofs.Common.{◌≡◌, take}
use Rattle.std.specs.Prelude.{map}
use Rattle.schema_version.specs.Declare.{number_of}
use Rattle.schema_version.proofs.declare.numbers_of.Given as goal

abbrev pub invariant-loop-name : goal.invariant-loop-name
invariant-loop-name l = l.numbers.items ≡ map (number_of l.first l.columns) (take l.name-index l.names)
