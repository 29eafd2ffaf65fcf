use Rattle.std.proofs.Common.{◌≡◌, take, filter}
use Rattle.schema_version.specs.Version.{is_in}
use Rattle.schema_version.proofs.by_table.elements_in.Given as goal

abbrev pub invariant-loop-element : goal.invariant-loop-element
invariant-loop-element l = l.own.items ≡ filter (is_in l.table) (take l.element-index l.elements)
