use Rattle.std.proofs.Common.{◌≡◌, drop}
use Rattle.std.specs.List.{filter_map}
use Rattle.schema_version.specs.Shape.{public_column}
use Rattle.row_write.specs.Plain.{table_of}
use Rattle.row_write.specs.inner.Enter.{entered, column_keys}
use Rattle.row_write.proofs.reads.enter_among.Given as goal

abbrev pub invariant-loop-element : goal.invariant-loop-element
invariant-loop-element l =
    entered l.set (column_keys l.op (filter_map (public_column (table_of l.op)) (drop l.element-index l.elements)))
    ≡ entered l.initial.set (column_keys l.op (filter_map (public_column (table_of l.op)) l.elements))
