use Rattle.std.proofs.Common.{◌++◌, ◌∙◌}
use Rattle.schema_version.specs.inner.AcceptTables.{names_in}
use Rattle.table_faults.proofs.Parts.{part_more}
use Rattle.table_faults.proofs.names.part_cause.Goals as goal

pub loop-i-preserved : goal.loop-i-preserved
loop-i-preserved g c =
    part_more c.args.first c.loop-i.i c.args.items.now c.index-items-i.result c.as_bytes-name.result.now (names_in c.args.columns.now ++ names_in c.args.indexes.now)
    c.index-items-i.is c.loop-i-test.true c.as_bytes-name.ensures.value c.if-not-is_name.ensures c.if-stands_again.ensures
    ∙ c.loop-i.invariant
