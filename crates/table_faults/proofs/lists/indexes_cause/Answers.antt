use Rattle.table_faults.proofs.Indexes.{index_found}
use Rattle.table_faults.proofs.lists.indexes_cause.Goals as goal

pub returns-in-Some : goal.returns-in-Some
returns-in-Some c =
    index_found _ _ _ _ c.as_slice-columns.ensures c.as_slice-indexes.ensures c.loop-index.index c.index-indexes-index.result _ _ _
    c.index-indexes-index.is c.loop-index-test.true c.as_slice.ensures c.in-Some.ensures c.loop-index.invariant
