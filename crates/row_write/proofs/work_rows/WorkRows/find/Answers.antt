use Rattle.row_write.proofs.Worked.{found_cells, found_key}
use Rattle.row_write.proofs.work_rows.WorkRows.find.Goals as goal

pub returns-clause-row : goal.returns-clause-row
returns-clause-row c = found_cells (λ r. r.now) c.last.result c.args.table c.args.key.now c.as_slice.result.now c.self.inside.row_versions.items c.args.self.now c.as_slice.ensures.value c.last.ensures c.self.view_is

pub returns-clause-key : goal.returns-clause-key
returns-clause-key c = found_key (λ r. r.now) c.last.result c.args.table c.args.key.now c.as_slice.result.now c.last.ensures
