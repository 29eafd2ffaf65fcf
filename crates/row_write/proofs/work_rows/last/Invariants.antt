use Rattle.std.proofs.Common.{◌≡◌, drop, None, option_map}
use Rattle.row_write.specs.inner.WorkRows.{last_row}
use Rattle.row_write.proofs.work_rows.last.Given as goal

abbrev pub invariant-loop-row_version : goal.invariant-loop-row_version
invariant-loop-row_version l = last_row l.table l.key (option_map (λ r. r.now) l.found) (drop l.row_version-index l.row_versions) ≡ last_row l.table l.key None l.row_versions
