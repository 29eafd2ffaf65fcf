-- Cited by the contracts of Prepared.
-- How a prepared transaction is distinguished from another.
use Rattle.std.specs.Prelude.{List, refl}
use Rattle.std.specs.FinMap as map
use Rattle.std.specs.Coded.{Coded, code_by, coded×, coded_list, coded_ℕ, coded_option}
use Rattle.keycode.specs.Order.{bytes_cmp}
use Rattle.lease.specs.declared.lease.Lease.{Lease}
use Rattle.lease.specs.contracts.lease.Lease as lease
use Rattle.row_map.specs.declared.expect.Expect.{Expect}
use Rattle.row_map.specs.contracts.expect.Expect as expect
use Rattle.row_map.specs.Writes.{Batch}
use Rattle.schema_version.specs.Version.{Version}
use Rattle.schema_version.specs.Held.{version_code}
use Rattle.row_write.specs.declared.op.RowOp.{RowOp}
use Rattle.row_write.specs.contracts.op.RowOp as op
use Rattle.row_write.specs.declared.op.RowOutcome.{RowOutcome}
use Rattle.row_write.specs.contracts.op.RowOutcome as outcome
use Rattle.row_write.specs.Made.{PreparedTxn}

abbrev pub prepared_code : Coded PreparedTxn
prepared_code =
    code_by (Version × (Lease × (List RowOp × (Expect × (Batch × RowOutcome)))))
    (coded× version_code (coded× lease.the_row.coded (coded× (coded_list op.the_row.coded) (coded× expect.the_row.coded (coded× (map.code {R = bytes_cmp} (coded_list coded_ℕ) (coded_option (coded_list coded_ℕ))) outcome.the_row.coded)))))
    (λ p. (p.schema, (p.lease, (p.ops, (p.expect, (p.batch, p.reported))))))
    (λ t. record { schema = t.0; lease = t.1.0; ops = t.1.1.0; expect = t.1.1.1.0; batch = t.1.1.1.1.0; reported = t.1.1.1.1.1 })
    (λ _. refl)
