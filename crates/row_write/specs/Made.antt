-- Cited by the contracts of prepare, Prepared, Prepared::lemma_made.
-- A prepared transaction, as contracts see it.
use Rattle.std.specs.Prelude.{◌≡◌, ℕ, ◌≤◌, List, length, None, Some, ◌↔◌, Option}
use Rattle.std.specs.List.{AllByRecursion}
use Rattle.std.specs.FinMap as map
use Rattle.lease.specs.declared.lease.Lease.{Lease}
use Rattle.keycode.specs.declared.value.Value.{Value}
use Rattle.row_map.specs.declared.expect.Expect.{Expect}
use Rattle.row_map.specs.Rows.{Bytes}
use Rattle.row_map.specs.Expect.{View}
use Rattle.row_map.specs.Writes.{Batch}
use Rattle.schema_version.specs.Version.{Version, Table, table_at}
use Rattle.row_write.specs.declared.op.RowOp.{RowOp}
use Rattle.row_write.specs.declared.op.RowOutcome.{RowOutcome}
use Rattle.row_write.specs.Plain.{table_of, named_of}
use Rattle.row_write.specs.Reads.{IsRead}
use Rattle.row_write.specs.Prepare.{IsTyped, HasColumn, max_ops, IsPrepared}

pub record PreparedTxn : Type 0 where
  pub schema : Version
  pub lease : Lease
  pub ops : List RowOp
  pub expect : Expect
  pub batch : Batch
  pub reported : RowOutcome

-- what was read is expected again
abbrev pub expects : View → Expect
expects view = record { points = view; key_range = None }

-- the operation has none of the faults that preparation looks for
pub record IsSound (version : Version) (op : RowOp) : Type 0 where
  pub table : Table
  pub known : table_at version (table_of op) ≡ Some table
  pub public : AllByRecursion (λ (named : ℕ × Value). HasColumn version (table_of op) named.0) (named_of op)
  pub typed : IsTyped version table op

-- what is known of every prepared transaction, however old it is
pub record IsMade (prepared : PreparedTxn) : Type 0 where
  pub sound : AllByRecursion (IsSound prepared.schema) prepared.ops
  pub few : length prepared.ops ≤ max_ops
  -- some view gave it, with the keys that it reads
  pub view : View
  pub keys : (key : Bytes) → IsRead prepared.schema prepared.ops key ↔ ((value : Option Bytes) × (map.get view key ≡ Some value))
  pub expected : prepared.expect ≡ expects view
  pub prepared_so : IsPrepared prepared.schema prepared.ops view prepared.reported prepared.batch
