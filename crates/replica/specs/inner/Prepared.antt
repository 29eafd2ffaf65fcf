-- Cited by the contracts of private functions alone: prepare_again, commit_again.
-- What is prepared of operations from what is present, or why they can't be.
use Rattle.std.specs.Prelude.{◌≡◌, List, Option, Some, ◌↔◌}
use Rattle.std.specs.FinMap as map
use Rattle.lease.specs.declared.lease.Lease.{Lease}
use Rattle.row_map.specs.Expect.{Holds, View}
use Rattle.row_map.specs.Rows.{Bytes}
use Rattle.schema_version.specs.Version.{Version}
use Rattle.row_write.specs.declared.fault.PrepareFault.{PrepareFault}
use Rattle.row_write.specs.declared.op.RowOp.{RowOp}
use Rattle.row_write.specs.Made.{PreparedTxn, expects}
use Rattle.row_write.specs.Prepare.{Condition}
use Rattle.row_write.specs.Reads.{IsRead}
use Rattle.world.specs.State.{State}

-- prepared of these, and all that was read is present
pub record IsPreparedOf (state : State) (version : Version) (lease : Lease) (ops : List RowOp) (prepared : PreparedTxn) : Type 0 where
  pub schema : prepared.schema ≡ version
  pub lease_is : prepared.lease ≡ lease
  pub ops_are : prepared.ops ≡ ops
  pub holds : Holds prepared.expect state.pairs

-- they have a fault, with a view of what is present
pub record IsUnfit (state : State) (version : Version) (ops : List RowOp) : Type 0 where
  pub view : View
  pub keys : (key : Bytes) → IsRead version ops key ↔ ((value : Option Bytes) × (map.get view key ≡ Some value))
  pub holds : Holds (expects view) state.pairs
  pub fault : PrepareFault
  pub why : Condition version ops view fault
