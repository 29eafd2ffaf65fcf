use Rattle.std.proofs.Common.{◌≡◌, drop}
use Rattle.row_map.specs.Keys.{row_code}
use Rattle.row_write.specs.declared.op.RowOp.{RowOp}
use Rattle.row_write.specs.Plain.{table_of, key_of}
use Rattle.row_write.specs.inner.Enter.{column_keys}
use Rattle.row_write.specs.inner.View.{keys_of}
use Rattle.row_write.proofs.places.are_column_keys.Given as goal

abbrev pub invariant-loop-i : goal.invariant-loop-i
invariant-loop-i l = (op : RowOp) → l.exists ≡ row_code (table_of op) (key_of op) 0 → keys_of (drop l.i l.entries) ≡ column_keys op (drop l.i l.columns) → keys_of l.entries ≡ column_keys op l.columns
