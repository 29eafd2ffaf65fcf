-- Cited by the contracts of TxnDraft.
-- A drafted transaction, as contracts see it.
use Rattle.std.specs.Prelude.{Option, refl}
use Rattle.std.specs.Coded.{Coded, code_by, coded×, coded_list, coded_ℕ, coded_option}
use Rattle.row_map.specs.Rows.{Bytes}
use Rattle.row_write.specs.Made.{PreparedTxn}
use Rattle.row_write.specs.Code.{prepared_code}

-- a transaction, and the name of its mark if it has one
pub record MarkedTxn : Type 0 where
  pub txn : PreparedTxn
  pub mark : Option Bytes

abbrev pub marked_code : Coded MarkedTxn
marked_code = code_by (PreparedTxn × Option Bytes) (coded× prepared_code (coded_option (coded_list coded_ℕ))) (λ m. (m.txn, m.mark)) (λ t. record { txn = t.0; mark = t.1 }) (λ _. refl)
