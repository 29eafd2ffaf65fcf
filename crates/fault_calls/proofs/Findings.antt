-- Cited by the answers of found_in_ops, found_in_query.
-- What a search answers is a finding.
use Rattle.std.specs.Prelude.{List, Option, Some, None, IfSome, IfNone}
use Rattle.row_query.specs.Refused.{IsRefused}
use Rattle.row_query.specs.declared.query.Query.{Query}
use Rattle.row_query.specs.declared.fault.QueryFault.TheVariants as query
use Rattle.row_write.specs.Prepare.{IsFirstOpFault}
use Rattle.row_write.specs.declared.op.RowOp.{RowOp}
use Rattle.row_write.specs.declared.fault.PrepareFault.TheVariants as prepare
use Rattle.schema_version.specs.Version.{Version}
use Rattle.value_faults.specs.Faults.{IsTxnFault, IsQueryFault}
use Rattle.value_faults.specs.declared.fault.ValueFault.{ValueFault}
use Rattle.fault_calls.specs.Faults.{IsTxnFinding, IsQueryFinding}

pub txn_finding :
    (version : Version) (ops : List RowOp) (found : Option ValueFault)
    → IfSome found (λ fault. IsTxnFault version ops fault) → IfNone found (¬ (IsFirstOpFault version ops prepare.WrongType)) → IsTxnFinding version ops found
txn_finding version ops None some none = none
txn_finding version ops (Some fault) some none = some

pub query_finding :
    (version : Version) (asked : Query) (found : Option ValueFault)
    → IfSome found (λ fault. IsQueryFault version asked fault) → IfNone found (¬ (IsRefused version asked query.WrongType)) → IsQueryFinding version asked found
query_finding version asked None some none = none
query_finding version asked (Some fault) some none = some
