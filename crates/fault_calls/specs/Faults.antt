-- Cited by the contracts of txn_fault, query_fault, opening_fault.
-- What is found: the value, or the declaration, for which a call is refused; nothing exactly if it is not refused for one.
use Rattle.std.specs.Prelude.{◌≡◌, List, Option, Some, None, Result, Ok}
use Rattle.row_query.specs.Refused.{IsRefused}
use Rattle.row_query.specs.declared.query.Query.{Query}
use Rattle.row_query.specs.declared.fault.QueryFault.TheVariants as query
use Rattle.row_write.specs.Prepare.{IsFirstOpFault}
use Rattle.row_write.specs.declared.op.RowOp.{RowOp}
use Rattle.row_write.specs.declared.fault.PrepareFault.TheVariants as prepare
use Rattle.schema_version.specs.Version.{Version}
use Rattle.schema_version.specs.declared.table.TableDef.{TableDef}
use Rattle.value_faults.specs.Faults.{IsTxnFault, IsQueryFault}
use Rattle.value_faults.specs.declared.fault.ValueFault.{ValueFault}
use Rattle.table_faults.specs.Faults.{IsFinding}
use Rattle.table_faults.specs.declared.fault.TableFault.{TableFault}
use Rattle.layer_calls.specs.declared.outcome.LayerOutcome.{LayerOutcome}
use Rattle.fault_calls.specs.Outcomes.{found_value, found_table}
use Rattle.fault_calls.specs.declared.outcome.ValueOutcome.{ValueOutcome}
use Rattle.fault_calls.specs.declared.outcome.TableOutcome.{TableOutcome}

-- the wrong value for which the operations are refused, or none if they are not refused for one
abbrev pub IsTxnFinding : Version → List RowOp → Option ValueFault → Type 0
IsTxnFinding version ops (Some fault) = IsTxnFault version ops fault
IsTxnFinding version ops None = ¬ (IsFirstOpFault version ops prepare.WrongType)

abbrev pub FindsTxn : Version → List RowOp → Result ValueOutcome LayerOutcome → Type 0
FindsTxn version ops answer = (found : Option ValueFault) × IsTxnFinding version ops found × (answer ≡ Ok (found_value found))

abbrev pub IsQueryFinding : Version → Query → Option ValueFault → Type 0
IsQueryFinding version asked (Some fault) = IsQueryFault version asked fault
IsQueryFinding version asked None = ¬ (IsRefused version asked query.WrongType)

abbrev pub FindsQuery : Version → Query → Result ValueOutcome LayerOutcome → Type 0
FindsQuery version asked answer = (found : Option ValueFault) × IsQueryFinding version asked found × (answer ≡ Ok (found_value found))

-- the first fault of the tables, which is none exactly if they may be declared
abbrev pub FindsTables : List TableDef → Result TableOutcome LayerOutcome → Type 0
FindsTables tables answer = (found : Option TableFault) × IsFinding tables found × (answer ≡ Ok (found_table found))
