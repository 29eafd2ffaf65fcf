use Rattle.table_faults.proofs.Decides.{decides}
use Rattle.table_faults.proofs.First.{finding}
use Rattle.table_faults.proofs.declaration.declaration_fault.Goals as goal

pub returns-clause-first : goal.returns-clause-first
returns-clause-first c = finding c.args.tables.now c.first_fault.result c.first_fault.ensures

pub returns-clause-decides : goal.returns-clause-decides
returns-clause-decides c = decides c.args.tables.now c.first_fault.result c.first_fault.ensures
