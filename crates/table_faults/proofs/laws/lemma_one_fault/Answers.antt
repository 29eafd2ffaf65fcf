use Rattle.table_faults.proofs.First.{one_finding, or_lawful}
use Rattle.table_faults.proofs.laws.lemma_one_fault.Goals as goal

pub returns-clause-only_one : goal.returns-clause-only_one
returns-clause-only_one c = one_finding

pub returns-clause-or_lawful : goal.returns-clause-or_lawful
returns-clause-or_lawful c = or_lawful
