use Rattle.schema_version.proofs.Numbers as numbers
use Rattle.schema_version.proofs.laws.numbers_end.Goals as goal

pub returns : goal.returns
returns c = numbers.numbers_end
