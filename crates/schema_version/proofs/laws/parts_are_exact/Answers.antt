use Rattle.schema_version.proofs.Restored as numbers
use Rattle.schema_version.proofs.laws.parts_are_exact.Goals as goal

pub returns : goal.returns
returns c = numbers.parts_are_exact
