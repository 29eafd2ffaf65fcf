use Rattle.record_code.proofs.Whole.{marks_are_once_in_bytes as law}
use Rattle.record_code.proofs.laws.marks_are_once_in_bytes.Goals as goal

pub returns : goal.returns
returns c = law
