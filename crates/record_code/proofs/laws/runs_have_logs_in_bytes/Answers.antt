use Rattle.record_code.proofs.Whole.{runs_have_logs_in_bytes as law}
use Rattle.record_code.proofs.laws.runs_have_logs_in_bytes.Goals as goal

pub returns : goal.returns
returns c = law
