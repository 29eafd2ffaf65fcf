use Rattle.draft_store.proofs.Whole.{runs_have_logs_in_one_map as law}
use Rattle.draft_store.proofs.laws.runs_have_logs_in_one_map.Goals as goal

pub returns : goal.returns
returns c = law
