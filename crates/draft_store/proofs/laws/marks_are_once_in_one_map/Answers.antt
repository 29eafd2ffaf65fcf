use Rattle.draft_store.proofs.Whole.{marks_are_once_in_one_map as law}
use Rattle.draft_store.proofs.laws.marks_are_once_in_one_map.Goals as goal

pub returns : goal.returns
returns c = law
