use Rattle.draft_store.proofs.OneMap.{one_map}
use Rattle.draft_store.proofs.laws.one_map.Goals as goal

pub returns : goal.returns
returns c = one_map
