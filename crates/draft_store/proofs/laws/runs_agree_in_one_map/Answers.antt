use Rattle.draft_store.proofs.Runs.{runs_are_the_same, runs_agree_in_one_map}
use Rattle.draft_store.proofs.Whole.{runs_stay_open_in_one_map}
use Rattle.draft_store.proofs.laws.runs_agree_in_one_map.Goals as goal

pub returns-clause-same : goal.returns-clause-same
returns-clause-same c = runs_are_the_same

pub returns-clause-agree : goal.returns-clause-agree
returns-clause-agree c = runs_agree_in_one_map

pub returns-clause-stay_open : goal.returns-clause-stay_open
returns-clause-stay_open c = runs_stay_open_in_one_map
