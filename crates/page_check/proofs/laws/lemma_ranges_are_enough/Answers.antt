use Rattle.page_check.proofs.Enough.{ranges_are_enough}
use Rattle.page_check.proofs.laws.lemma_ranges_are_enough.Goals as goal

pub returns : goal.returns
returns c = ranges_are_enough
