use Rattle.pair_changes.proofs.Steps.{all_found}
use Rattle.pair_changes.proofs.Walked.{these_changes}
use Rattle.pair_changes.proofs.changes.changes_between.Goals as goal

pub returns : goal.returns
returns g c = these_changes _ _ c.loop-found.changes (all_found c.loop-found.changes _ _ c.loop-found.invariant c.in_default.ensures)
