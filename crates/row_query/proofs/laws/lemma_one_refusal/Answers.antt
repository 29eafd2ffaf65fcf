use Rattle.row_query.proofs.Unique.{only_one, sound_clear}
use Rattle.row_query.proofs.laws.lemma_one_refusal.Goals as goal

pub returns-clause-only_one : goal.returns-clause-only_one
returns-clause-only_one c = only_one

pub returns-clause-or_none : goal.returns-clause-or_none
returns-clause-or_none c = sound_clear
