use Rattle.schema_version.proofs.Served as served
use Rattle.schema_version.proofs.laws.steps_stay_sound.Goals as goal

pub returns : goal.returns
returns c = served.steps_stay_sound
