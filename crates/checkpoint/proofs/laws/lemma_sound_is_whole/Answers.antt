use Rattle.checkpoint.proofs.Sound.{sound_is_whole, whole_is_sound, checkpoints_are_sound}
use Rattle.checkpoint.proofs.laws.lemma_sound_is_whole.Goals as goal

pub returns-clause-whole : goal.returns-clause-whole
returns-clause-whole c = sound_is_whole

pub returns-clause-sound : goal.returns-clause-sound
returns-clause-sound c = whole_is_sound

pub returns-clause-logs : goal.returns-clause-logs
returns-clause-logs c = checkpoints_are_sound
