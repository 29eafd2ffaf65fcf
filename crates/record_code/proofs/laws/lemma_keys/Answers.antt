use Rattle.record_code.proofs.KeyCodes.{keys_say}
use Rattle.record_code.proofs.laws.lemma_keys.Goals as goal

pub returns : goal.returns
returns c = keys_say
