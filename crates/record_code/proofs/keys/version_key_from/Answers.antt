use Rattle.record_code.proofs.KeyCodes.{version_only}
use Rattle.record_code.proofs.keys.version_key_from.Goals as goal

pub returns-in-None : goal.returns-in-None
returns-in-None c = λ key is e. let one = version_only key c.args.rest.now is e in c.in-None.ensures one.0 one.1
