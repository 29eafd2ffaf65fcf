use Rattle.row_write.proofs.Viewed.{none_encoded}
use Rattle.row_write.proofs.view.encoded_value.Goals as goal

pub returns-in-Some-clause-found : goal.returns-in-Some-clause-found
returns-in-Some-clause-found c = (c.in_ok-found.ensures.encoded c.in-Some.value).0 c.in-Some.is

pub returns-in-None-clause-missed : goal.returns-in-None-clause-missed
returns-in-None-clause-missed c = none_encoded c.args.kind c.args.bytes.now c.in_ok-found.found c.in_ok-found.ensures.encoded c.in-None.is
