use Rattle.std.proofs.Common.{refl}
use Rattle.checkpoint_code.proofs.Heads.{made}
use Rattle.checkpoint_code.proofs.head.head_from.Goals as goal

pub returns : goal.returns
returns c =
    made c.args.parts c.args.parts.place c.args.parts.moment c.in_ok-line.line c.in_ok-newest.newest c.in_ok-before.before refl refl
    c.in_ok-line.ensures.whole c.in_ok-line.ensures.valid c.in_ok-newest.ensures.whole c.in_ok-newest.ensures.sound c.in_ok-before.ensures.made
