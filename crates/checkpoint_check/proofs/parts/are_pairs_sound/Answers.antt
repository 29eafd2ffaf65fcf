use Rattle.std.proofs.Common.{subst}
use Rattle.std.specs.Option.{option_copied}
use Rattle.checkpoint.specs.Sound.{before_or}
use Rattle.checkpoint_check.specs.inner.Beside.{HaveSameKinds}
use Rattle.checkpoint_check.proofs.parts.are_pairs_sound.Goals as goal

pub agrees-requires-in-Some : goal.agrees-requires-in-Some
agrees-requires-in-Some g c = subst (λ o. HaveSameKinds (before_or c.args.newest.now (option_copied o)) c.args.newest.now) c.in-Some.is c.requires
