use Rattle.std.proofs.Common.{ap, subst, ◌∙◌}
use Rattle.std.specs.Option.{option_copied}
use Rattle.schema_version.specs.Version.{Version}
use Rattle.checkpoint.specs.Sound.{AreSoundElements, before_or}
use Rattle.checkpoint_check.specs.Given.{given}
use Rattle.checkpoint_check.proofs.Refused.{bad_pairs}
use Rattle.checkpoint_check.proofs.parts.check.Goals as goal

pub returns-then-not-branch-clause-refused : goal.returns-then-not-branch-clause-refused
returns-then-not-branch-clause-refused g c = λ place.
    let n : Version = c.args.newest.now in
    bad_pairs (given place c.args.moment c.args.line.now n (option_copied c.args.before) c.args.begun.now (g.V.PairView.pairs c.args.view.now)) (before_or n (option_copied c.usable_before-usable.result))
    (ap (before_or n) c.usable_before-usable.ensures)
    (c.are_versions_sound.ensures.0 c.if-not-are_versions_sound.false)
    (subst (λ (v : Version). AreSoundElements v n) c.beside-beside.ensures (c.are_elements_sound.ensures.sound.0 c.if-not-are_elements_sound.false))
    c.in_ok-are_pairs_sound.field-0 c.in_ok-are_pairs_sound.ensures.sound c.if-not-branch.true
