use Rattle.std.proofs.lemmas.Result.{IfOk-weaker}
use Rattle.checkpoint_check.proofs.Tests.{reorganisations_decided}
use Rattle.checkpoint_check.proofs.parts.are_reorganisations_sound.Goals as goal

pub returns : goal.returns
returns g c =
    IfOk-weaker c.are_tested.result _ _
    (λ b tested. reorganisations_decided c.args.before.now c.args.newest.now (g.V.PairView.pairs c.args.view.now) c.args.begun.now b c.lemma_known.ensures c.requires.strings c.requires.pairs tested)
    c.are_tested.ensures
