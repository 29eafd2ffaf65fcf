use Rattle.std.proofs.Common.{◌≡◌}
use Rattle.std.specs.Prelude.{IfOk}
use Rattle.rollout.specs.Calls.{IsReadView}
use Rattle.locked_store.specs.Answers.{no_place}
use Rattle.locked_store.proofs.Through.{answers_so}
use Rattle.locked_store.proofs.shared.Shared.read.Goals as goal

pub returns : goal.returns
returns g c =
    answers_so g.L.SharedLedger.start c.args.me.now c.read.result c.through.result c.read.new.me (λ s r d. IfOk r (λ view. IsReadView s c.args.keys.now view) × (d ≡ s)) no_place _ _ c.through.ensures c.read.ensures
