use Rattle.std.proofs.Common.{◌≡◌}
use Rattle.std.specs.Prelude.{IfOk}
use Rattle.checkpoint.specs.Checkpoint.{checkpoint_of}
use Rattle.rollout.specs.State.{entry_count, facts_of}
use Rattle.locked_store.specs.Answers.{no_place}
use Rattle.locked_store.proofs.Through.{answers_so}
use Rattle.locked_store.proofs.shared.Shared.checkpoint.Goals as goal

pub returns : goal.returns
returns g c =
    answers_so g.L.SharedLedger.start c.args.me.now c.checkpoint.result c.through.result c.checkpoint.new.me (λ s r d. IfOk r (λ cp. cp ≡ checkpoint_of (entry_count s) (facts_of s)) × (d ≡ s)) no_place _ _ c.through.ensures c.checkpoint.ensures
