use Rattle.std.proofs.Common.{◌≡◌}
use Rattle.rollout.specs.Snapshot.{SnapshotStep}
use Rattle.locked_store.specs.Answers.{no_place}
use Rattle.locked_store.proofs.Through.{answers_so}
use Rattle.locked_store.proofs.shared.Shared.snapshot.Goals as goal

pub returns : goal.returns
returns g c =
    answers_so g.L.SharedLedger.start c.args.me.now c.snapshot.result c.through.result c.snapshot.new.me (λ s r d. SnapshotStep s c.args.moment c.args.lease.now r × (d ≡ s)) no_place _ _ c.through.ensures c.snapshot.ensures
