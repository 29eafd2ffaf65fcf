use Rattle.std.proofs.Common.{◌≡◌}
use Rattle.rollout.specs.State.{entries_before, entries_kept}
use Rattle.locked_store.proofs.Through.{only_taken}
use Rattle.locked_store.proofs.shared.Shared.cut.Goals as goal

pub returns-in-Ok : goal.returns-in-Ok
returns-in-Ok g c = only_taken g.L.SharedLedger.start c.args.me.now c.in-Ok._taken c.take_log.new.me (λ s x. (x.0 ≡ entries_before s) × (x.1.items ≡ entries_kept s)) c.in-Ok.ensures
