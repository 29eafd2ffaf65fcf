use Rattle.std.proofs.Common.{◌≡◌, ◌+◌, ◌<◌, length, arith, rules}
use Rattle.server.specs.Receipts.{AreAfter}
use Rattle.server.specs.State.{entries_before, entries_kept}
use Rattle.load.proofs.load_run.compare_counts.Goals as goal

pub returns-in-Ok : goal.returns-in-Ok
returns-in-Ok c counted none =
    let before = entries_before c.args.world.now in
    let kept = entries_kept c.args.world.now in
    let same : before + length kept ≡ 0 + length c.args.receipts.now = grind (arith, rules, counted, c.log_len.ensures.kept) in
    let after : AreAfter 0 c.args.receipts.now = λ i r at. omega (arith, (c.in-Ok.ensures.ok.stands i r at).0) in
    c.lemma_receipts_are_the_log.ensures before kept 0 c.args.receipts.now c.in-Ok.ensures.ok after same
