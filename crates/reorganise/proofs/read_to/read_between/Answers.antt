use Rattle.std.proofs.Common.{◌∙◌, ◌≡◌}
use Rattle.std.specs.FinMap as map
use Rattle.reorganise.proofs.Items.{Pair}
use Rattle.reorganise.proofs.ReadTo.{copied_first, copied_more, copied_all}
use Rattle.reorganise.proofs.read_to.read_between.Goals as goal

pub loop-key-init : goal.loop-key-init
loop-key-init g c = copied_first (g.V.PairView.pairs c.args.view.now) c.args.low.now c.args.high.now c.new-pairs.result _ c.requires c.new-pairs.ensures c.walk_within-walk.ensures

pub loop-key-preserved : goal.loop-key-preserved
loop-key-preserved g c =
    let p : Pair = (c.in-Some.key.now, c.in-Some.value.now) in
    let more : c.insert.new.self ≡ map.insert c.loop-key.pairs p.0 p.1 = c.in_ok-insert.ensures.ok ∙ λ i. map.insert c.loop-key.pairs (c.in_ok-name.ensures i) (c.in_ok-copy_bytes.ensures i) in
    copied_more (g.V.PairView.pairs c.args.view.now) c.args.low.now c.args.high.now c.loop-key.pairs c.loop-key.walk c.loop-key.invariant p _ c.in-Some.ensures.found c.insert.new.self more

pub returns : goal.returns
returns g c = copied_all (g.V.PairView.pairs c.args.view.now) c.args.low.now c.args.high.now c.loop-key.pairs c.loop-key.walk c.loop-key.invariant c.in_default.ensures.none
