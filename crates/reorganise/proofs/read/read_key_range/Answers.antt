use Rattle.std.proofs.Common.{sym, ◌∙◌, ◌≡◌, true, false, arith}
use Rattle.std.specs.FinMap as map
use Rattle.reorganise.proofs.Items.{Pair}
use Rattle.reorganise.proofs.KeyRanges.{underway_first, underway_next, underway_none, underway_more, read_to_end, comes_to_end, read_to_item, comes_to_item}
use Rattle.reorganise.proofs.read.read_key_range.Goals as goal
use Rattle.reorganise.proofs.read.read_key_range.Goals.{then-branch+else-left-eq0, else-branch}

pub loop-key-init : goal.loop-key-init
loop-key-init g c = underway_first c.args.scan_range (g.V.PairView.pairs c.args.view.now) c.args.cursor.now c.args.high.now c.args.limit c.new-pairs.result _ c.requires c.new-pairs.ensures c.walk_within-walk.ensures

pub returns-then-left-eq0-clause-exact : goal.returns-then-left-eq0-clause-exact
returns-then-left-eq0-clause-exact g c =
    let pairs = g.V.PairView.pairs c.args.view.now in
    let so_far = c.loop-key.invariant in
    let p : Pair = (c.in-Some.key.now, c.in-Some.value.now) in
    let first = underway_next c.args.scan_range pairs c.args.cursor.now c.args.high.now c.args.limit c.loop-key.left c.loop-key.pairs c.loop-key.walk so_far p _ c.in-Some.ensures.found in
    read_to_item c.args.scan_range pairs c.args.cursor.now c.args.high.now c.args.limit so_far.at c.loop-key.left c.loop-key.pairs so_far.read p first c.if-left-eq0.true (sym c.in_ok-is_item.ensures.test ∙ c.if-branch.true) c.in_ok-low.low c.in_ok-high.high c.in_ok-low.ensures c.in_ok-high.ensures

pub returns-then-left-eq0-clause-comes : goal.returns-then-left-eq0-clause-comes
returns-then-left-eq0-clause-comes g c =
    let pairs = g.V.PairView.pairs c.args.view.now in
    let so_far = c.loop-key.invariant in
    let p : Pair = (c.in-Some.key.now, c.in-Some.value.now) in
    let first = underway_next c.args.scan_range pairs c.args.cursor.now c.args.high.now c.args.limit c.loop-key.left c.loop-key.pairs c.loop-key.walk so_far p _ c.in-Some.ensures.found in
    comes_to_item c.args.scan_range pairs c.args.cursor.now c.args.high.now c.args.limit so_far.at c.loop-key.left c.loop-key.pairs so_far.read p first (c.in_ok-is_item.ensures.known c.if-branch.true) c.in_ok-high.high c.in_ok-high.ensures

pub loop-key-preserved : goal.loop-key-preserved
loop-key-preserved g c =
    let pairs = g.V.PairView.pairs c.args.view.now in
    let so_far = c.loop-key.invariant in
    let p : Pair = (c.in-Some.key.now, c.in-Some.value.now) in
    let more : c.insert.new.self ≡ map.insert c.loop-key.pairs p.0 p.1 = c.in_ok-insert.ensures.ok ∙ λ i. map.insert c.loop-key.pairs (c.in_ok-name.ensures i) (c.in_ok-copy_bytes.ensures i) in
    elim c.if-branch.branch [
      | then-branch+else-left-eq0 w ↦
          underway_more c.args.scan_range pairs c.args.cursor.now c.args.high.now c.args.limit c.loop-key.left c.loop-key.pairs c.loop-key.walk so_far p _ c.in-Some.ensures.found true (sym c.in_ok-is_item.ensures.test ∙ w.if-branch.true)
          c.insert.new.self more c.if-branch.left (omega (arith, w.left-is, w.if-left-eq0.false))
      | else-branch w ↦
          underway_more c.args.scan_range pairs c.args.cursor.now c.args.high.now c.args.limit c.loop-key.left c.loop-key.pairs c.loop-key.walk so_far p _ c.in-Some.ensures.found false (sym c.in_ok-is_item.ensures.test ∙ w.if-branch.false)
          c.insert.new.self more c.if-branch.left (omega (arith, w.left-is))
    ]

pub returns-clause-exact : goal.returns-clause-exact
returns-clause-exact g c =
    let pairs = g.V.PairView.pairs c.args.view.now in
    let so_far = c.loop-key.invariant in
    let none = underway_none c.args.scan_range pairs c.args.cursor.now c.args.high.now c.args.limit c.loop-key.left c.loop-key.pairs c.loop-key.walk so_far c.in_default.ensures.none in
    read_to_end c.args.scan_range pairs c.args.cursor.now c.args.high.now c.args.limit so_far.at c.loop-key.left c.loop-key.pairs so_far.read none c.in_ok-low-2.low c.in_ok-high-2.high c.in_ok-low-2.ensures c.in_ok-high-2.ensures

pub returns-clause-comes : goal.returns-clause-comes
returns-clause-comes g c =
    let so_far = c.loop-key.invariant in
    comes_to_end c.args.scan_range (g.V.PairView.pairs c.args.view.now) c.args.cursor.now c.args.high.now c.args.limit so_far.at c.loop-key.left c.loop-key.pairs so_far.read c.in_ok-high-2.high c.in_ok-high-2.ensures
