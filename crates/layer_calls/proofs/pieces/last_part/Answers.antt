use Rattle.std.proofs.Common.{subst, Option, get_or, ◌-◌}
use Rattle.reorganise.specs.declared.read.Reading.{Reading}
use Rattle.row_map.specs.Rows.{Bytes}
use Rattle.layer_calls.specs.Pieces.{IsPartTo}
use Rattle.layer_calls.proofs.LastPart.{Stays, one_less, here_and_on}
use Rattle.layer_calls.proofs.pieces.last_part.Goals as goal

pub loop-at-preserved : goal.loop-at-preserved
loop-at-preserved c =
    let pair : Bytes × Bytes = get_or c.args.pairs.now (c.loop-at.at - 1) c.index-pairs-at.result in
    let none = subst (λ (found : Option Reading). IsPartTo c.args.progress.now c.args.view.now c.args.piece c.args.cursor.now pair.0 found) c.in_default.is c.in_ok-found.ensures in
    one_less (Stays c.args.progress.now c.args.piece c.args.cursor.now) c.args.pairs.now c.loop-at.at c.index-pairs-at.result c.loop-at-test.true c.loop-at.invariant.0 c.loop-at.invariant.1 none

pub returns-in-Some : goal.returns-in-Some
returns-in-Some c =
    let pair : Bytes × Bytes = get_or c.args.pairs.now (c.loop-at.at - 1) c.index-pairs-at.result in
    let gone = subst (λ (found : Option Reading). IsPartTo c.args.progress.now c.args.view.now c.args.piece c.args.cursor.now pair.0 found) c.in-Some.is c.in_ok-found.ensures in
    let on = here_and_on (Stays c.args.progress.now c.args.piece c.args.cursor.now) c.args.pairs.now c.loop-at.at c.index-pairs-at.result c.loop-at-test.true c.loop-at.invariant.0 c.loop-at.invariant.1 in
    (c.loop-at.at - 1, pair, on.0, gone, on.1)
