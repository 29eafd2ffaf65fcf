use Rattle.piece_work.proofs.Rounds.{spent_on, was_read, next_refused, has_ended}
use Rattle.std.proofs.Common.{arith}
use Rattle.piece_work.proofs.next_piece.next_view.Goals as goal

pub returns-in-Ok-Some : goal.returns-in-Ok-Some
returns-in-Ok-Some c =
    (c.loop-piece.piece, was_read c.args.world.now c.args.element c.in-Ok.pieces c.loop-piece.piece c.args.limit c.in-Ok-Some.view c.loop-piece.invariant.at (rw c.in-Ok-Some.field-0-is at c.in-Ok-Some.ensures.read))

pub loop-piece-preserved : goal.loop-piece-preserved
loop-piece-preserved c = record {
  at = spent_on c.args.world.now c.args.element c.in-Ok.pieces c.loop-piece.piece c.args.limit c.loop-piece.invariant.at (rw c.in-Ok-None.field-0-is at c.in-Ok-None.ensures.read);
  within = omega (arith, c.loop-piece-test.true);
}

pub returns-in-Err : goal.returns-in-Err
returns-in-Err c = c.in-Err.ensures.refused c.args.limit

pub returns-in-Err-next_items : goal.returns-in-Err-next_items
returns-in-Err-next_items c =
    next_refused c.args.world.now c.args.element c.in-Ok.pieces c.loop-piece.piece c.args.limit c.in-Err-next_items.fault c.loop-piece.invariant.at c.loop-piece-test.true c.in-Err-next_items.ensures.refused c.in-Err-next_items.ensures.other

pub returns : goal.returns
returns c = has_ended c.args.world.now c.args.element c.in-Ok.pieces c.loop-piece.piece c.loop-piece.invariant.at c.loop-piece.invariant.within c.loop-piece-test.false
