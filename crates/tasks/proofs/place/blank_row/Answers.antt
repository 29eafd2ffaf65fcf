use Rattle.std.proofs.Common.{rules}
use Rattle.tasks.proofs.Done.{fit_more}
use Rattle.tasks.proofs.Places.{row_more, none_more}
use Rattle.tasks.proofs.place.blank_row.Goals as goal

pub loop-number-preserved : goal.loop-number-preserved
loop-number-preserved g c =
    let n = c.loop-number.number in
    let o = c.undrawn.result in
    let os = c.loop-number.outcomes.items in
    let is = c.push_reserved.ensures.items in
    record {
      row = row_more n os _ o is c.loop-number.invariant.row;
      none = (none_more g.W.Worker.held os _ n o is c.loop-number.invariant.none.0 c.undrawn.ensures.none, none_more g.W.Worker.reported os _ n o is c.loop-number.invariant.none.1 c.undrawn.ensures.untried);
      fits = λ plan. fit_more (g.W.Worker.fits plan) os _ n o is (c.loop-number.invariant.fits plan) (c.undrawn.ensures.fits plan n);
      room = search rules;
    }
