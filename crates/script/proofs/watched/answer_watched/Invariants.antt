use Rattle.std.proofs.Common.{◌≤◌}
use Rattle.script.proofs.Until.{Passed}
use Rattle.script.proofs.watched.answer_watched.Given as goal

abbrev pub invariant-loop-line : goal.invariant-loop-line
invariant-loop-line g l = record {
  can_next : (goal.iterator-loop-line g).can_next l.line-iterator;
  is_finite : (goal.iterator-loop-line g).is_finite l.line-iterator;
  done : Passed l.stops l.text l.line-iterator l.lines l.bad l.session (g.W.Write.contents l.fn.writer) (g.W.Write.contents l.writer);
  few : l.bad ≤ l.lines;
}
