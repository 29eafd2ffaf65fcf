use Rattle.std.proofs.Common.{◌≤◌}
use Rattle.prompt.specs.Conversation.{IsSoFar}
use Rattle.prompt.proofs.conversation.answer_all.Given as goal

abbrev pub invariant-loop-lines : goal.invariant-loop-lines
invariant-loop-lines g l = record {
  done : IsSoFar g.F.Files.keeps l.fn.state l.form (g.R.Read.remaining l.fn.streams.reader) (g.R.Read.remaining l.streams.reader) (g.W.Write.contents l.fn.streams.writer) (g.W.Write.contents l.streams.writer) l.lines l.bad l.state;
  few : l.bad ≤ l.lines;
}
