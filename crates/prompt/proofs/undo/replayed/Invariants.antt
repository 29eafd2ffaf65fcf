use Rattle.std.proofs.Common.{take}
use Rattle.script_json.specs.Session.{empty}
use Rattle.prompt.specs.Undo.{AreReplied}
use Rattle.prompt.proofs.undo.replayed.Given as goal

abbrev pub invariant-loop-line : goal.invariant-loop-line
invariant-loop-line l = AreReplied empty (take l.line-index l.lines) l.session
