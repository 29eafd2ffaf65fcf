use Rattle.std.proofs.Common.{string_bytes}
use Rattle.std.proofs.lemmas.Result.{IfOk-weaker}
use Rattle.script_replies.proofs.Lines.{reported}
use Rattle.script_replies.proofs.status.status_line.Goals as goal

pub returns : goal.returns
returns c = IfOk-weaker c.to_string.result _ _ (λ text written. reported c.args.world.now c.in_ok-usable.usable.items c.as_slice.result.now _ (string_bytes text) c.in_ok-usable.ensures c.as_slice.ensures.value c.in_ok-status_value.ensures written) c.to_string.ensures.text
