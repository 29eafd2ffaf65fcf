use Rattle.std.specs.Prelude.{string_bytes}
use Rattle.script_replies.proofs.Joining.{in_a_row}
use Rattle.script_replies.proofs.plan_items.join_items.Goals as goal

pub returns : goal.returns
returns c = in_a_row string_bytes c.join.result string_bytes c.in_ok-texts.texts.items c.as_slice.result.now _ c.in_ok-texts.ensures c.as_slice.ensures.value c.join.ensures.ok
