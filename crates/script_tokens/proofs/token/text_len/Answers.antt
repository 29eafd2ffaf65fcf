use Rattle.std.proofs.Common.{arith, ◌∙◌}
use Rattle.script_tokens.proofs.Quotes.{passes_other, passes_double}
use Rattle.script_tokens.proofs.token.text_len.Goals as goal

pub loop-len-preserved-then-bytes-len-ne39 : goal.loop-len-preserved-then-bytes-len-ne39
loop-len-preserved-then-bytes-len-ne39 c = record { in_range = omega arith; so_far = passes_other c.args.bytes.now c.loop-len.len (omega arith) c.if-bytes-len-ne39.true ∙ c.loop-len.invariant.so_far }

pub loop-len-preserved : goal.loop-len-preserved
loop-len-preserved c = record { in_range = omega arith; so_far = passes_double c.args.bytes.now c.loop-len.len (omega arith) c.if-bytes-len-ne39.false c.if-bytes-len-eq39.true ∙ c.loop-len.invariant.so_far }
