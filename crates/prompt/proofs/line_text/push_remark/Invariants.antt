use Rattle.std.proofs.Common.{◌≡◌, ◌++◌, take}
use Rattle.std.specs.List.{flat_map}
use Rattle.prompt.specs.Conversation.{remark_byte}
use Rattle.prompt.proofs.line_text.push_remark.Given as goal

abbrev pub invariant-loop-byte : goal.invariant-loop-byte
invariant-loop-byte l = l.out.items ≡ l.fn.out.items ++ flat_map remark_byte (take l.byte-index l.remark)
