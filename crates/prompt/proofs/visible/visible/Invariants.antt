use Rattle.std.proofs.Common.{◌≡◌, take}
use Rattle.std.specs.List.{flat_map}
use Rattle.prompt.specs.Conversation.{visible_byte}
use Rattle.prompt.proofs.visible.visible.Given as goal

abbrev pub invariant-loop-byte : goal.invariant-loop-byte
invariant-loop-byte l = l.shown.items ≡ flat_map visible_byte (take l.byte-index l.text)
