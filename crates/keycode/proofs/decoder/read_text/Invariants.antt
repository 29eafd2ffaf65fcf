use Rattle.std.proofs.Common.{◌≡◌, [], length}
use Rattle.keycode.specs.Read.{content_at}
use Rattle.keycode.proofs.decoder.read_text.Given as goal

abbrev pub invariant-loop-rest : goal.invariant-loop-rest
invariant-loop-rest l = content_at l.content.items l.rest ≡ content_at [] l.bytes

abbrev pub decreases-loop-rest : goal.decreases-loop-rest
decreases-loop-rest l = length l.rest
