use Rattle.std.proofs.Common.{◌≡◌, IfOk, subst}
use Rattle.checkpoint_code.specs.declared.head.Head.{Head}
use Rattle.checkpoint_code.specs.Head.{head_code}
use Rattle.saved_world.proofs.Known.{known_of}
use Rattle.saved_world.proofs.head.save_head.Goals as goal

pub returns-clause-code : goal.returns-clause-code
returns-clause-code c = subst (λ (h : Head). IfOk c.head_bytes.result (λ bytes. bytes.items ≡ head_code h)) c.in_ok-head.ensures c.head_bytes.ensures.code

pub returns-clause-known : goal.returns-clause-known
returns-clause-known c = known_of c.args.checkpoint.now c.in_ok-head.head c.head_bytes.result c.lemma_whole.ensures c.in_ok-head.ensures c.lemma_sound.ensures.newest c.lemma_sound.ensures.before c.head_bytes.ensures.known
