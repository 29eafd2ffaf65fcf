use Rattle.std.proofs.Common.{[], ◌∷◌, sym, ap, ◌∙◌}
use Rattle.std.specs.FinMap as map
use Rattle.byte_map.proofs.Written.{noted-append}
use Rattle.layer_calls.proofs.given.viewed.Goals as goal

pub loop-key-preserved : goal.loop-key-preserved
loop-key-preserved c =
    c.in_ok-insert.ensures.ok
    ∙ ap (λ m. map.insert m c.in-Some.key c.in-Some.value) c.loop-key.invariant
    ∙ sym (noted-append c.loop-key.yielded ((c.in-Some.key, c.in-Some.value) ∷ []) map.empty)
