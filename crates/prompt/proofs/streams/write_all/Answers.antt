use Rattle.std.proofs.Common.{◌++◌, take, drop, sym, ap, ◌∙◌, append_assoc, ℕ}
use Rattle.std.proofs.Math.ListN.{take-append-drop}
use Rattle.std.proofs.KnownBytes.{Appends-trans}
use Rattle.prompt.proofs.streams.write_all.Goals as goal

pub loop-rest-preserved : goal.loop-rest-preserved
loop-rest-preserved g c =
    let prefix = c.loop-rest.invariant.0 in
    let n = c.in-Ok.count in
    let rest = c.loop-rest.rest.now in (
      prefix ++ take n rest,
      Appends-trans _ _ _ prefix (take n rest) c.loop-rest.invariant.1 c.in-Ok.ensures.bytes,
      c.loop-rest.invariant.2 ∙ ap (λ r. prefix ++ r) (sym (take-append-drop n rest)) ∙ sym (append_assoc {A = ℕ} prefix (take n rest) (drop n rest)) ∙ ap (λ r. (prefix ++ take n rest) ++ r) (sym c.split_at.ensures.back),
    )
