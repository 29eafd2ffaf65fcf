use Rattle.std.proofs.Common.{◌∙◌, ◌++◌, ◌+◌, ◌≤◌, ℕ, List, [], length, ap, ap₂, take, drop, arith}
use Rattle.keycode.specs.Read.{content_at}
use Rattle.keycode.specs.inner.Run.{run_of}
use Rattle.keycode.proofs.Runs.{content_run}
use Rattle.keycode.proofs.decoder.first_run.Goals as goal

pub returns-clause-same : goal.returns-clause-same
returns-clause-same c =
    let fits : length {A = ℕ} [] + run_of c.args.bytes.now ≤ 1024 = omega (arith, c.count_run-count.ensures.run, c.if-count-gt-TEXT_LIMIT.false) in
    ap₂ content_at (c.in_ok-extend_from_slice.ensures.items ∙ ap₂ (λ (a b : List ℕ). a ++ b) c.in_ok-content.ensures.items c.split_at.ensures.front) c.split_at.ensures.back
    ∙ ap (λ n. content_at (take n c.args.bytes.now) (drop n c.args.bytes.now)) c.count_run-count.ensures.run
    ∙ content_run [] c.args.bytes.now fits
