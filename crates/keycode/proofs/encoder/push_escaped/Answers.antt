use Rattle.std.proofs.Common.{◌≡◌, ◌∙◌, ◌++◌, ℕ, List, sym, ap, length}
use Rattle.keycode.specs.inner.Run.{run_of}
use Rattle.keycode.proofs.Runs.{run_escaped}
use Rattle.keycode.proofs.encoder.push_escaped.Goals as goal

pub returns-then-count_run-text : goal.returns-then-count_run-text
returns-then-count_run-text c =
    let all : run_of c.args.text.now ≡ length c.args.text.now = sym c.count_run.ensures.run ∙ c.if-count_run-text.true in
    c.in_ok-extend_from_slice.ensures.items ∙ ap (λ (l : List ℕ). c.args.out.now.items ++ l) (sym (run_escaped c.args.text.now all))
