use Rattle.std.proofs.Common.{All, ◌≡◌}
use Rattle.tasks_tests.proofs.squares.squarers.Given as goal

abbrev pub invariant-loop-id : goal.invariant-loop-id
invariant-loop-id l = All (λ w. w.total ≡ l.total) l.workers.items
