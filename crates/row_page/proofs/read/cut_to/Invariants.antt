use Rattle.std.proofs.Common.{◌≡◌, filter}
use Rattle.row_query.specs.Answer.{is_named}
use Rattle.row_page.proofs.read.cut_to.Given as goal

abbrev pub invariant-loop-number : goal.invariant-loop-number
invariant-loop-number l = l.named.items ≡ filter (λ cell. is_named l.columns cell.0) l.yielded
