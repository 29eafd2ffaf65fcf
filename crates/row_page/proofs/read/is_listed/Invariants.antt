use Rattle.std.proofs.Common.{◌≡◌, drop}
use Rattle.row_query.specs.Answer.{is_named}
use Rattle.row_page.proofs.read.is_listed.Given as goal

abbrev pub invariant-loop-column : goal.invariant-loop-column
invariant-loop-column l = is_named (drop l.column-index l.columns) l.number ≡ is_named l.columns l.number
