use Rattle.std.proofs.Common.{◌≡◌, drop, option_map}
use Rattle.row_write.specs.inner.Changes.{last_named}
use Rattle.row_write.proofs.values.last_cell.Given as goal

abbrev pub invariant-loop-number : goal.invariant-loop-number
invariant-loop-number l = last_named l.column (option_map (λ v. v.now) l.found) (drop l.number-index l.cells) ≡ last_named l.column (option_map (λ v. v.now) l.initial.before) l.cells
