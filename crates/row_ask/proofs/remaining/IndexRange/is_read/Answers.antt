use Rattle.std.proofs.Common.{sym, ap, ◌∙◌}
use Rattle.std.specs.Ordering.{is_eq}
use Rattle.keycode.specs.Order.{bytes_cmp}
use Rattle.row_ask.proofs.Gathers.{nothing_left}
use Rattle.row_ask.proofs.remaining.IndexRange.is_read.Goals as goal

pub returns-clause-nothing_left : goal.returns-clause-nothing_left
returns-clause-nothing_left c = λ t. nothing_left c.args.self.now (ap (λ high. is_eq (bytes_cmp c.args.self.now.low high)) (sym c.as_slice.ensures) ∙ ap is_eq (sym c.compare.ensures) ∙ sym c.is_eq.ensures ∙ t)
