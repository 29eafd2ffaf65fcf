use Rattle.std.proofs.Common.{sym, subst, List, ℕ, option_map, ◌∙◌}
use Rattle.row_keys.specs.inner.After.{IsAfter}
use Rattle.row_keys.proofs.Codes.{plain_text}
use Rattle.row_keys.proofs.after_escaped.Goals as goal

pub returns-then-has_no_zero : goal.returns-then-has_no_zero
returns-then-has_no_zero c = subst (λ (l : List ℕ). IsAfter l c.args.bytes.now (option_map (λ s. s.now) c.after.result)) (sym (plain_text c.args.text.now (sym c.has_no_zero.ensures ∙ c.if-has_no_zero.true))) c.after.ensures
