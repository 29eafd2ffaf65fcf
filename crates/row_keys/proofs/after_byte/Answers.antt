use Rattle.std.proofs.Common.{sym, subst, List, ℕ, option_map}
use Rattle.row_keys.specs.inner.After.{IsAfter}
use Rattle.row_keys.proofs.Codes.{escape_zero, escape_other}
use Rattle.row_keys.proofs.after_byte.Goals as goal

pub returns-then-byte-eq0 : goal.returns-then-byte-eq0
returns-then-byte-eq0 c = subst (λ (l : List ℕ). IsAfter l c.args.bytes.now (option_map (λ s. s.now) c.after.result)) (sym (escape_zero c.args.byte c.if-byte-eq0.true)) c.after.ensures

pub returns-else-byte-eq0 : goal.returns-else-byte-eq0
returns-else-byte-eq0 c = subst (λ (l : List ℕ). IsAfter l c.args.bytes.now (option_map (λ s. s.now) c.after-else-byte-eq0.result)) (sym (escape_other c.args.byte c.if-byte-eq0.false)) c.after-else-byte-eq0.ensures
