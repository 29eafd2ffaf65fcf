use Rattle.std.proofs.Common.{length, sym, eqb-true}
use Rattle.audit.proofs.OwnPairs.{other, none}
use Rattle.audit.proofs.encoded_rows.may_be_of_row.Goals as goal

pub returns-then-is_empty : goal.returns-then-is_empty
returns-then-is_empty c = λ _. none c.args.key.now (eqb-true (length c.args.key.now) 0 (sym c.if-is_empty.ensures))

pub returns : goal.returns
returns c = λ no. other c.args.key.now no
