use Rattle.std.proofs.Common.{sym}
use Rattle.std.proofs.lemmas.Result.{err_from_is_err_and}
use Rattle.script_grammar.specs.Commands.{columns_at}
use Rattle.script_grammar.proofs.Selections.{columns_more, columns_end, columns_fail}
use Rattle.script_grammar.proofs.selection.columns.Goals as goal

pub returns-in_err-column : goal.returns-in_err-column
returns-in_err-column c =
    let p = err_from_is_err_and c.from_residual.result c.from_residual.ensures.1 in
    rw (p.1, p.2) (columns_fail c.in_err-column.field-0.0 c.columns.columns.items c.columns.rest.now (columns_at c.args.tokens.now) c.in_err-column.ensures c.columns.invariant)

pub returns-then-not-begins_with : goal.returns-then-not-begins_with
returns-then-not-begins_with c =
    rw (c.new.ensures, c.in_ok-push.ensures.items) (columns_end c.columns.columns.items c.columns.rest.now c.in_ok-column.column c.in_ok-column.behind.now (columns_at c.args.tokens.now) c.in_ok-column.ensures (sym c.if-not-begins_with.ensures) c.columns.invariant)

pub columns-preserved : goal.columns-preserved
columns-preserved c =
    rw (c.behind_first-rest.ensures, c.in_ok-push.ensures.items) (columns_more c.columns.columns.items c.columns.rest.now c.in_ok-column.column c.in_ok-column.behind.now (columns_at c.args.tokens.now) c.in_ok-column.ensures (sym c.if-not-begins_with.ensures) c.columns.invariant)
