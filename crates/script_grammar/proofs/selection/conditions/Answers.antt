use Rattle.std.proofs.Common.{sym}
use Rattle.std.proofs.lemmas.Result.{err_from_is_err_and}
use Rattle.script_grammar.specs.Commands.{conditions_of}
use Rattle.script_grammar.proofs.Selections.{conditions_more, conditions_end, conditions_fail, conditions_unjoined, conditions_out}
use Rattle.script_grammar.proofs.selection.conditions.Goals as goal

pub returns-in_err-condition-clause-exact : goal.returns-in_err-condition-clause-exact
returns-in_err-condition-clause-exact c =
    let p = err_from_is_err_and c.from_residual.result c.from_residual.ensures.1 in
    rw (p.1, p.2) (conditions_fail c.in_err-condition.field-0.0 c.conditions.conditions.items c.args.tokens.now c.conditions._bound-index c._bound-item.result c.conditions.rest.now (conditions_of c.args.tokens.now) c.conditions-test.true c.in_err-condition.ensures c.conditions.invariant)

pub returns-then-is_empty-clause-exact : goal.returns-then-is_empty-clause-exact
returns-then-is_empty-clause-exact c =
    rw (c.new.ensures, c.in_ok-push.ensures.items) (conditions_end c.conditions.conditions.items c.args.tokens.now c.conditions._bound-index c._bound-item.result c.conditions.rest.now c.in_ok-condition.condition c.in_ok-condition.behind.now (conditions_of c.args.tokens.now) c.conditions-test.true c.in_ok-condition.ensures (sym c.if-is_empty.ensures) c.conditions.invariant)

pub returns-in_err-after_word-clause-exact : goal.returns-in_err-after_word-clause-exact
returns-in_err-after_word-clause-exact c =
    let p = err_from_is_err_and c.from_residual-in_err-after_word.result c.from_residual-in_err-after_word.ensures.1 in
    rw (p.1, p.2) (conditions_unjoined c.in_err-after_word.field-0.0 c.conditions.conditions.items c.args.tokens.now c.conditions._bound-index c._bound-item.result c.conditions.rest.now c.in_ok-condition.condition c.in_ok-condition.behind.now (conditions_of c.args.tokens.now) c.conditions-test.true c.in_ok-condition.ensures (sym c.if-is_empty.ensures) c.in_err-after_word.ensures c.conditions.invariant)

pub conditions-preserved : goal.conditions-preserved
conditions-preserved c =
    rw (c.behind_first-rest.ensures, c.in_ok-push.ensures.items) (conditions_more c.conditions.conditions.items c.args.tokens.now c.conditions._bound-index c._bound-item.result c.conditions.rest.now c.in_ok-condition.condition c.in_ok-condition.behind.now c.in_ok-after_word.field-0.now (conditions_of c.args.tokens.now) c.conditions-test.true c.in_ok-condition.ensures c.in_ok-after_word.ensures c.conditions.invariant)

pub returns-clause-exact : goal.returns-clause-exact
returns-clause-exact c = conditions_out c.conditions.conditions.items c.args.tokens.now c.conditions._bound-index c.conditions.rest.now (conditions_of c.args.tokens.now) c.conditions-test.false c.conditions.invariant
