use Rattle.std.proofs.Common.{◌≡◌, ◌+◌, ◌-◌, arith, length, take, drop}
use Rattle.std.proofs.lemmas.Grind.{common_steps}
use Rattle.std.proofs.lemmas.Result.{err_from_is_err_and}
use Rattle.script_tokens.specs.Productions.{each, parts}
use Rattle.script_tokens.proofs.Cuts.{each_more, each_fails, each_last, each_last_fails}
use Rattle.script_tokens.proofs.production.read_each.Goals as goal

pub returns-in_err-read-in-Some : goal.returns-in_err-read-in-Some
returns-in_err-read-in-Some g c =
    let p = err_from_is_err_and c.from_residual.result c.from_residual.ensures.1 in
    rw (p.1, p.2) (each_fails c.in_err-read-in-Some.field-0.0 c.args.separator g.T.Production.parsed c.parts.items.items c.parts.rest.now (take c.in-Some.i c.parts.rest.now) (drop (c.in-Some.i + 1) c.parts.rest.now) (each g.T.Production.parsed (parts c.args.separator c.args.tokens.now)) c.in-Some.ensures.cut c.in_err-read-in-Some.ensures c.parts.invariant.so_far)

pub parts-preserved : goal.parts-preserved
parts-preserved g c =
    let left : take (length c.parts.rest.now - (c.in-Some.i + 1)) (drop (c.in-Some.i + 1) c.parts.rest.now) ≡ drop (c.in-Some.i + 1) c.parts.rest.now = grind (arith, common_steps) in
    rw (c.in_ok-push-in-Some.ensures.items, left) record {
      so_far = each_more c.args.separator g.T.Production.parsed c.parts.items.items c.parts.rest.now (take c.in-Some.i c.parts.rest.now) (drop (c.in-Some.i + 1) c.parts.rest.now) c.in_ok-read-in-Some.field-0 (each g.T.Production.parsed (parts c.args.separator c.args.tokens.now)) c.in-Some.ensures.cut c.in_ok-read-in-Some.ensures c.parts.invariant.so_far;
      shorter = grind (arith, common_steps);
    }

pub returns-in_err-read-in-None : goal.returns-in_err-read-in-None
returns-in_err-read-in-None g c =
    let p = err_from_is_err_and c.from_residual-in_err-read-in-None.result c.from_residual-in_err-read-in-None.ensures.1 in
    rw (p.1, p.2) (each_last_fails c.in_err-read-in-None.field-0.0 c.args.separator g.T.Production.parsed c.parts.items.items c.parts.rest.now (each g.T.Production.parsed (parts c.args.separator c.args.tokens.now)) c.in-None.ensures.cut c.in_err-read-in-None.ensures c.parts.invariant.so_far)

pub returns-in-None : goal.returns-in-None
returns-in-None g c =
    rw (c.new.ensures, c.in_ok-push-in-None.ensures.items) (each_last c.args.separator g.T.Production.parsed c.parts.items.items c.parts.rest.now c.in_ok-read-in-None.field-0 (each g.T.Production.parsed (parts c.args.separator c.args.tokens.now)) c.in-None.ensures.cut c.in_ok-read-in-None.ensures c.parts.invariant.so_far)
