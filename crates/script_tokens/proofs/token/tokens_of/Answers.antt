use Rattle.std.proofs.Common.{◌≡◌, ◌-◌, sym, arith, length, take, drop}
use Rattle.std.proofs.lemmas.Grind.{common_steps}
use Rattle.script_tokens.proofs.Skips.{skips_space, takes_token, finds_none, at_end}
use Rattle.script_tokens.proofs.token.tokens_of.Goals as goal

pub loop-first-preserved-then-first-eq32 : goal.loop-first-preserved-then-first-eq32
loop-first-preserved-then-first-eq32 c =
    skips_space c.loop-first.tokens.items c.loop-first.rest.now c.in-Some.after.now c.args.line.now c.in-Some.first.now c.in-Some.ensures.cases.0 c.if-first-eq32.true c.loop-first.invariant

pub loop-first-preserved : goal.loop-first-preserved
loop-first-preserved c =
    let h = takes_token c.loop-first.tokens.items c.loop-first.rest.now c.in-Some.after.now c.args.line.now c.in-Some.first.now c.in-Some-token_at.token c.in-Some-token_at.len c.in-Some.ensures.cases.0 c.if-first-eq32.false (sym c.in-Some-token_at.ensures.value) c.loop-first.invariant in
    let left : take (length c.in-Some.after.now - c.in-Some-token_at.len) (drop c.in-Some-token_at.len c.in-Some.after.now) ≡ drop c.in-Some-token_at.len c.in-Some.after.now = grind (arith, common_steps) in
    rw (c.in_ok-push-in-Some-token_at.ensures.items, left) h

pub returns-in-None : goal.returns-in-None
returns-in-None c =
    finds_none c.loop-first.tokens.items c.loop-first.rest.now c.in-Some.after.now c.args.line.now c.in-Some.first.now c.in-Some.ensures.cases.0 c.if-first-eq32.false (sym c.in-None.ensures.value) c.loop-first.invariant

pub returns : goal.returns
returns c = at_end c.loop-first.tokens.items c.loop-first.rest.now c.args.line.now c.in_default.ensures.cases c.loop-first.invariant
