use Rattle.std.proofs.Common.{◌∙◌, sym}
use Rattle.script_tokens.proofs.Cuts.{cut_hit, cut_miss, cut_none}
use Rattle.script_tokens.proofs.read.place.Goals as goal

pub returns-then-is_mark-clause-cut : goal.returns-then-is_mark-clause-cut
returns-then-is_mark-clause-cut c =
    sym (cut_hit c.args.wanted c.args.tokens.now c.loop-i.i c.index-tokens-i.result c.loop-i-test.true c.index-tokens-i.is (sym c.is_mark.ensures ∙ c.if-is_mark.true) c.loop-i.invariant)

pub loop-i-preserved : goal.loop-i-preserved
loop-i-preserved c = cut_miss c.args.wanted c.args.tokens.now c.loop-i.i c.index-tokens-i.result c.loop-i-test.true c.index-tokens-i.is (sym c.is_mark.ensures ∙ c.if-is_mark.false) c.loop-i.invariant

pub returns-clause-cut : goal.returns-clause-cut
returns-clause-cut c = sym (cut_none c.args.wanted c.args.tokens.now c.loop-i.i c.loop-i-test.false c.loop-i.invariant)
