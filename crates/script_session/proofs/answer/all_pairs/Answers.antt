use Rattle.std.proofs.Common.{refl}
use Rattle.script_session.proofs.Pairs.{from_start, reported_more, reported_all, counted_more, counted_all}
use Rattle.script_session.proofs.answer.all_pairs.Goals as goal

pub loop-key-init : goal.loop-key-init
loop-key-init c = from_start c.args.world.now.pairs _ _ c.new-text.ensures.bytes c.walk-walk.ensures

pub loop-key-preserved : goal.loop-key-preserved
loop-key-preserved c = (
  reported_more _ _ _ _ _ _ c.in-Some.ensures.found c.loop-key.invariant.0 c.in_ok-push_pair.ensures,
  counted_more _ _ _ _ _ _ c.in-Some.ensures.found c.loop-key.invariant.1 refl,
)

pub returns-clause-text : goal.returns-clause-text
returns-clause-text c = reported_all _ _ _ c.in_default.ensures.none c.loop-key.invariant.0

pub returns-clause-number : goal.returns-clause-number
returns-clause-number c = counted_all _ _ _ c.in_default.ensures.none c.loop-key.invariant.1
