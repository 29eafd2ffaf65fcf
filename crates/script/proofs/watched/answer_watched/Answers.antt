use Rattle.std.proofs.Common.{false, ◌&&◌, ◌≡◌, arith, ap, ◌∙◌, refl}
use Rattle.std.proofs.lemmas.Result.{err_from_is_err_and}
use Rattle.std.proofs.lemmas.Iterator.Splits.{YieldsList-from_lines}
use Rattle.std.specs.Str.Iter.{lines_rest}
use Rattle.script.proofs.Texts.{byte_few}
use Rattle.script.proofs.Until.{none_passed, few_passed, passed_one, ended_at, ended_whole, ended_faulty}
use Rattle.script.proofs.watched.answer_watched.Goals.{else-stops-via-then-stops+else-verdict, else-stops-via-else-stops}
use Rattle.script.proofs.watched.answer_watched.Goals as goal

pub loop-line-init : goal.loop-line-init
loop-line-init g c = record {
  can_next = tt;
  is_finite = tt;
  done = none_passed _ _ _ _ _ (YieldsList-from_lines c.args.text.now (ap lines_rest c.into_iter-line-iterator.ensures.into_iter_gives ∙ c.lines-line-items.ensures.rest)) c.requires.start;
  few = omega arith;
}

pub overflow_add-lines : goal.overflow_add-lines
overflow_add-lines g c = omega (arith, few_passed _ _ _ _ _ _ _ _ c.loop-line.invariant.done c.requires.few)

pub overflow_add-bad : goal.overflow_add-bad
overflow_add-bad g c = omega (
  arith,
  few_passed _ _ _ _ _ _ _ _ c.loop-line.invariant.done c.requires.few,
  byte_few c.in_ok-verdict.verdict.is_bad c.from-bad.result c.from-bad.ensures,
)

pub returns-in_err-verdict : goal.returns-in_err-verdict
returns-in_err-verdict g c =
    let p = err_from_is_err_and c.from_residual.result c.from_residual.ensures.1 in
    rw (p.1, p.2) (ended_faulty _ _ c.loop-line.line-iterator c.next.new.self c.in-Some.line _ _ _ c.answer_one.new.session _ (g.W.Write.contents c.loop-line.writer) (g.W.Write.contents c.answer_one.new.writer) c.in_err-verdict.field-0.0 c.loop-line.invariant.done c.in-Some.ensures.steps c.in_err-verdict.ensures)

pub returns-then-verdict : goal.returns-then-verdict
returns-then-verdict g c =
    ended_at _ _ c.loop-line.line-iterator c.next.new.self c.in-Some.line _ _ _ _ _ _ _ _ c.in_ok-verdict.verdict _ c.loop-line.invariant.done c.in-Some.ensures.steps c.in_ok-verdict.ensures c.if-stops.true c.if-verdict.true c.from-bad.ensures refl

pub loop-line-preserved : goal.loop-line-preserved
loop-line-preserved g c =
    let goes : (c.args.stops && c.in_ok-verdict.verdict.is_wrong) ≡ false = elim c.else-stops.branch [ else-stops-via-then-stops+else-verdict w ↦ rw (w.if-stops.true, w.if-verdict.false) refl | else-stops-via-else-stops w ↦ rw (w.if-stops.false) refl ] in
    record {
      can_next = tt;
      is_finite = tt;
      done = passed_one _ _ c.loop-line.line-iterator c.next.new.self c.in-Some.line _ _ _ _ _ _ _ _ c.in_ok-verdict.verdict c.loop-line.invariant.done c.in-Some.ensures.steps c.in_ok-verdict.ensures goes c.from-bad.ensures;
      few = let h = byte_few c.in_ok-verdict.verdict.is_bad c.from-bad.result c.from-bad.ensures in omega arith;
    }

pub returns : goal.returns
returns g c = ended_whole _ _ _ _ _ _ _ _ _ c.loop-line.invariant.done c.in-None.ensures.steps
