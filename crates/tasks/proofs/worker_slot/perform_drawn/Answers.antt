use Rattle.std.proofs.Common.{◌++◌, ◌∷◌, [], ◌∙◌, ap, arith, subst}
use Rattle.tasks.specs.Outcomes.{numbers_of}
use Rattle.tasks.proofs.Done.{one_more, none_more, fit_more, held_more}
use Rattle.tasks.proofs.worker_slot.perform_drawn.Goals as goal

pub returns-in_default-clause-numbers : goal.returns-in_default-clause-numbers
returns-in_default-clause-numbers g c =
    ap numbers_of c.reserve.ensures.items ∙ none_more _ _ _ _ c.loop-i.invariant.numbers c.in_default.ensures

pub loop-i-preserved : goal.loop-i-preserved
loop-i-preserved g c =
    let n = c.in-Some.number in
    let o = c.outcome_told-outcome.result in
    let before = c.loop-i.invariant in
    let is = c.push_reserved.ensures.items ∙ ap (λ l. l ++ (n, o) ∷ []) c.reserve.ensures.items in
    record {
      numbers = one_more _ c.loop-i.done.items _ o _ _ n before.numbers is c.in-Some.ensures;
      plan = c.outcome_told-outcome.ensures.same.0 ∙ before.plan;
      id = c.outcome_told-outcome.ensures.same.1 ∙ before.id;
      fits = λ all. fit_more (g.W.Worker.fits (g.W.Worker.plan c.args.worker.now)) c.loop-i.done.items _ n o is (before.fits all) (subst (λ p. g.W.Worker.fits p n o) before.plan c.outcome_told-outcome.ensures.fits);
      counted = omega (arith, before.counted, held_more g.W.Worker.held c.loop-i.done.items _ n o is, c.outcome_told-outcome.ensures.counted);
      tried = omega (arith, before.tried, held_more g.W.Worker.reported c.loop-i.done.items _ n o is, c.outcome_told-outcome.ensures.tried);
    }
