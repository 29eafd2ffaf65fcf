use Rattle.std.proofs.Common.{◌≡◌, true, false, refl, sym, ap, ◌∙◌}
use Rattle.lease.specs.Restored.{is_timeline}
use Rattle.lease.proofs.Restored.{decides, not_both}
use Rattle.lease.proofs.timeline.Timeline.restored.Goals as goal

pub returns-then-not-is_timeline-clause-exact : goal.returns-then-not-is_timeline-clause-exact
returns-then-not-is_timeline-clause-exact c =
    let test : is_timeline c.args.length c.args.published.items ≡ false = ap (is_timeline c.args.length) (sym c.as_slice.ensures.value) ∙ cc in
    (λ e. cc, λ valid. absurd (not_both ((decides c.args.length c.args.published.items).1 valid) test))

pub invariant_of-result : goal.invariant_of-result
invariant_of-result c =
    let test : is_timeline c.args.length c.args.published.items ≡ true = ap (is_timeline c.args.length) (sym c.as_slice.ensures.value) ∙ cc in
    (decides c.args.length c.args.published.items).0 test

pub returns-clause-exact : goal.returns-clause-exact
returns-clause-exact c =
    let test : is_timeline c.args.length c.args.published.items ≡ true = ap (is_timeline c.args.length) (sym c.as_slice.ensures.value) ∙ cc in
    (λ e. (decides c.args.length c.args.published.items).0 test, λ valid. refl)
