use Rattle.std.proofs.Common.{◌≡◌, reverse, arith, inl, inr, ap, ◌∙◌}
use Rattle.std.proofs.lemmas.Grind.{common_steps}
use Rattle.lease.specs.Timeline.{Timeline}
use Rattle.lease.proofs.Stood.{stood_version, stood_until}
use Rattle.lease.proofs.timeline.Timeline.was_newest.Goals.{then-next-published, else-next-published}
use Rattle.lease.proofs.timeline.Timeline.was_newest.Goals as goal

pub returns-then-version-eq0 : goal.returns-then-version-eq0
returns-then-version-eq0 c =
    let same : reverse c.as_slice-published.result.now ≡ c.args.self.now.published =
    ap reverse c.as_slice-published.ensures.value ∙ ap (λ (line : Timeline). line.published) c.self.view_is in
    let h = stood_version c.args.self.now.published c.as_slice-published.result.now c.args.version c.args.moment c.args.now same in
    grind (arith, common_steps, h)

pub returns-then-published-next : goal.returns-then-published-next
returns-then-published-next c =
    let same : reverse c.as_slice-published.result.now ≡ c.args.self.now.published =
    ap reverse c.as_slice-published.ensures.value ∙ ap (λ (line : Timeline). line.published) c.self.view_is in
    let h = stood_until c.args.self.now.published c.as_slice-published.result.now c.args.version c.args.moment c.args.now c.if-next-published.until same (omega arith) (omega arith)
    (elim c.if-next-published.branch [ then-next-published w ↦ inl (w.if-next-published.true, w.until-is) | else-next-published w ↦ inr (w.if-next-published.false, w.until-is) ]) in
    grind (arith, common_steps, h)

pub returns-else-published-next : goal.returns-else-published-next
returns-else-published-next c =
    let same : reverse c.as_slice-published.result.now ≡ c.args.self.now.published =
    ap reverse c.as_slice-published.ensures.value ∙ ap (λ (line : Timeline). line.published) c.self.view_is in
    let h = stood_until c.args.self.now.published c.as_slice-published.result.now c.args.version c.args.moment c.args.now c.if-next-published.until same (omega arith) (omega arith)
    (elim c.if-next-published.branch [ then-next-published w ↦ inl (w.if-next-published.true, w.until-is) | else-next-published w ↦ inr (w.if-next-published.false, w.until-is) ]) in
    grind (arith, common_steps, h)
