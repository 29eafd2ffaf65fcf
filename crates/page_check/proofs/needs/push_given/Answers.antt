use Rattle.std.proofs.Common.{option_map, ap, ◌∙◌}
use Rattle.schema_version.specs.declared.element.ElementDef.{ElementDef}
use Rattle.page_check.specs.Needs.{besides, given_range}
use Rattle.page_check.proofs.Ranges.{added_one}
use Rattle.page_check.proofs.needs.push_given.Goals as goal

pub loop-element-preserved : goal.loop-element-preserved
loop-element-preserved c =
    added_one (λ (element : ElementDef). besides c.args.low.now (option_map (λ b. b.now) c.args.to) (given_range c.args.schema.now c.args.table c.args.row.now element)) c.args.elements.now c.loop-element.element-index _ c.element-item.result _ c.args.out.now.items _ _
    c.loop-element-test.true c.element-item.is (c.besides.ensures ∙ ap (besides c.args.low.now (option_map (λ b. b.now) c.args.to)) c.in_ok-range.ensures) c.loop-element.invariant c.in_ok-push_if.ensures
