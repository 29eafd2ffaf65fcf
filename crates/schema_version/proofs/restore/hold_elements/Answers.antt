use Rattle.std.proofs.Common.{◌≡◌, ◌∙◌, nat_eq}
use Rattle.indexmap.specs.IndexMap.{insert_entry}
use Rattle.schema_version.specs.declared.element.ElementDef.{ElementDef}
use Rattle.schema_version.proofs.Rising.{held_next}
use Rattle.schema_version.proofs.restore.hold_elements.Goals as goal

pub loop-element-preserved : goal.loop-element-preserved
loop-element-preserved c =
    let parts = c.in_ok-clone.ensures.cases in
    let copy : ◌≡◌ {A = ElementDef} c.in_ok-clone.field-0 c.element-item.result = λ i. record { number = parts.0 i; table = parts.1.0 i; name = parts.1.1.0 i; kind = parts.1.1.1.0 i; state = parts.1.1.1.1.0 i; way = parts.1.1.1.1.1 i } in
    c.in_ok-insert.ensures.entries
    ∙ (λ i. insert_entry nat_eq (c.loop-element.invariant i) c.element-item.result.number (copy i))
    ∙ held_next c.args.next c.args.elements.now c.loop-element.element-index c.element-item.result c.requires.rising c.loop-element-test.true c.element-item.is
