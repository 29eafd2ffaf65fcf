use Rattle.std.proofs.Common.{◌≡◌, ◌∙◌, ◌<◌, List, get_or, length, take, sym, ap, subst, true≢false}
use Rattle.std.proofs.lemmas.List.{take_all}
use Rattle.schema_version.specs.declared.element.ElementDef.{ElementDef}
use Rattle.schema_version.specs.Sound.{IsSoundVersion}
use Rattle.schema_version.specs.Version.{live}
use Rattle.layer_due.specs.Due.{IsWanting}
use Rattle.layer_due.proofs.Searches.{AllIn, one_more, none_at_all, none_lower}
use Rattle.layer_due.proofs.search.find_wanting.Goals as goal

pub loop-element-preserved : goal.loop-element-preserved
loop-element-preserved c =
    one_more (λ (e : ElementDef). ¬ (IsWanting c.args.records.now e.number)) c.elements-element-items.result.now c.loop-element.element-index c.element-item.result c.loop-element-test.true (sym c.element-item.is) c.loop-element.invariant
    (λ h. true≢false (sym (c.is_wanting.ensures.1 h) ∙ c.if-is_wanting.false))

pub returns-then-is_wanting : goal.returns-then-is_wanting
returns-then-is_wanting c =
    let newest_is = c.get-schema.ensures in
    let whole : c.elements-element-items.result.now ≡ live c.args.records.now.newest.schema = c.elements-element-items.ensures ∙ ap live newest_is in (
      c.is_wanting.ensures.0 c.if-is_wanting.true,
      none_lower c.args.records.now.newest.schema (IsWanting c.args.records.now) c.loop-element.element-index c.element-item.result (subst IsSoundVersion newest_is c.lemma_known.ensures) (λ n h. (h.element, h.there))
          (subst (λ (es : List ElementDef). c.loop-element.element-index < length es) whole c.loop-element-test.true) (c.element-item.is ∙ ap (λ (es : List ElementDef). get_or es c.loop-element.element-index c.element-item.result) whole)
          (subst (λ (es : List ElementDef). AllIn (λ (e : ElementDef). ¬ (IsWanting c.args.records.now e.number)) (take c.loop-element.element-index es)) whole c.loop-element.invariant),
    )

pub returns : goal.returns
returns c =
    let newest_is = c.get-schema.ensures in
    none_at_all c.args.records.now.newest.schema (IsWanting c.args.records.now) (subst IsSoundVersion newest_is c.lemma_known.ensures) (λ n h. (h.element, h.there))
    (subst (AllIn (λ (e : ElementDef). ¬ (IsWanting c.args.records.now e.number))) (take_all c.loop-element.element-index c.elements-element-items.result.now c.loop-element-test.false ∙ c.elements-element-items.ensures ∙ ap live newest_is) c.loop-element.invariant)
