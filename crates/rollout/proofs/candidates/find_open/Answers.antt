use Rattle.std.proofs.Common.{◌≡◌, ◌∙◌, ◌<◌, List, get_or, length, take, sym, ap, subst, true≢false}
use Rattle.std.proofs.lemmas.List.{take_all}
use Rattle.schema_version.specs.declared.element.ElementDef.{ElementDef}
use Rattle.schema_version.specs.Sound.{IsSoundVersion}
use Rattle.schema_version.specs.Version.{live}
use Rattle.world.specs.State.{facts_of}
use Rattle.rollout.specs.Due.{IsOpen}
use Rattle.rollout.proofs.Lowest.{none_lower}
use Rattle.rollout.proofs.Searches.{NoneIn, one_more, none_at_all, open_there}
use Rattle.rollout.proofs.candidates.find_open.Goals as goal

pub loop-element-preserved : goal.loop-element-preserved
loop-element-preserved c =
    one_more (IsOpen (facts_of c.args.world.now)) c.elements-element-items.result.now c.loop-element.element-index c.element-item.result c.loop-element-test.true (sym c.element-item.is) c.loop-element.invariant
    (λ h. true≢false (sym (c.is_open.ensures.1 h) ∙ c.if-is_open.false))

pub returns-then-is_open : goal.returns-then-is_open
returns-then-is_open c =
    let newest_is = c.get-schema.ensures ∙ c.newest.ensures in
    let whole : c.elements-element-items.result.now ≡ live (facts_of c.args.world.now).newest = c.elements-element-items.ensures ∙ ap live newest_is in (
      c.is_open.ensures.0 c.if-is_open.true,
      none_lower (facts_of c.args.world.now).newest (IsOpen (facts_of c.args.world.now)) c.loop-element.element-index c.element-item.result (subst IsSoundVersion newest_is c.lemma_known.ensures) (open_there (facts_of c.args.world.now))
          (subst (λ (es : List ElementDef). c.loop-element.element-index < length es) whole c.loop-element-test.true) (c.element-item.is ∙ ap (λ (es : List ElementDef). get_or es c.loop-element.element-index c.element-item.result) whole)
          (subst (λ (es : List ElementDef). NoneIn (IsOpen (facts_of c.args.world.now)) (take c.loop-element.element-index es)) whole c.loop-element.invariant),
    )

pub returns : goal.returns
returns c =
    let newest_is = c.get-schema.ensures ∙ c.newest.ensures in
    none_at_all (facts_of c.args.world.now).newest (IsOpen (facts_of c.args.world.now)) (subst IsSoundVersion newest_is c.lemma_known.ensures) (open_there (facts_of c.args.world.now))
    (subst (NoneIn (IsOpen (facts_of c.args.world.now))) (take_all c.loop-element.element-index c.elements-element-items.result.now c.loop-element-test.false ∙ c.elements-element-items.ensures ∙ ap live newest_is) c.loop-element.invariant)
