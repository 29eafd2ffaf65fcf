-- The items of what may begin are in pairs with an empty value.
use Rattle.std.proofs.Common.{◌≡◌, ℕ, sym, ap, subst, ◌∙◌}
use Rattle.schema_version.specs.declared.element.ElementDef.{ElementDef}
use Rattle.element_state.specs.Items.{HasRange}
use Rattle.reorganise.proofs.Emptying.{items_empty}
use Rattle.replay.specs.Laws.{ItemsStand}
use Rattle.replay.proofs.Agree.{consistent}
use Rattle.replay.proofs.Soundness.{lawful_entry}

pub lemma_items_stand : ItemsStand
lemma_items_stand facts number element work there kept =
    let own = (kept.sound.elements number element there).own in
    let lawful = lawful_entry facts.newest kept.sound number element there in
    items_empty facts.newest element work facts.pairs facts.rows (subst (HasRange element.table) (sym own) lawful.range)
    (consistent facts.newest facts.rows facts.pairs kept.core_kept.newest kept.core_kept.formed kept.rows)
