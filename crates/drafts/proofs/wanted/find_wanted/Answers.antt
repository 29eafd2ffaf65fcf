use Rattle.std.proofs.Common.{◌≡◌, Some, sym, ap, ◌∙◌}
use Rattle.schema_version.specs.Version.{Version, element_at}
use Rattle.drafts.proofs.wanted.find_wanted.Goals as goal

pub returns : goal.returns
returns c =
    let at : element_at c.args.newest.now.schema c.args.number ≡ Some c.in_ok-element.element.now = ap (λ (v : Version). element_at v c.args.number) (sym c.get-2.ensures) ∙ sym c.in_ok-element.ensures in
    let own = (c.lemma_known.ensures.elements c.args.number c.in_ok-element.element.now (ap (λ (v : Version). element_at v c.args.number) c.get.ensures ∙ at)).own in
    record { made = record { there = ap (element_at c.args.newest.now.schema) own ∙ at; wants = sym c.in_ok-work.ensures }; number_is = own }
