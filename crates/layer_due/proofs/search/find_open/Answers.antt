use Rattle.std.proofs.Common.{◌≡◌, None, subst, ◌∙◌}
use Rattle.std.proofs.lemmas.List.{take_all}
use Rattle.drafts.specs.declared.record.Reorg.{Reorg}
use Rattle.layer_due.specs.Records.{open_piece}
use Rattle.layer_due.proofs.Searches.{AllIn, none_open}
use Rattle.layer_due.proofs.search.find_open.Goals as goal

pub returns : goal.returns
returns c =
    none_open c.args.records.now
    (subst (AllIn (λ (r : Reorg). open_piece c.args.records.now r.element.number ≡ None)) (take_all c.loop-reorg.reorg-index c.as_slice-reorg-items.result.now c.loop-reorg-test.false ∙ c.as_slice-reorg-items.ensures) c.loop-reorg.invariant)
