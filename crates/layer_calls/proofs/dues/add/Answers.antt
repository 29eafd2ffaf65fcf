use Rattle.std.proofs.Common.{◌≡◌, inl, inr, sym, ap, subst, ◌∙◌, List}
use Rattle.drafts.specs.KeyNumbers.{numbers}
use Rattle.drafts.specs.Store.{reorg_key}
use Rattle.drafts.specs.declared.record.Reorg.{Reorg}
use Rattle.layer_due.specs.declared.records.Records.{Records}
use Rattle.record_code.specs.Keys.{key_code, IsKey}
use Rattle.layer_calls.specs.Given.{IsReorg, reorg_code}
use Rattle.layer_calls.proofs.dues.add.Goals as goal

pub returns-in-Reorg-clause-added : goal.returns-in-Reorg-clause-added
returns-in-Reorg-clause-added c =
    let key_is : reorg_key c.in-Reorg.field-0 ≡ c.in-Ok.key = sym (ap numbers c.in-Reorg.is) ∙ c.name.ensures in
    let given = c.in_ok-reorg-in-Reorg.ensures in
    inr (inl (
      c.in-Reorg.field-0,
      c.in_ok-reorg-in-Reorg.reorg,
      subst IsKey (sym key_is) c.in-Ok.ensures.1,
      sym c.as_slice.ensures ∙ c.in-Ok.ensures.0 ∙ ap key_code (sym key_is),
      subst IsReorg (sym given.3) given.1,
      sym c.as_slice-in-Reorg.ensures ∙ given.2 ∙ ap reorg_code (sym given.3),
      ap (λ (reorgs : List Reorg). let records : Records = record c.args.records.now { reorgs = reorgs } in records) c.in_ok-push-in-Reorg.ensures.items,
    ))
