use Rattle.std.proofs.Common.{sym, ◌∙◌, inl, inr}
use Rattle.drafts.proofs.ItemKeys.{decides_item, item_read}
use Rattle.drafts.proofs.bounds.is_item.Goals as goal

pub returns-in-Ok : goal.returns-in-Ok
returns-in-Ok c = decides_item c.args.element.now c.args.work c.args.key.now c.in-Ok.read c.is_of_item.result c.in-Ok.ensures.found.0 (sym c.as_slice.ensures ∙ c.in-Ok.ensures.found.1) c.is_of_item.ensures

pub returns-in-Err-2 : goal.returns-in-Err-2
returns-in-Err-2 c = (
  λ e. absurd cc,
  λ item.
      let h = item_read c.args.element.now c.args.work c.args.key.now item in
      elim (c.in-Err.ensures.only h.read h.form (c.as_slice.ensures ∙ h.encoded)) [
        | inl memory ↦ sym c.if-is_memory.false ∙ c.is_memory.ensures.1 memory
        | inr other ↦ absurd cc
      ],
)
