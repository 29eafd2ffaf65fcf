use Rattle.std.proofs.Common.{sym, ◌∙◌, true≢false}
use Rattle.std.proofs.lemmas.Result.{IfOk-weaker}
use Rattle.checkpoint_check.proofs.Bounds.{bound_decided}
use Rattle.checkpoint_check.proofs.pieces.is_bound.Goals as goal

pub returns : goal.returns
returns c =
    IfOk-weaker c.is_item_key.result _ _
    (λ b item.
    bound_decided c.args.element.now c.args.kind c.args.key.now b
    (λ low. true≢false (sym (c.same_bytes.ensures.1 (low ∙ sym c.requires.low ∙ sym c.as_slice.ensures)) ∙ c.if-same_bytes.false))
    (λ high. true≢false (sym (c.same_bytes-else-same_bytes.ensures.1 (high ∙ sym c.requires.high ∙ sym c.as_slice-else-same_bytes.ensures)) ∙ c.if-same_bytes-2.false))
    item)
    c.is_item_key.ensures
