use Rattle.std.proofs.Common.{◌≡◌, false, true, sym, ◌∙◌}
use Rattle.std.proofs.lemmas.Result.{IfOk-weaker}
use Rattle.reorganise.proofs.ReadTo.{or_item}
use Rattle.reorganise.proofs.read_to.is_end.Goals as goal

false_true : false ≡ true → ⊥
false_true e = absurd cc

pub returns : goal.returns
returns c =
    IfOk-weaker c.is_item_key.result _ _
    (λ b h. or_item c.args.scan_range c.args.high.now c.args.to.now b (λ e. false_true (sym c.if-is_key.false ∙ c.is_key.ensures.1 (c.as_slice.ensures ∙ e ∙ sym c.as_slice-2.ensures))) h) c.is_item_key.ensures
