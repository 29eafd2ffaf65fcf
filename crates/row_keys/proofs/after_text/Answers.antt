use Rattle.std.proofs.Common.{[], ◌∷◌, ◌++◌}
use Rattle.keycode.specs.Code.{escaped}
use Rattle.row_keys.proofs.Codes.{then_none, then_more, whole_text}
use Rattle.row_keys.proofs.after_text.Goals as goal

pub returns-in_default : goal.returns-in_default
returns-in_default c = then_none (3 ∷ []) (escaped c.args.text.now ++ 0 ∷ 1 ∷ []) c.args.bytes.now (rw c.in_default.is at c.after.ensures)

pub returns-in_default-after_escaped : goal.returns-in_default-after_escaped
returns-in_default-after_escaped c =
    then_more (3 ∷ []) (escaped c.args.text.now ++ 0 ∷ 1 ∷ []) c.args.bytes.now c.in-Some.content.now _ (rw c.in-Some.is at c.after.ensures) (then_none (escaped c.args.text.now) (0 ∷ 1 ∷ []) c.in-Some.content.now (rw c.in_default-after_escaped.is at c.after_escaped.ensures))

pub returns : goal.returns
returns c =
    whole_text c.args.bytes.now c.in-Some.content.now c.in-Some-after_escaped.end.now (escaped c.args.text.now) _ (rw c.in-Some.is at c.after.ensures) (rw c.in-Some-after_escaped.is at c.after_escaped.ensures) c.after-2.ensures
