use Rattle.std.proofs.Common.{◌≡◌, ◌∙◌, ap, subst, take}
use Rattle.std.specs.Bool.{Decides}
use Rattle.row_map.specs.Rows.{Bytes}
use Rattle.byte_map.proofs.Order.{told_same}
use Rattle.row_keys.proofs.Codes.{column_key, no_front}
use Rattle.row_keys.proofs.is_column_key.Goals as goal

pub returns-in-Some : goal.returns-in-Some
returns-in-Some c = λ table primary is.
    let last = subst (λ (l : Bytes). Decides c.is_same.result (c.in-Some.end.now ≡ l)) c.to_be_bytes.ensures (told_same _ _ c.is_same.result c.is_same.ensures) in
    column_key c.args.key.now c.args.exists.now c.split_at.result.0.now c.in-Some.end.now c.args.number table primary c.is_same.result is (c.split_at.ensures.front ∙ ap (λ n. take n c.args.exists.now) c.saturating_sub.ensures) (rw c.in-Some.is at c.after.ensures) last

pub returns-in-None : goal.returns-in-None
returns-in-None c = λ table primary is. no_front c.args.key.now c.args.exists.now c.split_at.result.0.now c.args.number table primary is (c.split_at.ensures.front ∙ ap (λ n. take n c.args.exists.now) c.saturating_sub.ensures) (rw c.in-None.is at c.after.ensures)
