use Rattle.std.proofs.Common.{ℕ, ◌∙◌, ◌++◌, ◌-◌, ap, ap₂, length, take}
use Rattle.std.proofs.lemmas.Result.{IfOk-weaker}
use Rattle.row_map.specs.Rows.{Bytes}
use Rattle.row_keys.proofs.Codes.{numbered}
use Rattle.row_keys.proofs.column_key_of.Goals as goal

pub returns : goal.returns
returns c =
    IfOk-weaker c.with_four.result _ _ (λ key made table primary is. numbered key c.args.exists.now c.args.number table primary (made ∙ ap₂ (λ (a b : Bytes). a ++ b) (c.split_at.ensures.front ∙ ap₂ (λ (n : ℕ) (l : Bytes). take n l) (c.saturating_sub.ensures ∙ ap (λ (l : Bytes). length l - 4) c.as_slice-bytes.ensures) c.as_slice-bytes.ensures) c.to_be_bytes.ensures) is) c.with_four.ensures
