use Rattle.std.proofs.Common.{◌++◌, ◌∙◌, ℕ, List, ap, string_bytes}
use Rattle.script_json.specs.Answer.{lines_of}
use Rattle.script_json.proofs.Lines.{written}
use Rattle.script_json.proofs.answer.push_lines.Goals as goal

pub returns : goal.returns
returns c =
    let list = written _ (lines_of c.args.text.now) (string_bytes c.in_ok-list.list) c.in_ok-lines_value.ensures c.in_ok-list.ensures.text in
    c.in_ok-push_str.ensures.bytes ∙ ap (λ (t : List ℕ). string_bytes c.args.out.now ++ t) (c.as_str.ensures.value ∙ list)
