use Rattle.std.proofs.Common.{refl, ◌∙◌, ap}
use Rattle.schema_version.specs.Version.{Version}
use Rattle.script_json.specs.Texts.{line}
use Rattle.prompt.specs.Carry.{advanced_words}
use Rattle.prompt.proofs.carry.advance_line.Goals as goal

pub returns : goal.returns
returns c = (
  c.advance-outcome.result,
  c.advance-outcome.ensures.step,
  (refl, refl, c.new-2.ensures ∙ c.new.ensures.items),
  c.in_ok-text.ensures ∙ ap (λ (v : Version). line (advanced_words v c.advance-outcome.result)) (c.get.ensures ∙ c.newest.ensures),
)
