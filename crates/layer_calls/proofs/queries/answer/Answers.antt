use Rattle.std.proofs.Common.{ap, ◌∙◌}
use Rattle.entry_code.specs.Code.{rows_code}
use Rattle.layer_calls.specs.declared.outcome.LayerReply.{LayerReply}
use Rattle.layer_calls.proofs.queries.answer.Goals as goal

pub returns-in_ok-rows_bytes-in-Ok : goal.returns-in_ok-rows_bytes-in-Ok
returns-in_ok-rows_bytes-in-Ok c = (
  c.in-Ok.ensures.clear,
  ap (λ (r : LayerReply). r.number) c.of.ensures,
  λ rows store agree all. ap (λ (r : LayerReply). r.code) c.of.ensures ∙ c.in_ok-rows_bytes-in-Ok.ensures.code ∙ ap rows_code (c.in-Ok.ensures.rows rows store agree all),
)
