use Rattle.std.proofs.Common.{ap, ◌∙◌}
use Rattle.entry_code.specs.Records.{points_code}
use Rattle.layer_calls.specs.declared.outcome.LayerReply.{LayerReply}
use Rattle.layer_calls.proofs.txns.reads_reply.Goals as goal

pub returns : goal.returns
returns c = (
  record {
    keys = c.in_ok-keys.keys;
    exact = c.in_ok-keys.ensures;
    spelled = ap (λ (r : LayerReply). r.code) c.of.ensures ∙ c.in_ok-points_bytes.ensures.code ∙ ap points_code c.in_ok-points.ensures;
  },
  ap (λ (r : LayerReply). r.number) c.of.ensures,
)
