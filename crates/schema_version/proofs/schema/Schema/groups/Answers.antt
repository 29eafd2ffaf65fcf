use Rattle.std.proofs.Common.{ap, ◌∙◌}
use Rattle.schema_version.specs.Version.{Version, live, grouped}
use Rattle.schema_version.proofs.schema.Schema.groups.Goals as goal

pub returns : goal.returns
returns c = c.as_slice.ensures.value ∙ c.self.invariant.4 ∙ ap (λ (v : Version). grouped 1 (live v) v.tables) c.self.view_is
