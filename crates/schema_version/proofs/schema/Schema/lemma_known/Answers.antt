use Rattle.std.proofs.Common.{subst}
use Rattle.schema_version.specs.Sound.{IsSoundVersion}
use Rattle.schema_version.proofs.schema.Schema.lemma_known.Goals as goal

pub returns : goal.returns
returns c = subst IsSoundVersion c.self.view_is c.self.invariant.2
