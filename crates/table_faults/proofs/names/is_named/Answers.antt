use Rattle.std.proofs.Common.{◌∙◌}
use Rattle.std.specs.Prelude.{bytes_eq}
use Rattle.schema_version.proofs.Lists.{any_through}
use Rattle.table_faults.proofs.names.is_named.Goals as goal

pub returns : goal.returns
returns g c = c.any_named.ensures ∙ any_through (λ i. i.0) (λ name. bytes_eq name c.args.name.now) c.args.items.now
