use Rattle.std.proofs.Common.{◌∙◌}
use Rattle.std.specs.Prelude.{bytes_eq}
use Rattle.schema_version.specs.declared.table.TableDef.{TableDef}
use Rattle.schema_version.proofs.Lists.{any_through}
use Rattle.table_faults.proofs.declaration.is_table_named.Goals as goal

pub returns : goal.returns
returns c = c.any_table_named.ensures ∙ any_through (λ (t : TableDef). t.name) (λ name. bytes_eq name c.args.name.now) c.args.tables.now
