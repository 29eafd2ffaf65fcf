use Rattle.std.proofs.Common.{◌∙◌}
use Rattle.std.proofs.lemmas.Result.{IfOk-weaker}
use Rattle.schema_version.specs.Version.{live}
use Rattle.row_write.proofs.Own.{same_columns}
use Rattle.row_write.proofs.public_columns.columns_of.Goals as goal

pub returns : goal.returns
returns c = IfOk-weaker c.columns_among.result _ _ (λ columns e. e ∙ same_columns c.args.table c.own_elements.result.now (live c.args.schema.now) c.own_elements.ensures) c.columns_among.ensures
