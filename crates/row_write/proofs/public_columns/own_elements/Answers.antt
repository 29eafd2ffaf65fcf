use Rattle.std.proofs.Common.{ap, sym, ◌∙◌, filter, option_map}
use Rattle.schema_version.specs.Version.{is_in, live, table_at}
use Rattle.row_write.proofs.Own.{twice, there}
use Rattle.row_write.proofs.public_columns.own_elements.Goals as goal

pub returns-in-Some : goal.returns-in-Some
returns-in-Some c =
    ap (filter (is_in c.args.table)) (there _ _ (table_at c.args.schema.now c.args.table) (sym (ap (option_map (λ own. own.now)) c.in-Some.is) ∙ c.elements_of.ensures))
    ∙ twice (is_in c.args.table) (live c.args.schema.now)
