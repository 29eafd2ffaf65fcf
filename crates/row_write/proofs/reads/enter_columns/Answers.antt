use Rattle.std.proofs.Common.{◌≡◌, ◌∙◌, ap, filter, subst}
use Rattle.std.proofs.lemmas.Result.{on_ok_weaker}
use Rattle.schema_version.specs.Version.{is_in, live}
use Rattle.row_write.specs.Plain.{table_of}
use Rattle.row_write.specs.inner.Enter.{entered, column_keys}
use Rattle.row_write.proofs.Own.{same_columns}
use Rattle.row_write.proofs.reads.enter_columns.Goals as goal

pub returns : goal.returns
returns c =
    let own = c.own_elements.result.now in
    let all = live c.args.schema.now in
    let table = table_of c.args.op.now in
    let same : filter (is_in table) own ≡ filter (is_in table) all = subst (λ t. filter (is_in t) own ≡ filter (is_in t) all) c.table.ensures c.own_elements.ensures in
    on_ok_weaker c.enter_among.result (λ e. e ∙ ap (λ columns. entered c.args.set.now (column_keys c.args.op.now columns)) (same_columns table own all same)) c.enter_among.ensures
