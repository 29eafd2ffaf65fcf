use Rattle.std.proofs.Common.{◌≡◌, ◌∙◌, subst, sym, ap, ℕ, List}
use Rattle.std.proofs.lemmas.Result.{err_from_is_err_and}
use Rattle.row_map.specs.declared.shape.ColumnType.{ColumnType}
use Rattle.schema_version.specs.Shape.{column_types}
use Rattle.row_write.specs.Plain.{table_of}
use Rattle.row_write.specs.inner.Enter.{row_keys}
use Rattle.row_write.specs.inner.View.{IsVisible}
use Rattle.row_write.proofs.Viewed.{missed_map}
use Rattle.row_write.proofs.Encoded.{encoded_is_visible}
use Rattle.row_write.proofs.Keys.{encoded_one}
use Rattle.row_write.proofs.read.encoded_row.Goals as goal

pub returns-in_err-there-clause-missed : goal.returns-in_err-there-clause-missed
returns-in_err-there-clause-missed c =
    let columns : c.as_slice.result.now ≡ column_types c.args.schema.now (table_of c.args.op.now) = c.as_slice.ensures.value ∙ c.in_ok-columns.ensures ∙ ap (column_types c.args.schema.now) c.table.ensures in
    let p = err_from_is_err_and c.from_residual-in_err-there.result c.from_residual-in_err-there.ensures.1 in
    rw (p.1, p.2) (missed_map c.in_err-there.field-0.0 (λ never rows s.
    let visible = encoded_is_visible c.args.schema.now c.lemma_served.ensures c.args.view.now c.args.op.now rows s.encoded.0 in
    never visible.0 visible.1 (subst (λ (cs : List (ℕ × ColumnType)). IsVisible c.args.view.now c.args.op.now cs visible.0 visible.1) (sym columns) visible.2)) c.in_err-there.ensures.missed)

pub returns-clause-found : goal.returns-clause-found
returns-clause-found c =
    let columns : c.as_slice.result.now ≡ column_types c.args.schema.now (table_of c.args.op.now) = c.as_slice.ensures.value ∙ c.in_ok-columns.ensures ∙ ap (column_types c.args.schema.now) c.table.ensures in
    let keys = rw c.in-Some.is at c.in_ok-there.ensures.keys in
    let visible = rw c.in-Some.is at c.in_ok-there.ensures.found in
    let made = c.in_ok-one_row.ensures in
    encoded_one c.args.schema.now c.lemma_served.ensures c.args.op.now c.requires c.args.view.now (keys ∙ ap (row_keys c.args.op.now) columns) c.in_ok-one_row.field-0 _ c.in-Some.there c.in-Some.cells
    (subst (λ (cs : List (ℕ × ColumnType)). IsVisible c.args.view.now c.args.op.now cs c.in-Some.there c.in-Some.cells) columns visible) made
