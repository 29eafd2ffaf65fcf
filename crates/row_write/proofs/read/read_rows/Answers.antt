use Rattle.std.proofs.Common.{get_or, subst, sym, ap, ◌∙◌, ℕ, List}
use Rattle.std.proofs.lemmas.Result.{err_from_is_err_and}
use Rattle.row_map.specs.declared.shape.ColumnType.{ColumnType}
use Rattle.schema_version.specs.Shape.{column_types}
use Rattle.row_write.specs.declared.op.RowOp.{RowOp}
use Rattle.row_write.specs.Prepare.{IsEncodedRow}
use Rattle.row_write.specs.inner.View.{IsVisible}
use Rattle.row_write.proofs.Viewed.{missed_map}
use Rattle.row_write.proofs.Encoded.{encoded_is_visible, encoded_more, all_at}
use Rattle.row_write.proofs.Keys.{more_reads, one_more_key}
use Rattle.row_write.proofs.read.read_rows.Goals as goal

pub returns-in_err-exists-clause-missed : goal.returns-in_err-exists-clause-missed
returns-in_err-exists-clause-missed c =
    let p = err_from_is_err_and c.from_residual-in_err-exists.result c.from_residual-in_err-exists.ensures.1 in
    rw (p.1, p.2) (missed_map c.in_err-exists.field-0.0 (λ never rows all.
    let P = λ (o : RowOp). IsEncodedRow c.args.schema.now c.args.view.now rows o in
    let here : P (get_or c.args.ops.now c.loop-op.op-index c.op-item.result) = all_at P c.args.ops.now c.loop-op.op-index c.op-item.result c.loop-op-test.true all in
    let s = encoded_is_visible c.args.schema.now c.lemma_served.ensures c.args.view.now c.op-item.result rows (subst P (sym c.op-item.is) here) in
    never s.0 s.1 (subst (λ (columns : List (ℕ × ColumnType)). IsVisible c.args.view.now c.op-item.result columns s.0 s.1) (sym (c.as_slice.ensures.value ∙ c.in_ok-columns.ensures ∙ ap (column_types c.args.schema.now) c.table.ensures)) s.2)) c.in_err-exists.ensures.missed)

pub loop-op-preserved : goal.loop-op-preserved
loop-op-preserved c =
    let f = c.in_ok-exists.ensures.found in
    let visible = subst (λ (columns : List (ℕ × ColumnType)). IsVisible c.args.view.now c.op-item.result columns f.0 f.1) (c.as_slice.ensures.value ∙ c.in_ok-columns.ensures ∙ ap (column_types c.args.schema.now) c.table.ensures) f.2 in
    record {
      encoded = encoded_more c.args.schema.now c.lemma_served.ensures c.args.view.now c.args.ops.now c.loop-op.op-index c.op-item.result c.loop-op.rows c.read_op.new.rows f.0 f.1 c.loop-op-test.true c.op-item.is visible f.3 c.loop-op.invariant.encoded;
      marked = λ reads. more_reads c.args.schema.now c.lemma_served.ensures c.args.ops.now c.args.view.now c.loop-op.marks c.read_op.new.marks c.loop-op.op-index c.op-item.result c.as_slice.result.now c.requires.sound c.loop-op-test.true c.op-item.is (c.as_slice.ensures.value ∙ c.in_ok-columns.ensures ∙ ap (column_types c.args.schema.now) c.table.ensures) c.in_ok-exists.ensures.marked (c.loop-op.invariant.marked reads);
      keys = one_more_key c.loop-op.keys.items c.args.ops.now c.loop-op.op-index c.op-item.result c.in_ok-exists.exists c.push.new.self.items c.loop-op-test.true c.op-item.is c.in_ok-exists.ensures.exists c.in_ok-push.ensures.items c.loop-op.invariant.keys;
    }
