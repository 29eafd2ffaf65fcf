use Rattle.std.proofs.Common.{List, ℕ, [], length, sym, ap, ◌∙◌}
use Rattle.row_map.specs.Ranges.{table_prefix}
use Rattle.row_map.specs.Walk.{key_range}
use Rattle.element_state.specs.Visible.{visible_rows}
use Rattle.row_query.specs.inner.Bounds.{table_end, leading, first_key, gathered, low_bound, high_bound}
use Rattle.row_query.specs.inner.Checks.{public_numbers}
use Rattle.row_query.specs.inner.Found.{row_in, one_row, rows_at, rows_in}
use Rattle.std.specs.List.{find}
use Rattle.schema_version.specs.Version.{live}
use Rattle.row_query.specs.Path.{serves}
use Rattle.row_query.proofs.Premise.{reads_from}
use Rattle.row_query.proofs.Rows.{scan_is}
use Rattle.row_query.proofs.Tested.{ok_then, query_open, key_is}
use Rattle.row_query.proofs.Indexed.{index_answers}
use Rattle.row_query.proofs.answer_query.find.Goals as goal

pub returns-in-Some : goal.returns-in-Some
returns-in-Some g c = λ rows agree passed known. ok_then c.by_key.result _ _ (λ found is.
    is
    ∙ ap (λ (columns : List ℕ). one_row (row_in (g.V.PairView.pairs c.args.view.now) columns c.args.query.now c.in-Some.key.now))
    (c.as_slice-columns.ensures.value ∙ c.in_ok-public.ensures ∙ ap (λ elements. public_numbers elements c.args.query.now.table) c.elements-elements.ensures)
    ∙ key_is c.args.schema.now (visible_rows c.args.schema.now rows) (g.V.PairView.pairs c.args.view.now) (reads_from c.args.schema.now c.lemma_known.ensures rows (g.V.PairView.pairs c.args.view.now) agree) c.args.query.now c.in-Some.key.now passed
    (query_open c.args.schema.now c.lemma_known.ensures c.args.query.now passed) known (sym (c.in-Some.ensures ∙ ap first_key c.as_slice-conditions.ensures))) c.by_key.ensures

pub returns-in-Some-leading_condition : goal.returns-in-Some-leading_condition
returns-in-Some-leading_condition g c = λ rows agree passed known. ok_then c.walk_index.result _ _ (λ found is.
    is
    ∙ ap (λ (columns : List ℕ). rows_in (g.V.PairView.pairs c.args.view.now) columns c.args.query.now (gathered c.in-Some-serving_index.element.now.number (length c.indexed_columns-indexed_columns.result.now) [] (key_range (g.V.PairView.pairs c.args.view.now) (low_bound c.in-Some-serving_index.element.now.number c.in-Some-leading_condition.condition.now) (high_bound c.in-Some-serving_index.element.now.number c.in-Some-leading_condition.condition.now))))
    (c.as_slice-columns.ensures.value ∙ c.in_ok-public.ensures ∙ ap (λ elements. public_numbers elements c.args.query.now.table) c.elements-elements.ensures)
    ∙ ap (λ (indexed_columns : List ℕ). rows_in (g.V.PairView.pairs c.args.view.now) (public_numbers (live c.args.schema.now) c.args.query.now.table) c.args.query.now (gathered c.in-Some-serving_index.element.now.number (length indexed_columns) [] (key_range (g.V.PairView.pairs c.args.view.now) (low_bound c.in-Some-serving_index.element.now.number c.in-Some-leading_condition.condition.now) (high_bound c.in-Some-serving_index.element.now.number c.in-Some-leading_condition.condition.now)))) c.indexed_columns-indexed_columns.ensures
    ∙ index_answers c.args.schema.now (visible_rows c.args.schema.now rows) (g.V.PairView.pairs c.args.view.now) (reads_from c.args.schema.now c.lemma_known.ensures rows (g.V.PairView.pairs c.args.view.now) agree) c.args.query.now (query_open c.args.schema.now c.lemma_known.ensures c.args.query.now passed) known c.in-Some-serving_index.element.now c.in-Some-leading_condition.condition.now
    (sym (c.in-Some-serving_index.ensures ∙ ap (find (serves c.args.query.now)) c.elements-elements.ensures))
    (sym (c.in-Some-leading_condition.ensures ∙ ap (λ conditions. leading conditions c.indexed_columns-indexed_columns.result.now) c.as_slice-conditions.ensures ∙ ap (leading c.args.query.now.conditions) c.indexed_columns-indexed_columns.ensures))) c.walk_index.ensures

pub returns : goal.returns
returns g c = λ rows agree passed known. ok_then c.scan.result _ _ (λ found is.
    is
    ∙ ap (λ (columns : List ℕ). rows_at (g.V.PairView.pairs c.args.view.now) columns c.args.query.now (key_range (g.V.PairView.pairs c.args.view.now) (table_prefix c.args.query.now.table) (table_end c.args.query.now.table)))
    (c.as_slice-columns.ensures.value ∙ c.in_ok-public.ensures ∙ ap (λ elements. public_numbers elements c.args.query.now.table) c.elements-elements.ensures)
    ∙ scan_is c.args.schema.now (visible_rows c.args.schema.now rows) (g.V.PairView.pairs c.args.view.now) (reads_from c.args.schema.now c.lemma_known.ensures rows (g.V.PairView.pairs c.args.view.now) agree) c.args.query.now (query_open c.args.schema.now c.lemma_known.ensures c.args.query.now passed)) c.scan.ensures
