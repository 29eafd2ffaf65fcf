use Rattle.std.proofs.Common.{List, ℕ, [], length, Some, None, sym, ap, subst, ◌∙◌}
use Rattle.row_map.specs.Walk.{key_range}
use Rattle.schema_version.specs.Version.{live}
use Rattle.element_state.specs.Visible.{visible_rows}
use Rattle.row_query.specs.inner.Bounds.{table_end, leading, first_key, gathered, low_bound, high_bound}
use Rattle.row_query.specs.inner.Checks.{public_numbers, AreKnown}
use Rattle.row_query.proofs.Premise.{reads_from}
use Rattle.row_query.proofs.Rows.{scan_is}
use Rattle.row_query.proofs.Tested.{query_open, key_is}
use Rattle.row_query.proofs.Indexed.{index_answers}
use Rattle.row_ask.specs.Remaining.{rows_of_keys, rows_between, keys_with_rest, by_key, by_index, by_condition}
use Rattle.row_ask.specs.declared.remaining.Remaining.TheVariants as remaining
use Rattle.row_ask.proofs.Begins.{sound_passes, one_key}
use Rattle.row_ask.proofs.Paths.{path_by_key, path_by_index, has_lead}
use Rattle.row_query.specs.declared.query.Path.TheVariants as path
use Rattle.row_ask.proofs.begin_query.plan.Goals.{in-Some-serving_index+in_default-leading_condition, in_default-serving_index}
use Rattle.row_ask.proofs.begin_query.plan.Goals as goal

pub returns-in-Some-clause-rows : goal.returns-in-Some-clause-rows
returns-in-Some-clause-rows c = λ rows store agree sound.
    let v = c.args.schema.now in
    let q = c.args.query.now in
    let known = subst AreKnown c.as_slice-conditions.ensures c.known_conditions.ensures in
    let passed = sound_passes v c.lemma_known.ensures q sound in
    ap (rows_of_keys v store q) c.in_ok-only.ensures ∙ one_key store (public_numbers (live v) q.table) q c.in-Some.key.now
    ∙ key_is v (visible_rows v rows) store (reads_from v c.lemma_known.ensures rows store agree) q c.in-Some.key.now passed (query_open v c.lemma_known.ensures q passed)
    known (sym (c.in-Some.ensures ∙ ap first_key c.as_slice-conditions.ensures))

pub returns-in-Some-leading_condition-clause-rows : goal.returns-in-Some-leading_condition-clause-rows
returns-in-Some-leading_condition-clause-rows c = λ rows store agree sound.
    let v = c.args.schema.now in
    let q = c.args.query.now in
    let known = subst AreKnown c.as_slice-conditions.ensures c.known_conditions.ensures in
    let passed = sound_passes v c.lemma_known.ensures q sound in
    let e = c.in-Some-serving_index.element.now in
    let w = c.in-Some-leading_condition.condition.now in
    ap (λ range. rows_of_keys v store q (keys_with_rest store range [])) c.in_ok-index_range.ensures
    ∙ ap (λ (listed : List ℕ). rows_of_keys v store q (gathered e.number (length listed) [] (key_range store (low_bound e.number w) (high_bound e.number w)))) c.indexed_columns-indexed_columns.ensures
    ∙ index_answers v (visible_rows v rows) store (reads_from v c.lemma_known.ensures rows store agree) q (query_open v c.lemma_known.ensures q passed) known e w
    (sym (c.in-Some-serving_index.ensures (sym (c.in_default.ensures ∙ ap first_key c.as_slice-conditions.ensures))))
    (sym (c.in-Some-leading_condition.ensures ∙ ap (λ conditions. leading conditions c.indexed_columns-indexed_columns.result.now) c.as_slice-conditions.ensures ∙ ap (leading q.conditions) c.indexed_columns-indexed_columns.ensures))

pub returns-clause-rows : goal.returns-clause-rows
returns-clause-rows c = λ rows store agree sound.
    let v = c.args.schema.now in
    let q = c.args.query.now in
    let passed = sound_passes v c.lemma_known.ensures q sound in
    ap (λ low. rows_between v store q low (table_end q.table)) c.in_ok-table_start.ensures
    ∙ scan_is v (visible_rows v rows) store (reads_from v c.lemma_known.ensures rows store agree) q (query_open v c.lemma_known.ensures q passed)

pub returns-in-Some-clause-path : goal.returns-in-Some-clause-path
returns-in-Some-clause-path c = path_by_key c.args.schema.now c.args.query.now c.in-Some.key.now (sym (c.in-Some.ensures ∙ ap first_key c.as_slice-conditions.ensures))

pub returns-in-Some-leading_condition-clause-path : goal.returns-in-Some-leading_condition-clause-path
returns-in-Some-leading_condition-clause-path c =
    ap (λ range. path.Index range.number) c.in_ok-index_range.ensures
    ∙ path_by_index c.args.schema.now c.args.query.now (Some c.in-Some-serving_index.element.now) (sym (c.in_default.ensures ∙ ap first_key c.as_slice-conditions.ensures)) (c.in-Some-serving_index.ensures (sym (c.in_default.ensures ∙ ap first_key c.as_slice-conditions.ensures)))

pub returns-clause-path : goal.returns-clause-path
returns-clause-path c =
    elim c.match-serving_index.branch [
      | in-Some-serving_index+in_default-leading_condition w ↦ absurd (has_lead c.args.schema.now c.args.query.now w.in-Some-serving_index.element.now (sym (w.in-Some-serving_index.ensures (sym (c.in_default.ensures ∙ ap first_key c.as_slice-conditions.ensures))))
          (sym (w.in_default-leading_condition.ensures ∙ ap (λ conditions. leading conditions w.indexed_columns-indexed_columns.result.now) c.as_slice-conditions.ensures ∙ ap (leading c.args.query.now.conditions) w.indexed_columns-indexed_columns.ensures)))
      | in_default-serving_index w ↦ path_by_index c.args.schema.now c.args.query.now None (sym (c.in_default.ensures ∙ ap first_key c.as_slice-conditions.ensures)) (w.in_default-serving_index.ensures (sym (c.in_default.ensures ∙ ap first_key c.as_slice-conditions.ensures)))
    ]

pub returns-in-Some-clause-exact : goal.returns-in-Some-clause-exact
returns-in-Some-clause-exact c =
    ap remaining.Rows c.in_ok-only.ensures ∙ sym (ap (by_key c.args.schema.now c.args.query.now) (sym (c.in-Some.ensures ∙ ap first_key c.as_slice-conditions.ensures)))

pub returns-in-Some-leading_condition-clause-exact : goal.returns-in-Some-leading_condition-clause-exact
returns-in-Some-leading_condition-clause-exact c =
    let v = c.args.schema.now in
    let q = c.args.query.now in
    let e = c.in-Some-serving_index.element.now in
    let w = c.in-Some-leading_condition.condition.now in
    let no_key = sym (c.in_default.ensures ∙ ap first_key c.as_slice-conditions.ensures) in
    ap remaining.Index c.in_ok-index_range.ensures
    ∙ ap (λ (listed : List ℕ). remaining.Index (record { number = e.number; width = length listed; low = low_bound e.number w; high = high_bound e.number w })) c.indexed_columns-indexed_columns.ensures
    ∙ sym
    (ap (by_key v q) no_key ∙ ap (by_index q) (sym (c.in-Some-serving_index.ensures no_key))
    ∙ ap (by_condition q.table e) (sym (c.in-Some-leading_condition.ensures ∙ ap (λ conditions. leading conditions c.indexed_columns-indexed_columns.result.now) c.as_slice-conditions.ensures ∙ ap (leading q.conditions) c.indexed_columns-indexed_columns.ensures)))

pub returns-clause-exact : goal.returns-clause-exact
returns-clause-exact c =
    let v = c.args.schema.now in
    let q = c.args.query.now in
    let no_key = sym (c.in_default.ensures ∙ ap first_key c.as_slice-conditions.ensures) in
    elim c.match-serving_index.branch [
      | in-Some-serving_index+in_default-leading_condition w ↦ absurd (has_lead v q w.in-Some-serving_index.element.now (sym (w.in-Some-serving_index.ensures no_key))
          (sym (w.in_default-leading_condition.ensures ∙ ap (λ conditions. leading conditions w.indexed_columns-indexed_columns.result.now) c.as_slice-conditions.ensures ∙ ap (leading q.conditions) w.indexed_columns-indexed_columns.ensures)))
      | in_default-serving_index w ↦ ap remaining.Scan c.in_ok-table_start.ensures ∙ sym (ap (by_key v q) no_key ∙ ap (by_index q) (sym (w.in_default-serving_index.ensures no_key)))
    ]
