use Rattle.std.proofs.Common.{List, ℕ, ap, ◌∙◌}
use Rattle.row_query.specs.inner.Checks.{public_numbers}
use Rattle.row_query.specs.inner.Found.{rows_in}
use Rattle.schema_version.specs.Version.{live}
use Rattle.row_ask.proofs.Frame.{same_rows, few_columns}
use Rattle.row_ask.proofs.rows_by_key.rows_of.Goals as goal

pub returns : goal.returns
returns g c = λ store all.
    c.new.ensures ∙ c.in_ok-rows_by_keys.ensures
    ∙ ap (λ (columns : List ℕ). rows_in (g.V.PairView.pairs c.args.view.now) columns c.args.query.now c.args.keys.now)
    (c.as_slice-columns.ensures.value ∙ c.in_ok-public.ensures ∙ ap (λ elements. public_numbers elements c.args.query.now.table) c.elements.ensures)
    ∙ same_rows store (g.V.PairView.pairs c.args.view.now) (public_numbers (live c.args.schema.now) c.args.query.now.table) c.args.query.now c.args.keys.now (few_columns c.args.schema.now c.lemma_known.ensures c.args.query.now.table) all
