use Rattle.std.proofs.Common.{inl, inr, sym, ◌∙◌}
use Rattle.row_query.specs.declared.query.Path.TheVariants as path
use Rattle.row_ask.proofs.Paths.{index_served}
use Rattle.row_ask.proofs.path.serving_index.Goals as goal

pub returns-in-Key : goal.returns-in-Key
returns-in-Key c = λ none.
    elim c.in-Key.is [
      | inl e ↦ index_served c.args.schema.now c.lemma_known.ensures c.args.query.now none path.Key (sym e ∙ c.path_of.ensures)
      | inr e ↦ index_served c.args.schema.now c.lemma_known.ensures c.args.query.now none path.Scan (sym e ∙ c.path_of.ensures)
    ]

pub returns-in-Index : goal.returns-in-Index
returns-in-Index c = λ none. c.element.ensures ∙ index_served c.args.schema.now c.lemma_known.ensures c.args.query.now none (path.Index c.in-Index.number) (sym c.in-Index.is ∙ c.path_of.ensures)
