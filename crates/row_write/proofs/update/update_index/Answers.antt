use Rattle.std.proofs.Common.{◌∙◌, sym, ap}
use Rattle.std.specs.List.{list_any}
use Rattle.row_map.specs.Writes.{noted}
use Rattle.element_state.specs.Operations.{cells_of}
use Rattle.row_write.specs.Plain.{key_of}
use Rattle.row_write.specs.inner.Changes.{is_named}
use Rattle.row_write.proofs.Updates.{nothing}
use Rattle.row_write.proofs.update.update_index.Goals as goal

pub returns-then-not-names_any : goal.returns-then-not-names_any
returns-then-not-names_any c =
    let d = c.args.definition.now in
    sym (ap (noted c.args.batch.now) (nothing c.args.schema.now d.number (d.table, key_of c.args.op.now) (cells_of c.args.old.now) c.args.op.now c.args.columns.now (sym (c.names_any.ensures ∙ ap (λ cells. list_any (is_named cells) c.args.columns.now) c.cells.ensures) ∙ c.if-not-names_any.true) d.state d.kind c.requires.index))
