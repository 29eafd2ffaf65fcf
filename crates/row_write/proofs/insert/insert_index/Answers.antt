use Rattle.std.proofs.Common.{◌∷◌, ◌∙◌, ap}
use Rattle.std.specs.FinMap as map
use Rattle.std.proofs.lemmas.Result.{on_ok_weaker}
use Rattle.row_map.specs.Keys.{index_code}
use Rattle.row_map.specs.Writes.{noted}
use Rattle.row_write.specs.inner.Changes.{put_writes}
use Rattle.row_write.specs.Plain.{key_of, named_of, with_cells}
use Rattle.row_write.proofs.Inserts.{same_writes}
use Rattle.row_write.proofs.insert.insert_index.Goals as goal

pub returns-in-Some : goal.returns-in-Some
returns-in-Some c =
    let d = c.args.definition.now in
    on_ok_weaker c.put_indexed.result
    (λ e. e ∙ ap (noted c.args.batch.now) (ap (λ key. put_writes d.state (index_code d.number (c.in-Some.value.now ∷ key))) c.key.ensures ∙ same_writes c.args.schema.now d.number d.table (key_of c.args.op.now) (with_cells map.empty (named_of c.args.op.now)) c.in-Some.value.now d.state d.kind c.in-Some.ensures))
    c.put_indexed.ensures
