use Rattle.std.proofs.Common.{◌≡◌, ◌∙◌, ap, subst, filter, option_map}
use Rattle.std.proofs.lemmas.Result.{on_ok_weaker}
use Rattle.row_map.specs.Writes.{noted}
use Rattle.schema_version.specs.Version.{is_in, live}
use Rattle.element_state.specs.Operations.{cells_of}
use Rattle.row_write.specs.inner.Changes.{done_by}
use Rattle.row_write.proofs.Own.{same_own_writes}
use Rattle.row_write.proofs.Wanted.{noted_all}
use Rattle.row_write.proofs.write.write_change.Goals as goal

pub returns : goal.returns
returns c =
    let made = done_by c.args.op.now (option_map (λ r. cells_of r.now) c.args.old) in
    on_ok_weaker c.write_elements.result (λ e.
    noted_all c.args.schema.now c.lemma_served.ensures made c.args.batch.now c.write_exists.new.batch c.write_elements.new.batch c.in_ok-write_exists.ensures
    (e ∙ ap (noted c.write_exists.new.batch) (same_own_writes c.args.schema.now made c.own_elements-own.result.now (live c.args.schema.now) (subst (λ table. filter (is_in table) c.own_elements-own.result.now ≡ filter (is_in table) (live c.args.schema.now)) c.table.ensures c.own_elements-own.ensures)))) c.write_elements.ensures
