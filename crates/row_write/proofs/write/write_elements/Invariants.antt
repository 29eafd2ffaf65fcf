use Rattle.std.proofs.Common.{◌≡◌, drop, option_map}
use Rattle.row_map.specs.Writes.{noted}
use Rattle.element_state.specs.Operations.{cells_of}
use Rattle.row_write.specs.inner.Changes.{done_by}
use Rattle.row_write.specs.inner.Run.{live_writes}
use Rattle.row_write.proofs.write.write_elements.Given as goal

abbrev pub invariant-loop-definition : goal.invariant-loop-definition
invariant-loop-definition l =
    noted l.batch (live_writes l.schema (drop l.definition-index l.definitions) (done_by l.op (option_map (λ r. cells_of r.now) l.old)))
    ≡ noted l.initial.batch (live_writes l.schema l.definitions (done_by l.op (option_map (λ r. cells_of r.now) l.old)))
