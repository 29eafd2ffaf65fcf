use Rattle.std.proofs.Common.{ap, ◌∙◌}
use Rattle.byte_map.proofs.Written.{laid-noted}
use Rattle.keycode.proofs.Orders.{bytes_cmp_total, bytes_cmp-IsAntisymmetric}
use Rattle.row_map.specs.Writes.{Batch, written_all, laid}
use Rattle.draft_store.proofs.store.MemoryStore.write.Goals as goal

pub returns-in-Ok-clause-ok : goal.returns-in-Ok-clause-ok
returns-in-Ok-clause-ok c =
    c.in-Ok.ensures.1 ∙ ap (λ (b : Batch). laid b c.self.inside.pairs) c.in_ok-batch.ensures
    ∙ laid-noted bytes_cmp_total bytes_cmp-IsAntisymmetric c.as_slice.result.now c.self.inside.pairs
    ∙ (λ i. written_all (c.self.view_is i) (c.as_slice.ensures i))
