use Rattle.std.proofs.Common.{arith}
use Rattle.page_map.proofs.Empties.{count_page, empties_fit}
use Rattle.page_map.proofs.walk.count_chunks.Goals as goal

pub overflow_add-count : goal.overflow_add-count
overflow_add-count c = omega (arith, c.requires, c.loop-chunk.invariant, c.empties-count.ensures, empties_fit c.args.chunks.now c.loop-chunk.chunk-index c.chunk-item.result (omega arith) c.chunk-item.is)

pub loop-chunk-preserved : goal.loop-chunk-preserved
loop-chunk-preserved c = omega (arith, c.loop-chunk.invariant, c.empties-count.ensures, count_page c.args.chunks.now c.loop-chunk.chunk-index c.chunk-item.result (omega arith) c.chunk-item.is)
