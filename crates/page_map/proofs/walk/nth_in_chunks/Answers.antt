use Rattle.std.proofs.Common.{◌∙◌, ◌-◌, ◌+◌, sym, ap, arith, drop}
use Rattle.std.specs.List.{slice_get}
use Rattle.page_map.specs.Empties.{empties}
use Rattle.page_map.specs.Pages.{joined}
use Rattle.page_map.proofs.Empties.{nth_here, nth_past}
use Rattle.page_map.proofs.walk.nth_in_chunks.Goals as goal

pub returns-then-left-here : goal.returns-then-left-here
returns-then-left-here c =
    c.nth_in_pages.ensures
    ∙ ap (λ l. slice_get (empties l) c.loop-chunk.left) c.pages.ensures
    ∙ sym (nth_here c.args.chunks.now c.loop-chunk.chunk-index c.chunk-item.result c.loop-chunk.left (omega arith) c.chunk-item.is (omega (arith, c.if-left-here.true, c.empties-here.ensures)))
    ∙ c.loop-chunk.invariant

pub loop-chunk-preserved : goal.loop-chunk-preserved
loop-chunk-preserved c =
    ap (λ n. slice_get (empties (joined (drop (c.loop-chunk.chunk-index + 1) c.args.chunks.now))) (c.loop-chunk.left - n)) c.empties-here.ensures
    ∙ sym (nth_past c.args.chunks.now c.loop-chunk.chunk-index c.chunk-item.result c.loop-chunk.left (omega arith) c.chunk-item.is (omega (arith, c.if-left-here.false, c.empties-here.ensures)))
    ∙ c.loop-chunk.invariant
