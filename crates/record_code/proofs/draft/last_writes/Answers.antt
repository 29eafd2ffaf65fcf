use Rattle.std.proofs.Common.{◌<◌, length, take, Option, sym, ap, ◌∙◌, arith}
use Rattle.std.specs.FinMap as map
use Rattle.row_map.specs.Rows.{Bytes}
use Rattle.row_map.specs.Writes.{Batch, noted}
use Rattle.record_code.proofs.Noted.{one_more}
use Rattle.record_code.proofs.draft.last_writes.Goals as goal

pub loop-write-preserved : goal.loop-write-preserved
loop-write-preserved c =
    let writes = c.writes-write-items.result.now in
    let at = c.loop-write.write-index in
    let there : at < length writes = omega (arith, c.loop-write-test.true) in
    c.in_ok-insert.ensures.ok
    ∙ ap (λ (m : Batch). map.insert m c.in_ok-key.key c.in_ok-key.value) c.loop-write.invariant
    ∙ ap (λ (w : Bytes × Option Bytes). map.insert (noted map.empty (take at writes)) w.0 w.1) (c.in_ok-key.ensures ∙ c.write-item.is)
    ∙ sym (one_more writes at c.write-item.result there)
