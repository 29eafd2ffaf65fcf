use Rattle.std.proofs.Common.{◌≡◌, subst}
use Rattle.std.specs.FinMap as map
use Rattle.std.specs.List.{AllByRecursion}
use Rattle.row_map.specs.Keys.{row_code}
use Rattle.row_map.specs.Rows.{Bytes}
use Rattle.row_write.specs.Plain.{table_of, key_of, row_of}
use Rattle.row_write.specs.inner.Changes.{done_by, left_of}
use Rattle.row_write.proofs.Ran.{unseen}
use Rattle.row_write.proofs.run.run_op.Goals as goal

pub returns-else-is_among : goal.returns-else-is_among
returns-else-is_among c = λ ops later.
    let op = c.args.op.now in
    let old = map.get c.args.rows.now (row_of op) in
    let step = rw c.in_default.is at c.in_ok-why.ensures in
    let others = subst (λ (key : Bytes). AllByRecursion (λ (other : Bytes). ¬ (other ≡ key)) c.args.later.now) c.requires (c.is_among.ensures c.if-is_among.false) in
    let none = subst (AllByRecursion (λ (other : Bytes). ¬ (other ≡ row_code (table_of op) (key_of op) 0))) later others in
    (done_by op old, step.0, unseen ops c.args.rows.now op (left_of old op) none, step.1)
