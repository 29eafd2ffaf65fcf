use Rattle.std.proofs.Common.{ap, drop, ◌+◌, ◌∙◌}
use Rattle.row_write.proofs.Ran.{reported_more, batch_more, refused_here, nothing_written, later_keys}
use Rattle.row_write.proofs.run.run.Goals as goal

pub loop-op-preserved : goal.loop-op-preserved
loop-op-preserved c =
    let later = c.split_at.ensures.back ∙ later_keys c.args.ops.now c.args.keys.now c.loop-op.op-index c.loop-op.place c.loop-op.invariant.place c.requires in
    let step = rw c.in_default.is at c.in_ok-why.ensures (drop (c.loop-op.op-index + 1) c.args.ops.now) later in
    record {
      place = ap (λ n. n + 1) c.loop-op.invariant.place;
      reported = reported_more c.args.schema.now c.loop-op.rows c.run_op.new.rows c.args.ops.now c.loop-op.op-index c.loop-op.place c.op-item.result c.loop-op.batch c.run_op.new.batch _ c.loop-op-test.true c.op-item.is step c.loop-op.invariant.reported;
      batch = batch_more c.args.schema.now c.loop-op.rows c.run_op.new.rows c.args.ops.now c.loop-op.op-index c.op-item.result c.loop-op.batch c.run_op.new.batch _ c.loop-op-test.true c.op-item.is step c.loop-op.invariant.batch;
    }

pub returns-in-Err-clause-reported : goal.returns-in-Err-clause-reported
returns-in-Err-clause-reported c =
    let later = c.split_at.ensures.back ∙ later_keys c.args.ops.now c.args.keys.now c.loop-op.op-index c.loop-op.place c.loop-op.invariant.place c.requires in
    let step = rw c.in-Err.is at c.in_ok-why.ensures (drop (c.loop-op.op-index + 1) c.args.ops.now) later in
    refused_here c.loop-op.rows c.args.ops.now c.loop-op.op-index c.loop-op.place c.op-item.result c.in-Err.why _ c.loop-op-test.true c.op-item.is step c.loop-op.invariant.reported

pub returns-in-Err-clause-batch : goal.returns-in-Err-clause-batch
returns-in-Err-clause-batch c =
    let later = c.split_at.ensures.back ∙ later_keys c.args.ops.now c.args.keys.now c.loop-op.op-index c.loop-op.place c.loop-op.invariant.place c.requires in
    let step = rw c.in-Err.is at c.in_ok-why.ensures (drop (c.loop-op.op-index + 1) c.args.ops.now) later in
    let refused = refused_here c.loop-op.rows c.args.ops.now c.loop-op.op-index c.loop-op.place c.op-item.result c.in-Err.why _ c.loop-op-test.true c.op-item.is step c.loop-op.invariant.reported in
    c.new.ensures ∙ nothing_written c.args.schema.now c.args.rows c.args.ops.now c.loop-op.place c.in-Err.why refused
