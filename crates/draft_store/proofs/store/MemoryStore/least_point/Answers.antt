use Rattle.std.proofs.Common.{◌+◌, ◌<◌, length, take, Option, sym, subst, arith}
use Rattle.row_map.specs.Rows.{Bytes}
use Rattle.draft_store.specs.Apply.{AnyIn, MissesPoint}
use Rattle.draft_store.specs.inner.Least.{IsLeastOf}
use Rattle.draft_store.proofs.Least.{least_more, least_whole}
use Rattle.draft_store.proofs.store.MemoryStore.least_point.Goals as goal

pub loop-point-preserved : goal.loop-point-preserved
loop-point-preserved c =
    let at = c.loop-point.point-index in
    let there : at < length c.args.points.now = omega (arith, c.loop-point-test.true) in
    let own = subst (λ (x : Bytes × Option Bytes). IsLeastOf (λ k. MissesPoint c.args.self.now k x) c.in_ok-missed_point.field-0) c.point-item.is c.in_ok-missed_point.ensures in
    subst (λ (r : Option Bytes). IsLeastOf (λ k. AnyIn (MissesPoint c.args.self.now k) (take (at + 1) c.args.points.now)) r) (sym c.lesser-least.ensures)
    (least_more (MissesPoint c.args.self.now) c.args.points.now at c.point-item.result c.loop-point.least c.in_ok-missed_point.field-0 there c.loop-point.invariant own)

pub returns : goal.returns
returns c = least_whole (MissesPoint c.args.self.now) c.args.points.now c.loop-point.point-index c.loop-point.least (omega (arith, c.loop-point-test.false)) c.loop-point.invariant
