use Rattle.std.proofs.Common.{◌+◌, ◌<◌, length, take, Option, sym, subst, ◌∙◌, arith}
use Rattle.row_map.specs.Rows.{Bytes, Pairs}
use Rattle.entry_code.specs.declared.parts.RangeParts.{RangeParts}
use Rattle.draft_store.specs.Apply.{AnyIn, MissesRange}
use Rattle.draft_store.specs.inner.Least.{IsLeastOf}
use Rattle.draft_store.proofs.Least.{least_more, least_whole}
use Rattle.draft_store.proofs.store.MemoryStore.least_in.Goals as goal

pub loop-part-preserved : goal.loop-part-preserved
loop-part-preserved c =
    let at = c.loop-part.part-index in
    let there : at < length c.args.ranges.now = omega (arith, c.loop-part-test.true) in
    let own =
    subst (λ (x : RangeParts). IsLeastOf (λ k. MissesRange c.args.self.now k x) c.in_ok-missed_in.field-0) c.part-item.is
    (subst (λ (pairs : Pairs). IsLeastOf (λ k. MissesRange pairs k c.part-item.result) c.in_ok-missed_in.field-0) c.loop-part.invariant.kept c.in_ok-missed_in.ensures.least) in
    record {
      kept = c.missed_in.ensures.kept ∙ c.loop-part.invariant.kept;
      least =
          subst (λ (r : Option Bytes). IsLeastOf (λ k. AnyIn (MissesRange c.args.self.now k) (take (at + 1) c.args.ranges.now)) r) (sym c.lesser-least.ensures)
          (least_more (MissesRange c.args.self.now) c.args.ranges.now at c.part-item.result c.loop-part.least c.in_ok-missed_in.field-0 there c.loop-part.invariant.least own);
    }

pub returns-clause-least : goal.returns-clause-least
returns-clause-least c = least_whole (MissesRange c.args.self.now) c.args.ranges.now c.loop-part.part-index c.loop-part.least (omega (arith, c.loop-part-test.false)) c.loop-part.invariant.least
