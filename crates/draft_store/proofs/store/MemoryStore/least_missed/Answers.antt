use Rattle.std.proofs.Common.{List, Option, sym, subst}
use Rattle.row_map.specs.Rows.{Bytes}
use Rattle.entry_code.specs.declared.parts.RangeParts.{RangeParts}
use Rattle.draft_store.specs.Apply.{AnyIn, MissesPoint, MissesRange, Misses}
use Rattle.draft_store.specs.inner.Least.{IsLeastOf}
use Rattle.draft_store.proofs.Least.{least_lesser}
use Rattle.draft_store.proofs.store.MemoryStore.least_missed.Goals as goal

pub returns-clause-least : goal.returns-clause-least
returns-clause-least c =
    let points = subst (λ (xs : List (Bytes × Option Bytes)). IsLeastOf (λ k. AnyIn (MissesPoint c.args.self.now k) xs) c.in_ok-in_points.in_points) c.as_slice-points.ensures c.in_ok-in_points.ensures in
    let ranges = subst (λ (xs : List RangeParts). IsLeastOf (λ k. AnyIn (MissesRange c.args.self.now k) xs) c.in_ok-in_ranges.in_ranges) c.as_slice-ranges.ensures c.in_ok-in_ranges.ensures.least in
    subst (λ (r : Option Bytes). IsLeastOf (Misses c.args.parts.now c.args.self.now) r) (sym c.lesser.ensures)
    (least_lesser (λ k. AnyIn (MissesPoint c.args.self.now k) c.args.parts.now.compare) (λ k. AnyIn (MissesRange c.args.self.now k) c.args.parts.now.ranges) c.in_ok-in_points.in_points c.in_ok-in_ranges.in_ranges points ranges)
