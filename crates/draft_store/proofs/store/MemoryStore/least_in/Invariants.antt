use Rattle.std.proofs.Common.{◌≡◌, take}
use Rattle.draft_store.specs.Apply.{MissesRange, AnyIn}
use Rattle.draft_store.specs.inner.Least.{IsLeastOf}
use Rattle.draft_store.proofs.store.MemoryStore.least_in.Given as goal

abbrev pub invariant-loop-part : goal.invariant-loop-part
invariant-loop-part l = record {
  kept : l.self ≡ l.fn.self;
  least : IsLeastOf (λ key. AnyIn (MissesRange l.fn.self key) (take l.part-index l.ranges)) l.least;
}
