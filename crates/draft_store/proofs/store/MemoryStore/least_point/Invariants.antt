use Rattle.std.proofs.Common.{take}
use Rattle.draft_store.specs.Apply.{MissesPoint, AnyIn}
use Rattle.draft_store.specs.inner.Least.{IsLeastOf}
use Rattle.draft_store.proofs.store.MemoryStore.least_point.Given as goal

abbrev pub invariant-loop-point : goal.invariant-loop-point
invariant-loop-point l = IsLeastOf (λ key. AnyIn (MissesPoint l.self key) (take l.point-index l.points)) l.least
