-- Cited by the contracts of lemma_given_begins_keep, and by the definitions of Log.
-- A reorganisation whose bounds are given: for a store that is too large for a walk over it.
use Rattle.std.specs.Prelude.{◌≡◌, ℕ, ◌≤◌, [], ◌∷◌, ◌++◌, length, Some, None}
use Rattle.std.specs.List.{AllByRecursion}
use Rattle.schema_version.specs.Edges.{wanted_work}
use Rattle.schema_version.specs.Version.{element_at, state_of}
use Rattle.reorganise.specs.declared.work.Span.{Span}
use Rattle.reorganise.specs.declared.work.Progress.{Progress}
use Rattle.reorganise.specs.Laws.{HasBounds}
use Rattle.reorganise.specs.Partition.{AreJoined}
use Rattle.reorganise.specs.ScanRanges.{scan_range_of, start, end}
use Rattle.replay.specs.Kept.{IsKept, used_before}
use Rattle.replay.specs.Replay.{Facts, progress_of}

-- 1 to 64 pieces that share the range and begin where rows may begin, whether or not such rows are there, each with its cursor at its lower bound
pub record AreGiven (b : Progress) : Type 0 where
  pub some : 1 ≤ length b.pieces
  pub few : length b.pieces ≤ 64
  pub joined : AreJoined (start (scan_range_of b.element b.kind)) (end (scan_range_of b.element b.kind)) b.pieces
  pub bounds : AllByRecursion (HasBounds (scan_range_of b.element b.kind)) b.pieces
  pub fresh : AllByRecursion (λ (s : Span). s.cursor ≡ s.low) b.pieces

-- what the element wants, begun where every version that a lease may still use has it in that state; of the pairs nothing is asked
pub record MayBeginAt (facts : Facts) (now : ℕ) (b : Progress) : Type 0 where
  pub there : element_at facts.newest b.element.number ≡ Some b.element
  pub wants : wanted_work b.element ≡ Some b.kind
  pub settled : state_of (used_before facts now) b.element.number ≡ b.element.state
  pub new : progress_of facts.progress b.element.number ≡ None
  pub given : AreGiven b

-- one more reorganisation, and all else as it was
abbrev pub begun_at : Facts → ℕ → Progress → Facts
begun_at facts now b = record facts { moment = now; progress = facts.progress ++ b ∷ [] }

abbrev pub GivenBeginsKeep : Type 0
GivenBeginsKeep = (facts : Facts) (now : ℕ) (b : Progress) → facts.moment ≤ now → MayBeginAt facts now b → IsKept facts → IsKept (begun_at facts now b)
