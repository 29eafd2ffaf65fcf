use Rattle.std.proofs.Common.{take}
use Rattle.std.specs.List.{AllByRecursion}
use Rattle.reorganise.specs.Laws.{HasBounds}
use Rattle.reorganise.specs.ScanRanges.{scan_range_of}
use Rattle.checkpoint_check.proofs.pieces.have_bounds.Given as goal

abbrev pub invariant-loop-span : goal.invariant-loop-span
invariant-loop-span l = AllByRecursion (HasBounds (scan_range_of l.element l.kind)) (take l.span-index l.pieces)
