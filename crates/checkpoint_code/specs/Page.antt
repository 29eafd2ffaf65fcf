-- Cited by the contracts of page_bytes, page_of.
-- A page of a checkpoint's pairs, and what its reader reports.
use Rattle.std.specs.Prelude.{◌≡◌, ℕ, List, [], ◌∷◌, Bool, true, ◌&&◌, Result, Ok, Err}
use Rattle.std.specs.Ordering.{is_lt}
use Rattle.byte_map.specs.Order.{bytes_cmp}
use Rattle.byte_map.specs.Sorted.{IsSorted}
use Rattle.entry_code.specs.Parts.{pairs_code, ArePairs}
use Rattle.entry_code.specs.Read.{HasVersion, HasTrail, HasNone}
use Rattle.checkpoint_code.specs.declared.fault.PageFault.{PageFault}
use Rattle.checkpoint_code.specs.declared.fault.PageFault.TheVariants.{Version, Trailing, Malformed, Unordered, Memory}

abbrev pub Page : Type 0
Page = List (List ℕ × List ℕ)

-- whether the keys rise after this one
abbrev pub rise_after : List ℕ → Page → Bool
rise_after key [] = true
rise_after key (pair ∷ pairs) = is_lt (bytes_cmp key pair.0) && rise_after pair.0 pairs

-- IsSorted as a test
abbrev pub rise : Page → Bool
rise [] = true
rise (pair ∷ pairs) = rise_after pair.0 pairs

-- what is read has these bytes as its code, and its keys rise; each refusal has its reason
abbrev pub IsPageRead : List ℕ → Result Page PageFault → Type 0
IsPageRead bytes (Ok pairs) = (bytes ≡ pairs_code pairs) × ArePairs pairs × IsSorted pairs
IsPageRead bytes (Err Version) = ¬ (HasVersion bytes)
IsPageRead bytes (Err Trailing) = HasTrail ArePairs pairs_code bytes
IsPageRead bytes (Err Malformed) = HasVersion bytes × HasNone ArePairs pairs_code bytes
IsPageRead bytes (Err Unordered) = (pairs : Page) × (bytes ≡ pairs_code pairs) × (¬ (IsSorted pairs))
IsPageRead bytes (Err Memory) = HasVersion bytes

-- and what has these bytes as its code is read, unless memory runs out
abbrev pub IsPageAccepted : List ℕ → Result Page PageFault → Type 0
IsPageAccepted bytes (Ok read) = (pairs : Page) → ArePairs pairs → IsSorted pairs → bytes ≡ pairs_code pairs → read ≡ pairs
IsPageAccepted bytes (Err fault) = (pairs : Page) → ArePairs pairs → IsSorted pairs → bytes ≡ pairs_code pairs → fault ≡ Memory
