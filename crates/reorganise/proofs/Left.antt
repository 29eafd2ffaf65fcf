-- At the begin of a reorganisation all items are left.
use Rattle.std.proofs.Common.{◌≡◌, ℕ, zero, suc, ◌+◌, ◌<◌, List, [], ◌∷◌, ◌++◌, length, true, refl, sym, ap, subst, ◌∙◌}
use Rattle.std.specs.List.{AllByRecursion}
use Rattle.std.proofs.lemmas.List.{length-append}
use Rattle.std.proofs.lemmas.List.Elements.{filter_map-append}
use Rattle.collections.proofs.Steps.{AllByRecursion-append}
use Rattle.row_map.specs.Rows.{Bytes, Pairs}
use Rattle.row_map.specs.Walk.{key_range}
use Rattle.reorganise.specs.declared.scan_range.ScanRange.{ScanRange}
use Rattle.reorganise.specs.declared.work.Span.{Span}
use Rattle.reorganise.specs.ScanRanges.{scan_range_of, start, end, item_key, item_keys, items}
use Rattle.reorganise.specs.Pieces.{span_at, spans}
use Rattle.reorganise.specs.Partition.{AreJoined}
use Rattle.reorganise.specs.Left.{left_in}
use Rattle.reorganise.specs.Laws.{AllLeft}
use Rattle.reorganise.proofs.Order.{le, join, key_range_itself}
use Rattle.reorganise.proofs.Shares.{joined_le, begun_joined}

-- no piece has begun
abbrev IsFresh : Span → Type 0
IsFresh s = s.cursor ≡ s.low

fresh : (scan_range : ScanRange) (keys : List Bytes) (pieces k : ℕ) → AllByRecursion IsFresh (spans scan_range keys pieces k)
fresh scan_range keys pieces zero = tt
fresh scan_range keys pieces (suc k) = AllByRecursion-append IsFresh (spans scan_range keys pieces k) (span_at scan_range keys pieces k ∷ []) (fresh scan_range keys pieces k) (refl, tt)

fresh_left : (scan_range : ScanRange) (P : Pairs) (low high : Bytes) (pieces : List Span) → AreJoined low high pieces → AllByRecursion IsFresh pieces
    → left_in scan_range P pieces ≡ length (item_keys scan_range (key_range P low high))
fresh_left scan_range P low high [] joined at =
    sym (ap (λ ps. length (item_keys scan_range ps)) (ap (key_range P low) (sym joined) ∙ key_range_itself P low))
fresh_left scan_range P low high (s ∷ ss) joined at =
    let from : le low s.high ≡ true = subst (λ (x : Bytes). le x s.high ≡ true) joined.0 joined.1 in
    let here = key_range P low s.high in
    let rest = key_range P s.high high in
    ap (λ (x : Bytes). length (item_keys scan_range (key_range P x s.high)) + left_in scan_range P ss) (at.0 ∙ joined.0)
    ∙ ap (λ (n : ℕ). length (item_keys scan_range here) + n) (fresh_left scan_range P s.high high ss joined.2 at.1)
    ∙ sym (length-append (item_keys scan_range here) (item_keys scan_range rest))
    ∙ sym (ap length (filter_map-append (item_key scan_range) here rest))
    ∙ sym (ap (λ ps. length (item_keys scan_range ps)) (join P low s.high high from (joined_le s.high high ss joined.2)))

pub all_left : AllLeft
all_left element work pairs pieces some =
    let range = scan_range_of element work in
    fresh_left range pairs (start range) (end range) (spans range (items range pairs) pieces pieces) (begun_joined range pairs pieces some) (fresh range (items range pairs) pieces pieces)
