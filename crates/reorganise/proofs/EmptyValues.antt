-- Where a pair is an item's exactly when its value is empty, the items between two keys are the pairs
-- with an empty value.
use Rattle.std.proofs.Common.{◌≡◌, ℕ, Bool, true, false, List, [], ◌∷◌, Some, refl, sym, ap, subst, ◌∙◌}
use Rattle.std.specs.List.{AllByRecursion}
use Rattle.std.specs.FinMap as map
use Rattle.std.specs.declared.cmp.Ordering.TheVariants.{Less}
use Rattle.byte_map.proofs.Order.{bytes_cmp_total, bytes_cmp-IsAntisymmetric}
use Rattle.keycode.specs.Order.{bytes_cmp}
use Rattle.row_map.specs.Rows.{Bytes, Pairs}
use Rattle.row_map.specs.Ranges.{is_within}
use Rattle.row_map.specs.Walk.{is_empty, empties, key_range}
use Rattle.row_map.proofs.Entries.{each_found}
use Rattle.row_map.proofs.KeyRanges.{find_key_range, key_range_sorted}
use Rattle.reorganise.specs.declared.scan_range.ScanRange.{ScanRange}
use Rattle.reorganise.specs.declared.work.Span.{Span}
use Rattle.reorganise.specs.Pieces.{spans}
use Rattle.reorganise.specs.ScanRanges.{start, end, is_item, item_keys, items, ItemsAreEmpty}
use Rattle.reorganise.proofs.Items.{Pair}
use Rattle.reorganise.proofs.Order.{le, le_trans, le_itself, less_le_less, parts_within, some_in, within_parts}

abbrev SaysItem : ScanRange → Pair → Type 0
SaysItem scan_range p = is_item scan_range p.0 ≡ is_empty p.1

same_keys : (scan_range : ScanRange) (ps : List Pair) → AllByRecursion (SaysItem scan_range) ps → item_keys scan_range ps ≡ empties ps
same_keys scan_range [] h = refl
same_keys scan_range (p ∷ ps) h = by_tests (is_item scan_range p.0) (is_empty p.1) h.0 refl refl (same_keys scan_range ps h.1)
  where
    by_tests : (a b : Bool) → a ≡ b → is_item scan_range p.0 ≡ a → is_empty p.1 ≡ b → item_keys scan_range ps ≡ empties ps → item_keys scan_range (p ∷ ps) ≡ empties (p ∷ ps)
    by_tests true true s item empty rest = simp (item, empty) (ap (λ (l : List Bytes). p.0 ∷ l) rest)
    by_tests false false s item empty rest = simp (item, empty) rest
    by_tests true false s item empty rest = absurd cc
    by_tests false true s item empty rest = absurd cc

-- between two keys of the range
pub items_between : (scan_range : ScanRange) (P : Pairs) (low high : Bytes) → ItemsAreEmpty scan_range P → le (start scan_range) low ≡ true → le high (end scan_range) ≡ true
    → item_keys scan_range (key_range P low high) ≡ empties (key_range P low high)
items_between scan_range P low high each from to =
    same_keys scan_range (key_range P low high)
    (each_found bytes_cmp bytes_cmp_total bytes_cmp-IsAntisymmetric (λ x v. is_item scan_range x ≡ is_empty v) (key_range P low high) (key_range_sorted P low high) (λ x v at.
    let there = some_in (is_within low high x) (map.get P x) v (sym (find_key_range P low high x) ∙ at) in
    each x v there.1 (inside x (within_parts low high x there.0))))
  where
    inside : (x : Bytes) → (le low x ≡ true) × (bytes_cmp x high ≡ Less) → is_within (start scan_range) (end scan_range) x ≡ true
    inside x p = parts_within (start scan_range) (end scan_range) x (le_trans (start scan_range) low x from p.0) (less_le_less x high (end scan_range) p.1 to)

-- and so all items
pub items_counted : (scan_range : ScanRange) (P : Pairs) → ItemsAreEmpty scan_range P → items scan_range P ≡ empties (key_range P (start scan_range) (end scan_range))
items_counted scan_range P each = items_between scan_range P (start scan_range) (end scan_range) each (le_itself (start scan_range)) (le_itself (end scan_range))

-- pieces that were fixed by the pairs with an empty value are those that the items fix
pub spans_counted : (scan_range s : ScanRange) (P : Pairs) (low high : Bytes) (n : ℕ) (found : List Span) → ItemsAreEmpty scan_range P → s ≡ scan_range → low ≡ start s → high ≡ end s
    → found ≡ spans s (empties (key_range P low high)) n n → found ≡ spans scan_range (items scan_range P) n n
spans_counted scan_range s P low high n found each same low_is high_is found_is =
    found_is
    ∙ (λ i. spans (same i) (empties (key_range P ((low_is ∙ ap start same) i) ((high_is ∙ ap end same) i))) n n)
    ∙ ap (λ (keys : List Bytes). spans scan_range keys n n) (sym (items_counted scan_range P each))
