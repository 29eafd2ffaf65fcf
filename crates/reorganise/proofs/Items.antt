-- Walking over the pairs, item by item.
use Rattle.std.proofs.Common.{◌≡◌, ℕ, ◌+◌, Bool, true, false, List, [], ◌∷◌, ◌++◌, refl, sym, ap, ◌∙◌, add-one, if◌then◌else◌}
use Rattle.std.proofs.lemmas.List.Elements.{filter_map-append}
use Rattle.row_map.specs.Rows.{Bytes, Pairs}
use Rattle.row_map.specs.Walk.{key_range, after}
use Rattle.reorganise.specs.declared.scan_range.ScanRange.{ScanRange}
use Rattle.reorganise.specs.declared.work.Span.{Span}
use Rattle.reorganise.specs.ScanRanges.{is_item, item_key, item_keys}
use Rattle.reorganise.specs.Pieces.{bound, span_at, spans}

abbrev pub Pair : Type 0
Pair = Bytes × Bytes

-- the first pair from a key on and below another stands before those after it
abbrev pub Begins : Pairs → Bytes → Bytes → Pair → Type 0
Begins pairs low high p = key_range pairs low high ≡ p ∷ key_range pairs (after p.0) high

-- the key of the pair, if it is an item's
abbrev pub one_item : Bool → Pair → List Bytes
one_item b p = if b then p.0 ∷ [] else []

one_key : (scan_range : ScanRange) (p : Pair) (b : Bool) → is_item scan_range p.0 ≡ b → item_keys scan_range (p ∷ []) ≡ one_item b p
one_key scan_range p true e = simp (e) refl
one_key scan_range p false e = simp (e) refl

pub item_keys-cons : (scan_range : ScanRange) (p : Pair) (ps : List Pair) (b : Bool) → is_item scan_range p.0 ≡ b → item_keys scan_range (p ∷ ps) ≡ one_item b p ++ item_keys scan_range ps
item_keys-cons scan_range p ps b e = filter_map-append (item_key scan_range) (p ∷ []) ps ∙ ap (λ l. l ++ item_keys scan_range ps) (one_key scan_range p b e)

pub spans_more : (scan_range : ScanRange) (keys : List Bytes) (pieces k : ℕ) (before more : List Span) (low high cursor : Bytes) → before ≡ spans scan_range keys pieces k
    → low ≡ bound scan_range keys pieces k → high ≡ bound scan_range keys pieces (k + 1) → cursor ≡ low → more ≡ before ++ record { low = low; high = high; cursor = cursor } ∷ []
    → more ≡ spans scan_range keys pieces (k + 1)
spans_more scan_range keys pieces k before more low high cursor so_far low_is high_is cursor_is more_is =
    let one : record { low = low; high = high; cursor = cursor } ≡ span_at scan_range keys pieces k = λ i. record { low = low_is i; high = high_is i; cursor = (cursor_is ∙ low_is) i } in
    more_is ∙ ap (λ l. l ++ record { low = low; high = high; cursor = cursor } ∷ []) so_far ∙ ap (λ (s : Span). spans scan_range keys pieces k ++ s ∷ []) one ∙ ap (spans scan_range keys pieces) (sym (add-one k))
