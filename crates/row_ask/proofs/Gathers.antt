-- The keys that are gathered page by page.
use Rattle.std.proofs.Common.{◌≡◌, true, false, not, List, sym, ap, ◌∙◌}
use Rattle.std.specs.Ordering.{is_eq}
use Rattle.std.specs.Cmp.{Equal-is}
use Rattle.keycode.specs.declared.value.Value.{Value}
use Rattle.keycode.specs.Order.{bytes_cmp}
use Rattle.keycode.proofs.Orders.{bytes_cmp-IsAntisymmetric}
use Rattle.row_map.specs.Rows.{Bytes, Pairs}
use Rattle.row_map.specs.Walk.{key_range}
use Rattle.reorganise.proofs.Order.{le, lt_is, less_le, less_of, within_parts, parts_within, less_le_less, join, key_range_itself}
use Rattle.row_query.specs.inner.Bounds.{gathered}
use Rattle.row_ask.specs.declared.remaining.IndexRange.{IndexRange}
use Rattle.row_ask.specs.Remaining.{IsRead, keys_with_rest}
use Rattle.row_ask.proofs.Frame.{read_part}
use Rattle.row_ask.proofs.Begins.{gathered_on}

pub nothing_left : (range : IndexRange) → is_eq (bytes_cmp range.low range.high) ≡ true → (store : Pairs) (keys : List (List Value)) → keys_with_rest store range keys ≡ keys
nothing_left range same store keys =
    let is : range.low ≡ range.high = bytes_cmp-IsAntisymmetric range.low range.high ((Equal-is (bytes_cmp range.low range.high)).0 same) in
    ap (λ low. gathered range.number range.width keys (key_range store low range.high)) is ∙ ap (gathered range.number range.width keys) (key_range_itself store range.high)

module _ (store read : Pairs) (range : IndexRange) (keys : List (List Value)) (to : Bytes) (from : le range.low to ≡ true) (is : IsRead store read range.low to) where
  abbrev gather_all : List (List Value) → List (Bytes × Bytes) → List (List Value)
  gather_all = gathered range.number range.width

  pub whole_range : le range.high to ≡ true → gather_all (gather_all keys (key_range read range.low range.high)) (key_range store range.high range.high) ≡ keys_with_rest store range keys
  whole_range below =
      ap (gather_all (gather_all keys (key_range read range.low range.high))) (key_range_itself store range.high)
      ∙ ap (gather_all keys) (read_part store read range.low to range.low range.high is (λ q w. let p = within_parts range.low range.high q w in parts_within range.low to q p.0 (less_le_less q range.high to p.1 below)))

  pub part_of_range : le range.high to ≡ false → gather_all (gather_all keys (key_range read range.low to)) (key_range store to range.high) ≡ keys_with_rest store range keys
  part_of_range above =
      let below : le to range.high ≡ true = less_le to range.high (less_of (bytes_cmp to range.high) (lt_is to range.high ∙ ap not above)) in
      ap (λ l. gather_all (gather_all keys l) (key_range store to range.high)) is
      ∙ sym (ap (gather_all keys) (join store range.low to range.high from below) ∙ gathered_on range.number range.width keys (key_range store range.low to) (key_range store to range.high))
