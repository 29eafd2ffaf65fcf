-- Parts of a store's pairs: what they count for together is what all count for.
use Rattle.std.proofs.Common.{◌≡◌, ◌≢◌, ℕ, zero, suc, Bool, true, false, cond, ◌&&◌, List, [], ◌∷◌, Option, Some, None, is_some, option_map, Result, Ok, Err, IfOk, refl, sym, ap, ap₂, subst, ◌∙◌, true≢false}
use Rattle.std.specs.Prelude.{slice_get, IfSome, IfNone, if◌then◌else◌}
use Rattle.std.specs.List.{cons_option}
use Rattle.std.specs.declared.cmp.Ordering.{Ordering}
use Rattle.std.specs.declared.cmp.Ordering.TheVariants.{Less}
use Rattle.std.specs.Ordering.{is_lt, is_le}
use Rattle.std.specs.FinMap as map
use Rattle.std.specs.FinMap.Entries.{where_key, same_entries}
use Rattle.byte_map.specs.Walk.{HasNoNext}
use Rattle.byte_map.proofs.Order.{bytes_cmp_total, bytes_cmp-IsAntisymmetric}
use Rattle.keycode.specs.Order.{bytes_cmp}
use Rattle.row_map.specs.Ranges.{is_within}
use Rattle.row_map.specs.Rows.{Bytes, Pairs}
use Rattle.row_map.specs.Walk.{is_empty, empties, key_range}
use Rattle.row_map.proofs.KeyRanges.{find_key_range, key_range_sorted}
use Rattle.row_map.proofs.Splits.{le, lt_is, less_le, within_is, within_parts, join}
use Rattle.schema_version.specs.Version.{Version}
use Rattle.audit.specs.declared.counts.Counts.{Counts}
use Rattle.audit.specs.Audit.{Pair}
use Rattle.audit.specs.Meaning.{AreByteStrings}
use Rattle.audit.specs.inner.RowCounts.{AllStrings, added, tally}
use Rattle.audit.proofs.Tallies.{strings_both, strings_of, tally_both}

-- ---- a key in a range

module _ (low high : Bytes) where
  abbrev AllInside : List Bytes → Type 0
  AllInside keys = (n : ℕ) (k : Bytes) → slice_get keys n ≡ Some k → is_within low high k ≡ true

  abbrev in_range : List Pair → List Pair
  in_range = where_key bytes_cmp (is_within low high)

  one_key : (x : Bytes) (keys : List Bytes) → is_within low high x ≡ true → AllInside keys → AllInside (x ∷ keys)
  one_key x keys own rest zero k is = subst (λ (o : Option Bytes). IfSome o (λ y. is_within low high y ≡ true)) is own
  one_key x keys own rest (suc n) k is = rest n k is

  by_value : (b : Bool) (x : Bytes) (keys : List Bytes) → is_within low high x ≡ true → AllInside keys → AllInside (cons_option (if b then Some x else None) keys)
  by_value true x keys own rest = one_key x keys own rest
  by_value false x keys own rest = rest

  by_range : (b : Bool) (e : Pair) (es : List Pair) → is_within low high e.0 ≡ b → AllInside (empties es) → AllInside (empties (cond b (e ∷ es) es))
  by_range true e es own rest = by_value (is_empty e.1) e.0 (empties es) own rest
  by_range false e es own rest = rest

  keys_inside : (es : List Pair) → AllInside (empties (in_range es))
  keys_inside [] = λ n k is. cc
  keys_inside (e ∷ es) = by_range (is_within low high e.0) e (in_range es) refl (keys_inside es)

-- a key that was found by its number stands between the ends of its range
pub middle_between : (pairs : Pairs) (low high : Bytes) (n : ℕ) (k : Bytes) → slice_get (empties (key_range pairs low high)) n ≡ Some k → (le low k ≡ true) × (le k high ≡ true)
middle_between pairs low high n k is =
    let parts : (le low k ≡ true) × (bytes_cmp k high ≡ Less) = within_parts low high k (keys_inside low high (map.entries pairs) n k is) in
    (parts.0, less_le k high parts.1)

pub some_between : {X : Type 0} (pairs : Pairs) (low high : Bytes) (n : ℕ) (now : X → Bytes) (o : Option X) → option_map now o ≡ slice_get (empties (key_range pairs low high)) n
    → IfSome o (λ m. is_le (bytes_cmp low (now m)) ≡ true) × IfSome o (λ m. is_le (bytes_cmp (now m) high) ≡ true)
some_between pairs low high n now None is = (tt, tt)
some_between pairs low high n now (Some m) is = middle_between pairs low high n (now m) (sym is)

-- ---- two parts

told : {E : Type 0} {P Q : Counts → Type 0} (r : Result Counts E) → ((x : Counts) → P x → Q x) → IfOk r P → IfOk r Q
told (Ok x) from is = from x is
told (Err fault) from is = tt

module _ (version : Version) (pairs : Pairs) where
  counted_both : (low middle high : Bytes) (below above both : Counts) → le low middle ≡ true → le middle high ≡ true
      → below ≡ tally version pairs (key_range pairs low middle) → above ≡ tally version pairs (key_range pairs middle high) → both ≡ added below above → both ≡ tally version pairs (key_range pairs low high)
  counted_both low middle high below above both from to below_is above_is both_is =
      both_is
      ∙ ap₂ added below_is above_is
      ∙ sym (tally_both version pairs (key_range pairs low middle) (key_range pairs middle high))
      ∙ ap (tally version pairs) (sym (join pairs low middle high from to))

  pub halves_counted : {E : Type 0} (low middle high : Bytes) (r s t : Result Counts E) (below above : Counts) → le low middle ≡ true → le middle high ≡ true → r ≡ Ok below → s ≡ Ok above
      → IfOk r (λ c. c ≡ tally version pairs (key_range pairs low middle)) → IfOk s (λ c. c ≡ tally version pairs (key_range pairs middle high)) → IfOk t (λ both. both ≡ added below above)
      → IfOk t (λ c. c ≡ tally version pairs (key_range pairs low high))
  halves_counted low middle high r s t below above from to r_is s_is first second =
      told t (λ both is. counted_both low middle high below above both from to
      (subst (λ o. IfOk o (λ c. c ≡ tally version pairs (key_range pairs low middle))) r_is first)
      (subst (λ o. IfOk o (λ c. c ≡ tally version pairs (key_range pairs middle high))) s_is second)
      is)

strings_joined : (pairs : Pairs) (low middle high : Bytes) → le low middle ≡ true → le middle high ≡ true → AllStrings (key_range pairs low middle) → AllStrings (key_range pairs middle high) → AllStrings (key_range pairs low high)
strings_joined pairs low middle high from to below above =
    subst AllStrings (sym (join pairs low middle high from to)) (strings_both (key_range pairs low middle) (key_range pairs middle high) below above)

pub halves_strings : {E : Type 0} (pairs : Pairs) (low middle high : Bytes) (r s t : Result Counts E) (below above : Counts) → le low middle ≡ true → le middle high ≡ true → r ≡ Ok below → s ≡ Ok above
    → IfOk r (λ c. AllStrings (key_range pairs low middle)) → IfOk s (λ c. AllStrings (key_range pairs middle high)) → IfOk t (λ c. AllStrings (key_range pairs low high))
halves_strings {E = E} pairs low middle high r s t below above from to r_is s_is first second = all_told t
  where
    whole : AllStrings (key_range pairs low high)
    whole = strings_joined pairs low middle high from to
        (subst (λ o. IfOk o (λ c. AllStrings (key_range pairs low middle))) r_is first)
        (subst (λ o. IfOk o (λ c. AllStrings (key_range pairs middle high))) s_is second)

    all_told : (u : Result Counts E) → IfOk u (λ c. AllStrings (key_range pairs low high))
    all_told (Ok c) = whole
    all_told (Err fault) = tt

-- ---- all pairs

not_below : (o : Ordering) → is_lt o ≡ false → o ≢ Less
not_below o e less = true≢false (sym (ap is_lt less) ∙ e)

nowhere : {X : Type 0} (t : Bool) (o : Option X) → o ≡ None → cond t o None ≡ o
nowhere true o e = refl
nowhere false o e = sym e

from_start : (q : Bytes) → le [] q ≡ true
from_start [] = refl
from_start (b ∷ q) = refl

-- if no key stands after the end, all pairs are those of the range
all_in_range : (pairs : Pairs) (end : Bytes) → HasNoNext pairs end → key_range pairs [] end ≡ map.entries pairs
all_in_range pairs end none =
    same_entries bytes_cmp bytes_cmp_total bytes_cmp-IsAntisymmetric (key_range pairs [] end) (map.entries pairs) (key_range_sorted pairs [] end) (map.entries_sorted pairs)
    (λ q. find_key_range pairs [] end q ∙ by_end q (is_lt (bytes_cmp q end)) refl ∙ map.get-entries pairs q)
  where
    by_end : (q : Bytes) (b : Bool) → is_lt (bytes_cmp q end) ≡ b → cond (is_within [] end q) (map.get pairs q) None ≡ map.get pairs q
    by_end q true is = ap (λ t. cond t (map.get pairs q) None) (within_is [] end q ∙ ap (λ t. le [] q && t) (sym (lt_is q end) ∙ is) ∙ ap (λ t. t && true) (from_start q))
    by_end q false is = nowhere (is_within [] end q) (map.get pairs q) (none q (not_below (bytes_cmp q end) is))

pub none_after : {X : Type 0} (o : Option X) (b : Bool) (P : Type 0) → b ≡ is_some o → b ≡ false → IfNone o P → P
none_after None b P is out none = none
none_after (Some x) b P is out none = absurd (true≢false (sym is ∙ out))

-- before the rows, the rows, and behind them
module _ (version : Version) (pairs : Pairs) (rows_from rows_to end : Bytes) (to : le rows_from rows_to ≡ true) (on : le rows_to end ≡ true) (none : HasNoNext pairs end) where
  pub parts_counted : {E : Type 0} (before rows indexes some : Counts) (t : Result Counts E) → before ≡ tally version pairs (key_range pairs [] rows_from) → rows ≡ tally version pairs (key_range pairs rows_from rows_to)
      → indexes ≡ tally version pairs (key_range pairs rows_to end) → some ≡ added before rows → IfOk t (λ all. all ≡ added some indexes) → IfOk t (λ all. all ≡ tally version pairs (map.entries pairs))
  parts_counted before rows indexes some t before_is rows_is indexes_is some_is =
      told t (λ all is.
      counted_both version pairs [] rows_to end some indexes all (from_start rows_to) on (counted_both version pairs [] rows_from rows_to before rows some (from_start rows_from) to before_is rows_is some_is) indexes_is is
      ∙ ap (tally version pairs) (all_in_range pairs end none))

  pub parts_strings : {E : Type 0} (t : Result Counts E) → AllStrings (key_range pairs [] rows_from) → AllStrings (key_range pairs rows_from rows_to) → AllStrings (key_range pairs rows_to end) → IfOk t (λ all. AreByteStrings pairs)
  parts_strings (Err fault) before rows indexes = tt
  parts_strings (Ok all) before rows indexes =
      strings_of pairs (subst AllStrings (all_in_range pairs end none)
      (strings_joined pairs [] rows_to end (from_start rows_to) on (strings_joined pairs [] rows_from rows_to (from_start rows_from) to before rows) indexes))
