-- The ranges that are given to be read are all that a page needs.
use Rattle.std.proofs.Common.{◌≡◌, ℕ, ◌<◌, ◌^◌, ◌==◌, ◌&&◌, Bool, true, false, not, cond, List, [], ◌∷◌, ◌++◌, Option, Some, None, option_map, refl, sym, ap, ap₂, subst, ◌∙◌, arith, eq-eqb}
use Rattle.std.proofs.lemmas.Bool.Decides.{nat_tests}
use Rattle.std.specs.FinMap as map
use Rattle.std.specs.FinMap.Entries.{find, find-where_key}
use Rattle.std.specs.List.{AllByRecursion, filter_map, flat_map, cons_option}
use Rattle.std.specs.Ordering.{is_le, is_lt, nat_cmp}
use Rattle.keycode.specs.declared.value.Value.{Value}
use Rattle.keycode.specs.Order.{bytes_cmp}
use Rattle.keycode.proofs.Orders.{bytes_cmp-IsAntisymmetric}
use Rattle.row_map.specs.declared.key.KeyOf.{KeyOf}
use Rattle.row_map.specs.declared.key.KeyOf.TheVariants.{Exists, Column, Index}
use Rattle.row_map.specs.declared.shape.Row.{Row}
use Rattle.row_map.specs.Keys.{row_code}
use Rattle.row_map.specs.Ranges.{is_within}
use Rattle.row_map.specs.Rows.{Bytes, Pairs, RowKey}
use Rattle.row_map.specs.Walk.{after}
use Rattle.schema_version.specs.declared.element.ElementDef.{ElementDef}
use Rattle.schema_version.specs.Sound.{IsSoundVersion}
use Rattle.schema_version.specs.Version.{Version, live}
use Rattle.reorganise.proofs.Order.{le, le_trans, le_itself, and_true, from_is, lt_is, within_parts, parts_within, less_le_less, less_of}
use Rattle.row_map.proofs.Walks.{below_after}
use Rattle.row_ask.specs.Remaining.{IsRead, row_end}
use Rattle.row_ask.proofs.Frame.{read_get, in_row}
use Rattle.audit.specs.Audit.{Pair, given}
use Rattle.audit.specs.Encoded.{key_read, row_at}
use Rattle.page_check.specs.Page.{is_on_page, page_of}
use Rattle.page_check.specs.Needs.{row_named, IsRowRead, IsGivenRead, AreGivenRead, ends_by, is_all_on_page, besides, row_range, row_ranges, point_range, given_range, ranges_given, given_ranges, AreRead}
use Rattle.page_check.specs.Whole.{RangesAreEnough}
use Rattle.page_check.proofs.Same.{all_turn, row_same}

-- ---- keys within ranges

not_lower : (e : ℕ) → is_lt (nat_cmp e 0) ≡ false
not_lower e = grind (arith, nat_tests)

lower : (e f : ℕ) → e < f → is_lt (nat_cmp e f) ≡ true
lower e f lt = grind (arith, nat_tests)

in_own_range : (row : RowKey) (e : ℕ) → e < 2 ^ 24 → is_within (row_range row).0 (row_range row).1 (row_code row.0 row.1 e) ≡ true
in_own_range row e lt =
    ap (λ b. not b && is_lt (bytes_cmp (row_code row.0 row.1 e) (row_end row.0 row.1))) (ap is_lt (in_row row.0 row.1 e 0 (omega arith) (omega arith)) ∙ not_lower e)
    ∙ ap is_lt (in_row row.0 row.1 e 16777216 (omega arith) (omega arith)) ∙ lower e 16777216 (omega arith)

at_point : (key : Bytes) → is_within (point_range key).0 (point_range key).1 key ≡ true
at_point key = parts_within key (after key) key (le_itself key) (less_of (bytes_cmp key (after key)) (below_after key key ∙ le_itself key))

-- ---- what was read

module _ (store read : Pairs) (low : Bytes) (to : Option Bytes) (same : page_of read low to ≡ page_of store low to) where
  found_on : (pairs : Pairs) (q : Bytes) → is_on_page low to q ≡ true → find bytes_cmp q (page_of pairs low to) ≡ map.get pairs q
  found_on pairs q on =
      find-where_key bytes_cmp (is_on_page low to) q (λ x e. ap (is_on_page low to) (sym (bytes_cmp-IsAntisymmetric q x e))) (map.entries pairs)
      ∙ ap (λ o. cond (is_on_page low to q) o None) (sym (map.get-entries pairs q))
      ∙ ap (λ (b : Bool). cond b (map.get pairs q) None) on

  page_get : (q : Bytes) → is_on_page low to q ≡ true → map.get read q ≡ map.get store q
  page_get q on = sym (found_on read q on) ∙ ap (find bytes_cmp q) same ∙ found_on store q on

  -- a key of a range that is all on the page is on the page
  on_with : (o : Option Bytes) (range : Bytes × Bytes) (q : Bytes) → (not (is_lt (bytes_cmp range.0 low)) && ends_by o range.1) ≡ true → is_within range.0 range.1 q ≡ true → is_on_page low o q ≡ true
  on_with None range q all w =
      let p = and_true (not (is_lt (bytes_cmp range.0 low))) true all in
      from_is low q ∙ le_trans low range.0 q (sym (from_is low range.0) ∙ p.0) (within_parts range.0 range.1 q w).0
  on_with (Some high) range q all w =
      let p = and_true (not (is_lt (bytes_cmp range.0 low))) (is_le (bytes_cmp range.1 high)) all in
      let k = within_parts range.0 range.1 q w in
      parts_within low high q (le_trans low range.0 q (sym (from_is low range.0) ∙ p.0) k.0) (less_le_less q range.1 high k.1 p.1)

  -- all keys of the range, if there is one, have in what was read what they have in the store
  abbrev IsHere : Option (Bytes × Bytes) → Type 0
  IsHere None = Unit {0}
  IsHere (Some range) = (q : Bytes) → is_within range.0 range.1 q ≡ true → map.get read q ≡ map.get store q

  module _ {X : Type 0} (h : X → Option (Bytes × Bytes)) where
    abbrev rest_of : List X → List (Bytes × Bytes)
    rest_of xs = filter_map (λ x. besides low to (h x)) xs

    here_one : (o : Option (Bytes × Bytes)) (xs : List X) → (AreRead store read (rest_of xs) → AllByRecursion (λ x. IsHere (h x)) xs) → AreRead store read (cons_option (besides low to o) (rest_of xs)) → IsHere o × AllByRecursion (λ x. IsHere (h x)) xs
    here_one None xs later all = (tt, later all)
    here_one (Some range) xs later all =
        elim (is_all_on_page low to range) as (λ b. is_all_on_page low to range ≡ b → AreRead store read (cons_option (cond b None (Some range)) (rest_of xs)) → IsHere (Some range) × AllByRecursion (λ x. IsHere (h x)) xs) [
          | true ↦ λ on is. ((λ q w. page_get q (on_with to range q on w)), later is)
          | false ↦ λ on is. ((λ q w. read_get store read range.0 range.1 q is.0 w), later is.1)
        ] refl all

    here_all : (xs : List X) → AreRead store read (rest_of xs) → AllByRecursion (λ x. IsHere (h x)) xs
    here_all [] all = tt
    here_all (x ∷ xs) all = here_one (h x) xs (here_all xs) all

  module _ (version : Version) (sound : IsSoundVersion version) where
    row_here : (o : Option RowKey) → IsHere (option_map row_range o) → IsRowRead store read o
    row_here None here = tt
    row_here (Some row) here = λ number lt. here (row_code row.0 row.1 number) (in_own_range row number lt)

    rows_here : (page : List Pair) → AreRead store read (row_ranges version low to page) → AllByRecursion (λ (pair : Pair). IsRowRead store read (row_named version (key_read pair.0))) page
    rows_here page all =
        all_turn (λ (pair : Pair). IsHere (option_map row_range (row_named version (key_read pair.0)))) (λ (pair : Pair). IsRowRead store read (row_named version (key_read pair.0)))
        (λ pair here. row_here (row_named version (key_read pair.0)) here) page
        (here_all (λ (pair : Pair). option_map row_range (row_named version (key_read pair.0))) page all)

    -- the key of a pair that a row gives
    given_here : (table : ℕ) (row own : Row) → row ≡ own → (element : ElementDef) → IsHere (given_range version table row element) → IsGivenRead version store read table own element
    given_here table row own row_is element here = λ pair home is.
        (let range : given_range version table row element ≡ Some (point_range pair.0) =
        ap (λ (b : Bool). cond b (option_map (λ (p : Pair). point_range p.0) (given version element row)) None) (eq-eqb element.table table home)
        ∙ ap (λ (o : Option Pair). option_map (λ (p : Pair). point_range p.0) o) (ap (given version element) row_is ∙ is) in
        subst IsHere range here pair.0 (at_point pair.0))

    key_here : (first : Pairs) (o : Option KeyOf) → IsRowRead store first (row_named version o) → AreRead store read (ranges_given version first low to o) → AreGivenRead version store read o
    key_here first None row all = tt
    key_here first (Some (Exists table primary)) row all =
        let found : Row = row_at version first table primary in
        let own : Row = row_at version store table primary in
        all_turn (λ element. IsHere (given_range version table found element)) (IsGivenRead version store read table own)
        (λ element here. given_here table found own (row_same version sound store first table primary row) element here) (live version)
        (here_all (given_range version table found) (live version) all)
    key_here first (Some (Column table primary number)) row all = tt
    key_here first (Some (Index number values)) row all = tt

    parted : (xs ys : List (Bytes × Bytes)) → AreRead store read (xs ++ ys) → AreRead store read xs × AreRead store read ys
    parted [] ys all = (tt, all)
    parted (x ∷ xs) ys all = let rest = parted xs ys all.1 in ((all.0, rest.0), rest.1)

    keys_here : (first : Pairs) (page : List Pair) → AllByRecursion (λ (pair : Pair). IsRowRead store first (row_named version (key_read pair.0))) page → AreRead store read (given_ranges version first low to page)
        → AllByRecursion (λ (pair : Pair). AreGivenRead version store read (key_read pair.0)) page
    keys_here first [] rows all = tt
    keys_here first (pair ∷ page) rows all =
        let p = parted (ranges_given version first low to (key_read pair.0)) (given_ranges version first low to page) all in
        (key_here first (key_read pair.0) rows.0 p.0, keys_here first page rows.1 p.1)

pub ranges_are_enough : RangesAreEnough
ranges_are_enough version store first read low to sound same_first rows_first same rows given = record {
  page = same;
  rows = rows_here store read low to same version sound (page_of store low to) rows;
  given =
      keys_here store read low to same version sound first (page_of store low to)
      (rows_here store first low to same_first version sound (page_of store low to) rows_first)
      given;
}
