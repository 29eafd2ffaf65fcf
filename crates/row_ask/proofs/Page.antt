-- What is found in a page of a table.
use Rattle.std.proofs.Common.{◌≡◌, ℕ, ◌+◌, ◌<◌, ◌≤◌, ◌^◌, true, cond, List, [], ◌∷◌, ◌++◌, Some, None, ◌⊎◌, inl, inr, refl, sym, ap, subst, ◌∙◌, is_some, length, arith, true≢false}
use Rattle.std.proofs.lemmas.List.{append-nil, length-append}
use Rattle.std.proofs.lemmas.Bool.Decides.{nat_tests}
use Rattle.std.specs.declared.cmp.Ordering.TheVariants.{Less, Equal}
use Rattle.std.specs.Ordering.{is_le, nat_cmp}
use Rattle.std.specs.List.{AllByRecursion}
use Rattle.std.proofs.lemmas.List.Elements.{filter_map-append}
use Rattle.keycode.specs.declared.value.Value.{Value}
use Rattle.keycode.specs.Order.{bytes_cmp}
use Rattle.row_map.specs.declared.key.KeyOf.TheVariants.{Exists}
use Rattle.row_map.specs.Keys.{IsKey, row_code}
use Rattle.row_map.specs.Rows.{Bytes, Pairs}
use Rattle.row_map.specs.Ranges.{is_within}
use Rattle.row_map.specs.Walk.{key_range}
use Rattle.schema_version.specs.Version.{Version, live}
use Rattle.schema_version.specs.Sound.{IsSoundVersion}
use Rattle.element_state.specs.Elements.{HasForm, AreFormed}
use Rattle.byte_map.proofs.Order.{same_itself}
use Rattle.reorganise.proofs.Order.{le, le_trans, less_le, within_parts, parts_within, less_le_less, join, key_range_itself}
use Rattle.row_query.specs.declared.query.Query.{Query}
use Rattle.row_query.specs.inner.Bounds.{table_end}
use Rattle.row_query.specs.inner.Checks.{public_numbers}
use Rattle.row_query.specs.inner.Found.{row_key_in, row_of_key, row_at, rows_at}
use Rattle.row_query.proofs.Sorted.{same_given}
use Rattle.row_ask.specs.Remaining.{IsRead, rows_between}
use Rattle.row_ask.specs.Pages.{last_row_at, HasTwoRows}
use Rattle.row_ask.proofs.Forward.{le_less, has_pairs, first_row}
use Rattle.row_ask.proofs.Frame.{in_row, read_get, read_part, same_row, few_columns, IsCut, IsAmong, all_among, row_key_is, cut_at_row, cut_at_end, below_end}

zero_le : (e : ℕ) → is_le (nat_cmp 0 e) ≡ true
zero_le e = grind (arith, nat_tests)

-- where the rows so far come to: nowhere, or an `exists` key of the table
abbrev IsLast : ℕ → Bytes → Bytes → Bytes → Type 0
IsLast table low to cut = (cut ≡ low) ⊎ ((key : List Value) × (cut ≡ row_code table key 0) × IsKey (Exists table key) × (is_within low to cut ≡ true))

last_is : (table : ℕ) (low to : Bytes) (ps : List (Bytes × Bytes)) (before : Bytes) → AllByRecursion (IsAmong low to) ps → IsLast table low to before → IsLast table low to (last_row_at table before ps)
last_is table low to [] before all so_far = so_far
last_is table low to (p ∷ ps) before all so_far =
    elim (row_key_in table p.0) as (λ o. row_key_in table p.0 ≡ o → IsLast table low to (last_row_at table (cond (is_some o) p.0 before) ps)) [
      | None ↦ λ e. last_is table low to ps before all.1 so_far
      | Some key ↦ λ e. let k = row_key_is table p.0 key all.0.1 e in last_is table low to ps p.0 all.1 (inr (key, k.0, k.1, all.0.0))
    ] refl

module _ (store : Pairs) (forms : AreFormed store) (read : Pairs) (version : Version) (sound : IsSoundVersion version) (query : Query) (low to : Bytes) (is : IsRead store read low to) where
  abbrev columns : List ℕ
  columns = public_numbers (live version) query.table

  inside : (cut : Bytes) (p : Bytes × Bytes) (key : List Value) (e : ℕ) → le cut to ≡ true → IsCut query.table cut → IsAmong low cut p → (p.0 ≡ row_code query.table key 0) × IsKey (Exists query.table key) → e < 2 ^ 24
      → is_within low to (row_code query.table key e) ≡ true
  inside cut p key e below is_cut among k lt =
      let w = within_parts low cut p.0 among.0 in
      let own : le (row_code query.table key 0) (row_code query.table key e) ≡ true = ap is_le (in_row query.table key 0 e (omega arith) (omega arith)) ∙ zero_le e in
      parts_within low to (row_code query.table key e)
      (le_trans low p.0 (row_code query.table key e) w.0 (ap (λ x. le x (row_code query.table key e)) k.0 ∙ own))
      (less_le_less (row_code query.table key e) cut to (is_cut key e k.1 lt (ap (λ x. bytes_cmp x cut) (sym k.0) ∙ w.1)) below)

  pair_same : (cut : Bytes) → le cut to ≡ true → IsCut query.table cut → (p : Bytes × Bytes) → IsAmong low cut p → row_at read columns query p.0 ≡ row_at store columns query p.0
  pair_same cut below is_cut p among =
      elim (row_key_in query.table p.0) as (λ o. row_key_in query.table p.0 ≡ o → row_of_key read columns query o ≡ row_of_key store columns query o) [
        | None ↦ λ e. refl
        | Some key ↦ λ e.
            let k = row_key_is query.table p.0 key among.1 e in
            same_row store read columns query key (few_columns version sound query.table) (λ n lt. read_get store read low to (row_code query.table key n) is (inside cut p key n below is_cut among k lt))
      ] refl

  page_same : (cut : Bytes) → le cut to ≡ true → IsCut query.table cut → rows_at read columns query (key_range read low cut) ≡ rows_between version store query low cut
  page_same cut below is_cut =
      ap (rows_at read columns query) (read_part store read low to low cut is (λ q w. let p = within_parts low cut q w in parts_within low to q p.0 (less_le_less q cut to p.1 below)))
      ∙ same_given (IsAmong low cut) (λ pair. row_at read columns query pair.0) (λ pair. row_at store columns query pair.0) (pair_same cut below is_cut) (key_range store low cut) (all_among store forms low cut)

  goes_on : (cut : Bytes) → le low cut ≡ true → le cut (table_end query.table) ≡ true
      → rows_between version store query low cut ++ rows_between version store query cut (table_end query.table) ≡ rows_between version store query low (table_end query.table)
  goes_on cut from below = sym (
      ap (rows_at store columns query) (join store low cut (table_end query.table) from below)
      ∙ filter_map-append (λ (pair : Bytes × Bytes). row_at store columns query pair.0) (key_range store low cut) (key_range store cut (table_end query.table)))

  is_last : (cut : Bytes) → cut ≡ last_row_at query.table low (key_range read low to) → IsLast query.table low to cut
  is_last cut made = subst (IsLast query.table low to) (sym made) (last_is query.table low to (key_range read low to) low (subst (AllByRecursion (IsAmong low to)) (sym is) (all_among store forms low to)) (inl refl))

  last_below : (cut : Bytes) → cut ≡ last_row_at query.table low (key_range read low to) → bytes_cmp low cut ≡ Less → le cut (table_end query.table) ≡ true
  last_below cut made above =
      elim (is_last cut made) [
        | inl same ↦ absurd (let tied : Equal ≡ Less = sym (same_itself cut) ∙ ap (λ x. bytes_cmp x cut) same ∙ above in cc)
        | inr found ↦ ap (λ c. le c (table_end query.table)) found.1 ∙ less_le (row_code query.table found.0 0) (table_end query.table) (below_end query.table found.0 0 found.2)
      ]

  -- a page that ends within the table
  pub page_goes_on : (cut : Bytes) → cut ≡ last_row_at query.table low (key_range read low to)
      → rows_at read columns query (key_range read low cut) ++ rows_between version store query cut (table_end query.table) ≡ rows_between version store query low (table_end query.table)
  page_goes_on cut made =
      elim (is_last cut made) [
        | inl same ↦
            ap (λ c. rows_at read columns query (key_range read low c) ++ rows_between version store query c (table_end query.table)) same
            ∙ ap (λ l. rows_at read columns query l ++ rows_between version store query low (table_end query.table)) (key_range_itself read low)
        | inr found ↦
            let w = within_parts low to cut found.3 in
            let is_cut : IsCut query.table cut = subst (IsCut query.table) (sym found.1) (cut_at_row query.table found.0 found.2) in
            let below : le cut (table_end query.table) ≡ true = ap (λ c. le c (table_end query.table)) found.1 ∙ less_le (row_code query.table found.0 0) (table_end query.table) (below_end query.table found.0 0 found.2) in
            ap (λ rows. rows ++ rows_between version store query cut (table_end query.table)) (page_same cut (less_le cut to w.1) is_cut) ∙ goes_on cut w.0 below
      ]

  -- the table's last page
  pub page_ends : le (table_end query.table) to ≡ true → rows_at read columns query (key_range read low (table_end query.table)) ++ [] ≡ rows_between version store query low (table_end query.table)
  page_ends below = append-nil (rows_at read columns query (key_range read low (table_end query.table))) ∙ page_same (table_end query.table) below (cut_at_end query.table)

  row_below_end : (bytes : Bytes) → HasForm bytes → is_some (row_key_in query.table bytes) ≡ true → bytes_cmp bytes (table_end query.table) ≡ Less
  row_below_end bytes form row =
      elim (row_key_in query.table bytes) as (λ o. row_key_in query.table bytes ≡ o → is_some o ≡ true → bytes_cmp bytes (table_end query.table) ≡ Less) [
        | None ↦ λ _ wrong. absurd (true≢false (sym wrong))
        | Some key ↦ λ e _. let k = row_key_is query.table bytes key form e in ap (λ b. bytes_cmp b (table_end query.table)) k.0 ∙ below_end query.table key 0 k.1
      ] refl row

  -- the part before the last row has a row's pair
  pub fewer_after : (cut : Bytes) → cut ≡ last_row_at query.table low (key_range read low to) → HasTwoRows query.table (key_range read low to)
      → length (key_range store cut (table_end query.table)) < length (key_range store low (table_end query.table))
  fewer_after cut made two =
      let r = first_row query.table read low to two in
      let w = within_parts low to r.0.0 r.1.0 in
      let above : bytes_cmp r.0.0 cut ≡ Less = subst (λ c. bytes_cmp r.0.0 c ≡ Less) (sym made) r.3 in
      let more : 1 ≤ length (key_range store low cut) = has_pairs store low cut r.0.0 r.0.1 (parts_within low cut r.0.0 w.0 above) (sym (read_get store read low to r.0.0 is r.1.0) ∙ r.1.1) in
      let from : le low cut ≡ true = less_le low cut (le_less low r.0.0 cut w.0 above) in
      let parts : length (key_range store low (table_end query.table)) ≡ length (key_range store low cut) + length (key_range store cut (table_end query.table)) =
      ap length (join store low cut (table_end query.table) from (last_below cut made (le_less low r.0.0 cut w.0 above))) ∙ length-append (key_range store low cut) (key_range store cut (table_end query.table)) in
      omega (arith, more, parts)

  -- the last page of two rows has pairs
  pub fewer_at_end : le (table_end query.table) to ≡ true → HasTwoRows query.table (key_range read low to) → 1 ≤ length (key_range store low (table_end query.table))
  fewer_at_end below two =
      let r = first_row query.table read low to two in
      let here = sym (read_get store read low to r.0.0 is r.1.0) ∙ r.1.1 in
      has_pairs store low (table_end query.table) r.0.0 r.0.1
      (parts_within low (table_end query.table) r.0.0 (within_parts low to r.0.0 r.1.0).0 (row_below_end r.0.0 (forms r.0.0 r.0.1 here) r.2)) here
