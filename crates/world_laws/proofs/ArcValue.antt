-- The `exists` pairs are as many as the rows.
use Rattle.std.proofs.Common.{◌≡◌, Bool, true, false, cond, List, [], length, Option, Some, None, is_some, refl, sym, ap, subst, ◌∙◌, arith}
use Rattle.std.specs.Prelude.{count_by}
use Rattle.std.specs.declared.cmp.Ordering.{Ordering}
use Rattle.std.specs.declared.cmp.Ordering.TheVariants.{Less, Equal, Greater}
use Rattle.std.specs.FinMap as map
use Rattle.std.specs.FinMap.Entries.{same_entries}
use Rattle.std.specs.List.{AllByRecursion, filter_map, list_any}
use Rattle.std.specs.List.Sorted.{IsStrictlySortedBy}
use Rattle.std.specs.Ordering.{nat_cmp, eq_by_cmp, ordering_then}
use Rattle.audit.specs.Audit.{Pair, is_exists_pair}
use Rattle.audit.specs.Encoded.{found, key_read, is_exists}
use Rattle.keycode.specs.Order.{bytes_cmp, values_cmp}
use Rattle.keycode.proofs.Orders.{bytes_cmp_total, bytes_cmp-IsAntisymmetric}
use Rattle.row_map.specs.declared.key.KeyOf.{KeyOf}
use Rattle.row_map.specs.declared.key.KeyOf.TheVariants.{Exists, Column, Index}
use Rattle.row_map.specs.Keys.{IsKey, key_code, row_code}
use Rattle.row_map.specs.ReadKey.{key_at}
use Rattle.row_map.specs.Rows.{Bytes, RowKey, row_cmp, Cells, Rows, Pairs}
use Rattle.row_map.proofs.Entries.{each_entry}
use Rattle.row_map.proofs.KeyLaws.{key_again}
use Rattle.row_map.proofs.KeyOrder.{row_keys}
use Rattle.row_map.proofs.Orders.{row_cmp_total, row_cmp-IsAntisymmetric}
use Rattle.schema_version.specs.Version.{Version}
use Rattle.element_state.specs.lemmas.Apart.{none_some, some_one}
use Rattle.row_query.proofs.Premise.{Reads}
use Rattle.row_query.proofs.Sorted.{kept, find_kept, sorted_kept, sorted_map, all_given, member_of, tied}
use Rattle.world_laws.proofs.Sums.{length_given, length_kept}

-- a key that was written is read again
pub read_again : (x : Bytes) (k : KeyOf) → IsKey k → x ≡ key_code k → key_read x ≡ Some k
read_again x k form encoded = ap found (ap key_at encoded ∙ key_again k form)

-- the row of an `exists` pair
abbrev row_named : Option KeyOf → Option RowKey
row_named None = None
row_named (Some (Exists table primary)) = Some (table, primary)
row_named (Some (Column table primary number)) = None
row_named (Some (Index number values)) = None

abbrev row_of_pair : Pair → Option RowKey
row_of_pair pair = row_named (key_read pair.0)

named_where_exists : (o : Option KeyOf) → is_exists o ≡ is_some (row_named o)
named_where_exists None = refl
named_where_exists (Some (Exists table primary)) = refl
named_where_exists (Some (Column table primary number)) = refl
named_where_exists (Some (Index number values)) = refl

then_equal : (o : Ordering) → ordering_then o Equal ≡ o
then_equal Less = refl
then_equal Equal = refl
then_equal Greater = refl

-- a value that is there only if the test holds
where_so : {A : Type 0} (o : Option A) (b : Bool) → ((a : A) → o ≡ Some a → b ≡ true) → o ≡ cond b o None
where_so None true so = refl
where_so None false so = refl
where_so (Some a) b so = ap (λ (c : Bool). cond c (Some a) None) (sym (so a refl))

module _ (version : Version) (rows : Rows) (pairs : Pairs) (reads : Reads version rows pairs) where
  abbrev IsPair : Pair → Type 0
  IsPair pair = map.get pairs pair.0 ≡ Some pair.1

  all_pairs : AllByRecursion IsPair (map.entries pairs)
  all_pairs = each_entry bytes_cmp bytes_cmp_total bytes_cmp-IsAntisymmetric (λ x w. map.get pairs x ≡ Some w) pairs (λ x w is. is)

  -- the key of such a pair
  row_pair_is : (pair : Pair) (row : RowKey) → IsPair pair → row_of_pair pair ≡ Some row → (pair.0 ≡ row_code row.0 row.1 0) × IsKey (Exists row.0 row.1)
  row_pair_is pair row there is =
      let form = reads.forms pair.0 pair.1 there in
      by form.key form.form form.encoded (ap row_named (sym (read_again pair.0 form.key form.form form.encoded)) ∙ is)
    where
      by : (k : KeyOf) → IsKey k → pair.0 ≡ key_code k → row_named (Some k) ≡ Some row → (pair.0 ≡ row_code row.0 row.1 0) × IsKey (Exists row.0 row.1)
      by (Exists table primary) form encoded same = subst (λ (r : RowKey). (pair.0 ≡ row_code r.0 r.1 0) × IsKey (Exists r.0 r.1)) (some_one (table, primary) row same) (encoded, form)
      by (Column table primary number) form encoded same = absurd (none_some row same)
      by (Index number values) form encoded same = absurd (none_some row same)

  -- the rows of the `exists` pairs, in the order of the pairs
  abbrev named_rows : List RowKey
  named_rows = filter_map row_of_pair (map.entries pairs)

  rows_rise : IsStrictlySortedBy row_cmp named_rows
  rows_rise = sorted_map bytes_cmp row_cmp IsPair row_of_pair in_order (map.entries pairs) all_pairs (map.entries_sorted pairs)
    where
      in_order : (e f : Pair) (k l : RowKey) → IsPair e → IsPair f → bytes_cmp e.0 f.0 ≡ Less → row_of_pair e ≡ Some k → row_of_pair f ≡ Some l → row_cmp k l ≡ Less
      in_order e f k l p q less is so =
          let x = row_pair_is e k p is in
          let y = row_pair_is f l q so in
          ap (ordering_then (nat_cmp k.0 l.0)) (sym (then_equal (values_cmp k.1 l.1)))
          ∙ sym (row_keys k.0 l.0 k.1 l.1 0 0 x.1.0 y.1.0 x.1.1.values y.1.1.values (omega arith) (omega arith))
          ∙ ap (λ (b : Bytes). bytes_cmp b (row_code l.0 l.1 0)) (sym x.0) ∙ ap (bytes_cmp e.0) (sym y.0) ∙ less

  -- they are rows of the log
  rows_there : AllByRecursion (λ (row : RowKey). is_some (map.get rows row) ≡ true) named_rows
  rows_there = all_given IsPair (λ (row : RowKey). is_some (map.get rows row) ≡ true) row_of_pair given (map.entries pairs) all_pairs
    where
      given : (pair : Pair) (row : RowKey) → IsPair pair → row_of_pair pair ≡ Some row → is_some (map.get rows row) ≡ true
      given pair row there is =
          let key = row_pair_is pair row there is in
          reads.only_rows row.0 row.1 pair.1 key.1 (ap (map.get pairs) (sym key.0) ∙ there)

  -- and all of them
  row_listed : (row : RowKey) (cells : Cells) → map.get rows row ≡ Some cells → list_any (eq_by_cmp row_cmp row) named_rows ≡ true
  row_listed row cells here =
      member_of bytes_cmp_total bytes_cmp-IsAntisymmetric row_of_pair (eq_by_cmp row_cmp row) (row_code row.0 row.1 0) [] row (map.entries pairs)
      (sym (map.get-entries pairs (row_code row.0 row.1 0)) ∙ reads.each_row row.0 row.1 cells here)
      (ap row_named (read_again (row_code row.0 row.1 0) (Exists row.0 row.1) (reads.keys row.0 row.1 cells here) refl))
      (tied row_cmp_total row_cmp-IsAntisymmetric row)

  rows_are : map.entries rows ≡ kept (map.get rows) named_rows
  rows_are =
      same_entries row_cmp row_cmp_total row_cmp-IsAntisymmetric (map.entries rows) (kept (map.get rows) named_rows)
      (map.entries_sorted rows) (sorted_kept row_cmp_total row_cmp-IsAntisymmetric (map.get rows) named_rows rows_rise)
      (λ row. sym (map.get-entries rows row)
      ∙ where_so (map.get rows row) (list_any (eq_by_cmp row_cmp row) named_rows) (row_listed row)
      ∙ sym (find_kept row_cmp_total row_cmp-IsAntisymmetric (map.get rows) row named_rows))

  pub rows_counted : count_by is_exists_pair (map.entries pairs) ≡ length (map.entries rows)
  rows_counted =
      sym (length_given row_of_pair is_exists_pair (λ pair. named_where_exists (key_read pair.0)) (map.entries pairs))
      ∙ sym (length_kept (map.get rows) named_rows rows_there)
      ∙ ap (λ (es : List (RowKey × Cells)). length es) (sym rows_are)
