-- In a store of byte strings the `exists` pair of a row is exactly when the audit looks for it.
use Rattle.std.proofs.Common.{◌≡◌, ℕ, zero, suc, ◌<◌, ◌^◌, true, List, [], ◌∷◌, Option, Some, None, Result, Ok, Err, is_some, refl, sym, ap, ◌∙◌, arith, true≢false}
use Rattle.std.specs.FinMap as map
use Rattle.std.specs.List.{AllByRecursion}
use Rattle.std.specs.Ordering.{nat_cmp, ordering_then}
use Rattle.std.specs.FinMap.{nat_cmp-IsAntisymmetric}
use Rattle.std.specs.declared.cmp.Ordering.{Ordering}
use Rattle.std.specs.declared.cmp.Ordering.TheVariants.{Less, Equal, Greater}
use Rattle.std.proofs.lemmas.Option.{same_Some}
use Rattle.keycode.specs.declared.fault.KeyFault.{KeyFault}
use Rattle.keycode.specs.declared.value.Value.{Value}
use Rattle.keycode.specs.Order.{bytes_cmp, values_cmp}
use Rattle.keycode.specs.Valid.{AreValues, IsStorable}
use Rattle.keycode.proofs.Fields.{IsBytes}
use Rattle.keycode.proofs.Orders.{values_cmp-IsAntisymmetric}
use Rattle.byte_map.proofs.Order.{same_itself}
use Rattle.row_map.specs.declared.key.KeyOf.{KeyOf}
use Rattle.row_map.specs.declared.key.KeyOf.TheVariants.{Exists, Column, Index}
use Rattle.row_map.specs.Keys.{IsKey, key_code, row_code}
use Rattle.row_map.specs.ReadKey.{key_at}
use Rattle.row_map.specs.Rows.{Bytes, RowKey, Cells, Pairs, IsStorableRow}
use Rattle.row_map.proofs.Cells.{only_is}
use Rattle.row_map.proofs.KeyLaws.{key_takes}
use Rattle.row_map.proofs.KeyOrder.{row_keys}
use Rattle.schema_version.specs.Version.{Version}
use Rattle.element_state.specs.lemmas.Apart.{none_some}
use Rattle.element_state.specs.lemmas.Clears.{both_true, left_true, right_true}
use Rattle.audit.specs.Encoded.{found, key_read, is_exists, is_row}
use Rattle.audit.specs.Meaning.{HasExistsPair, HasCell, IsEncoded, AreByteStrings}

bytes_of : (bytes : Bytes) → AllByRecursion (λ b. b < 2 ^ 8) bytes → IsBytes bytes
bytes_of [] all i = omega arith
bytes_of (b ∷ bytes) all zero = all.0
bytes_of (b ∷ bytes) all (suc i) = bytes_of bytes all.1 i

pub found_says : (r : Result KeyOf KeyFault) (k : KeyOf) → found r ≡ Some k → r ≡ Ok k
found_says (Ok l) k e = ap Ok (same_Some l k e)
found_says (Err fault) k e = absurd (none_some k e)

both_equal : (o p : Ordering) → ordering_then o p ≡ Equal → (o ≡ Equal) × (p ≡ Equal)
both_equal Less p e = absurd cc
both_equal Equal p e = (refl, e)
both_equal Greater p e = absurd cc

there_is : {A : Type 0} (o : Option A) → is_some o ≡ true → (a : A) × (o ≡ Some a)
there_is None e = absurd (true≢false (sym e))
there_is (Some a) e = (a, refl)

pub record Named (o : Option KeyOf) : Type 0 where
  pub table : ℕ
  pub primary : List Value
  pub is : o ≡ Some (Exists table primary)

pub named_is : (o : Option KeyOf) → is_exists o ≡ true → Named o
named_is None e = absurd (true≢false (sym e))
named_is (Some (Exists table primary)) e = record { table = table; primary = primary; is = refl }
named_is (Some (Column table primary number)) e = absurd (true≢false (sym e))
named_is (Some (Index number values)) e = absurd (true≢false (sym e))

-- equal keys of rows are of one row
pub same_row : (t u : ℕ) (a b : List Value) → t < 2 ^ 32 → u < 2 ^ 32 → AreValues a → AreValues b → row_code t a 0 ≡ row_code u b 0 → (t ≡ u) × (a ≡ b)
same_row t u a b lt lu p q same =
    let equal : ordering_then (nat_cmp t u) (ordering_then (values_cmp a b) (nat_cmp 0 0)) ≡ Equal =
    sym (row_keys t u a b 0 0 lt lu p q (omega arith) (omega arith)) ∙ ap (bytes_cmp (row_code t a 0)) (sym same) ∙ same_itself (row_code t a 0) in
    let parts = both_equal (nat_cmp t u) (ordering_then (values_cmp a b) (nat_cmp 0 0)) equal in
    (nat_cmp-IsAntisymmetric t u parts.0, values_cmp-IsAntisymmetric a b (both_equal (values_cmp a b) (nat_cmp 0 0) parts.1).0)

module _ (pairs : Pairs) (strings : AreByteStrings pairs) where
  -- a key that is read is the code of what it is read as
  pub key_form : (x w : Bytes) → map.get pairs x ≡ Some w → (k : KeyOf) → key_read x ≡ Some k → IsKey k × (x ≡ key_code k)
  key_form x w there k is = key_takes x k (bytes_of x (strings x w there).0) (found_says (key_at x) k is)

  pub row_from : (table : ℕ) (primary : List Value) → HasExistsPair pairs (table, primary) → is_row pairs table primary ≡ true
  row_from table primary exists =
      let code : exists.key ≡ row_code table primary 0 = (key_form exists.key exists.value exists.there (Exists table primary) exists.names).1 in
      both_true (is_exists (key_read (row_code table primary 0))) (is_some (map.get pairs (row_code table primary 0)))
      (ap (λ (x : Bytes). is_exists (key_read x)) (sym code) ∙ ap is_exists exists.names)
      (ap (λ (x : Bytes). is_some (map.get pairs x)) (sym code) ∙ ap is_some exists.there)

  pub row_says : (table : ℕ) (primary : List Value) → table < 2 ^ 32 → AreValues primary → is_row pairs table primary ≡ true → HasExistsPair pairs (table, primary)
  row_says table primary below values is =
      let code = row_code table primary 0 in
      let named : Named (key_read code) = named_is (key_read code) (left_true (is_exists (key_read code)) (is_some (map.get pairs code)) is) in
      let here = there_is (map.get pairs code) (right_true (is_exists (key_read code)) (is_some (map.get pairs code)) is) in
      let form = key_form code here.0 here.1 (Exists named.table named.primary) named.is in
      let same : (table ≡ named.table) × (primary ≡ named.primary) = same_row table named.table primary named.primary below form.0.0 values form.0.1.values form.1 in
      record {
        key = code;
        value = here.0;
        there = here.1;
        names = named.is ∙ ap (λ (t : ℕ). Some (Exists t named.primary)) (sym same.0) ∙ ap (λ (p : List Value). Some (Exists table p)) (sym same.1);
      }

  -- a row that is encoded is one that keys can name and pairs can hold
  pub encoded_storable : (version : Version) (row : RowKey) (cells : Cells) → IsEncoded version pairs row cells → IsStorableRow row cells
  encoded_storable version row cells encoded =
      let form = key_form encoded.exists.key encoded.exists.value encoded.exists.there (Exists row.0 row.1) encoded.exists.names in
      record { table = form.0.0; primary = form.0.1; values = λ column value is. storable column value ((encoded.values column value).0 is) }
    where
      storable : (column : ℕ) (value : Value) → HasCell version pairs row column value → IsStorable value
      storable column value has =
          ((only_is has.bytes (bytes_of has.bytes (strings (row_code row.0 row.1 column) has.bytes has.there).1) value).0 has.reads).storable
