-- A row whose `exists` pair was met has that pair, and where a row's `exists` pair is looked for.
use Rattle.std.proofs.Common.{◌≡◌, ℕ, zero, suc, ◌<◌, ◌≤◌, ◌^◌, ◌⊎◌, Bool, true, false, List, [], ◌∷◌, length, drop, Option, Some, None, is_some, option_map, refl, sym, ap, subst, ◌∙◌, arith, inl, inr, eqb-true, true≢false}
use Rattle.std.specs.Prelude.{IfSome, ◌==◌, ◌&&◌}
use Rattle.std.specs.Cmp.{Equal-is}
use Rattle.std.specs.FinMap as map
use Rattle.std.specs.List.{AllByRecursion}
use Rattle.std.specs.Ordering.{is_eq}
use Rattle.keycode.specs.declared.value.Value.{Value}
use Rattle.keycode.specs.Order.{values_cmp, bytes_cmp}
use Rattle.keycode.specs.Valid.{AreValues, AreShort}
use Rattle.keycode.proofs.Fields.{IsBytes}
use Rattle.keycode.proofs.Orders.{values_cmp-IsAntisymmetric, bytes_cmp_total, bytes_cmp-IsAntisymmetric}
use Rattle.row_map.specs.declared.key.KeyOf.{KeyOf}
use Rattle.row_map.specs.declared.key.KeyOf.TheVariants.{Exists, Column, Index}
use Rattle.row_map.specs.Keys.{IsKey, key_code, row_code}
use Rattle.row_map.specs.ReadKey.{key_at}
use Rattle.row_map.specs.Rows.{Bytes, Pairs}
use Rattle.row_map.specs.Ranges.{is_within}
use Rattle.row_map.specs.Walk.{key_range}
use Rattle.row_map.proofs.Entries.{each_entry, each_found}
use Rattle.row_map.proofs.KeyRanges.{find_key_range, key_range_sorted}
use Rattle.row_map.proofs.Splits.{some_in}
use Rattle.row_map.proofs.KeyLaws.{key_takes, key_again}
use Rattle.element_state.specs.lemmas.Clears.{both_true, left_true, right_true}
use Rattle.audit.specs.declared.met.MetRow.{MetRow}
use Rattle.audit.specs.Audit.{Pair}
use Rattle.audit.specs.Encoded.{found, key_read, is_exists, is_row}
use Rattle.audit.specs.inner.Met.{ArePresent, IsThere, after, is_named}
use Rattle.audit.proofs.Exists.{found_says, Named, named_is, same_row}

pub all_present : (pairs : Pairs) (walk : List Pair) → walk ≡ map.entries pairs → ArePresent pairs walk
all_present pairs walk is = subst (ArePresent pairs) (sym is) (each_entry bytes_cmp bytes_cmp_total bytes_cmp-IsAntisymmetric (λ (x w : Bytes). map.get pairs x ≡ Some w) pairs (λ x w e. e))

-- the pairs of a range of keys are pairs of the store
pub present_within : (pairs : Pairs) (low high : Bytes) (walk : List Pair) → walk ≡ key_range pairs low high → ArePresent pairs walk
present_within pairs low high walk is =
    subst (ArePresent pairs) (sym is)
    (each_found bytes_cmp bytes_cmp_total bytes_cmp-IsAntisymmetric (λ (x w : Bytes). map.get pairs x ≡ Some w) (key_range pairs low high) (key_range_sorted pairs low high)
    (λ q w e. (some_in (is_within low high q) (map.get pairs q) w (sym (find_key_range pairs low high q) ∙ e)).1))

pub present_first : (pairs : Pairs) (here next : List Pair) (p : Pair) → here ≡ p ∷ next → ArePresent pairs here → (map.get pairs p.0 ≡ Some p.1) × ArePresent pairs next
present_first pairs here next p is all = subst (ArePresent pairs) is all

-- ---- the row that was met last

pub there_after : (pairs : Pairs) (x w : Bytes) (read : Option KeyOf) (last : Option MetRow) → map.get pairs x ≡ Some w → read ≡ key_read x → IfSome read (λ k. IsKey k × (x ≡ key_code k)) → IsThere pairs last → IsThere pairs (after read last)
there_after pairs x w None last there is form before = before
there_after pairs x w (Some (Exists table primary)) last there is form before =
    both_true (is_exists (key_read (row_code table primary 0))) (is_some (map.get pairs (row_code table primary 0)))
    (ap (λ (y : Bytes). is_exists (key_read y)) (sym form.1) ∙ ap is_exists (sym is))
    (ap (λ (y : Bytes). is_some (map.get pairs y)) (sym form.1) ∙ ap is_some there)
there_after pairs x w (Some (Column table primary number)) last there is form before = before
there_after pairs x w (Some (Index number values)) last there is form before = before

pub named_there : (pairs : Pairs) (last : Option MetRow) (table : ℕ) (primary : List Value) → IsThere pairs last → is_named last table primary ≡ true → is_row pairs table primary ≡ true
named_there pairs None table primary there is = absurd (true≢false (sym is))
named_there pairs (Some row) table primary there is =
    let same_table : row.table ≡ table = eqb-true row.table table (left_true (row.table == table) (is_eq (values_cmp row.key primary)) is) in
    let same_key : row.key ≡ primary = values_cmp-IsAntisymmetric row.key primary ((Equal-is (values_cmp row.key primary)).0 (right_true (row.table == table) (is_eq (values_cmp row.key primary)) is)) in
    ap (λ (t : ℕ). is_row pairs t primary) (sym same_table) ∙ ap (is_row pairs row.table) (sym same_key) ∙ there

-- ---- the look for a row's `exists` pair

-- the key of a row with one to four values is read
pub row_by_look : (pairs : Pairs) (table : ℕ) (primary : List Value) → table < 2 ^ 32 → 1 ≤ length primary → length primary ≤ 4 → AreValues primary → AreShort primary → is_row pairs table primary ≡ is_some (map.get pairs (row_code table primary 0))
row_by_look pairs table primary below low high values short =
    ap (λ r. is_exists (found r) && is_some (map.get pairs (row_code table primary 0)))
    (key_again (Exists table primary) (below, record { low_number = low; high_number = high; values = values; short = short }))

pub not_none : (n : ℕ) → (n == 0) ≡ false → 1 ≤ n
not_none zero e = absurd (true≢false e)
not_none (suc n) e = omega arith

pub some_mapped : {A B : Type 0} (f : A → B) (o : Option A) (p : Option B) → option_map f o ≡ p → is_some o ≡ is_some p
some_mapped f None p e = ap is_some e
some_mapped f (Some a) p e = ap is_some e

number_of : (table : ℕ) (primary : List Value) → table < 2 ^ 32 → AreValues primary → IsBytes (row_code table primary 0) → is_exists (key_read (row_code table primary 0)) ≡ true → (1 ≤ length primary) × (length primary ≤ 4)
number_of table primary below values fits is =
    let named : Named (key_read (row_code table primary 0)) = named_is (key_read (row_code table primary 0)) is in
    let form : IsKey (Exists named.table named.primary) × (row_code table primary 0 ≡ key_code (Exists named.table named.primary)) =
    key_takes (row_code table primary 0) (Exists named.table named.primary) fits (found_says (key_at (row_code table primary 0)) (Exists named.table named.primary) named.is) in
    let same : (table ≡ named.table) × (primary ≡ named.primary) = same_row table named.table primary named.primary below form.0.0 values form.0.1.values form.1 in
    (rw same.1 form.0.1.low_number, rw same.1 form.0.1.high_number)

unread : (table : ℕ) (primary : List Value) → table < 2 ^ 32 → AreValues primary → IsBytes (row_code table primary 0) → (length primary ≡ 0) ⊎ (4 < length primary) → (b : Bool) → is_exists (key_read (row_code table primary 0)) ≡ b → b ≡ false
unread table primary below values fits (inl none) true is = absurd (omega (arith, (number_of table primary below values fits is).0))
unread table primary below values fits (inr many) true is = absurd (omega (arith, (number_of table primary below values fits is).1))
unread table primary below values fits number false is = refl

-- a key of no value or of more than four is none of a row
pub no_row : (pairs : Pairs) (table : ℕ) (primary : List Value) → table < 2 ^ 32 → AreValues primary → IsBytes (row_code table primary 0) → (length primary ≡ 0) ⊎ (4 < length primary) → is_row pairs table primary ≡ false
no_row pairs table primary below values fits number =
    ap (λ (b : Bool). b && is_some (map.get pairs (row_code table primary 0))) (unread table primary below values fits number (is_exists (key_read (row_code table primary 0))) refl)

-- ---- values after the first ones

pub values_behind : (n : ℕ) (vs : List Value) → AreValues vs → AreValues (drop n vs)
values_behind zero vs all = all
values_behind (suc n) [] all = tt
values_behind (suc n) (v ∷ vs) all = values_behind n vs all.1
