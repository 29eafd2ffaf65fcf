-- Entries that have the keys of a row, in their order.
use Rattle.std.proofs.Common.{◌≡◌, ◌<◌, ◌≤◌, ◌+◌, ◌==◌, ◌⊎◌, inl, inr, ℕ, zero, suc, Bool, true, false, not, List, [], ◌∷◌, length, get_or, set, take, drop, Option, Some, None, refl, sym, ap, ap₂, subst, ◌∙◌, arith, Contains}
use Rattle.std.proofs.lemmas.List.{take_all, take-map, drop-map, get_or-map, get_or-take, get_or-drop}
use Rattle.std.proofs.lemmas.List.Elements.{Contains-get_or}
use Rattle.std.specs.Cmp.Lexicographic.{pointwise, same_text}
use Rattle.std.specs.List.{AllByRecursion}
use Rattle.std.specs.FinMap.{get, entries}
use Rattle.keycode.specs.Order.{bytes_cmp}
use Rattle.keycode.proofs.Orders.{bytes_cmp_total, bytes_cmp-IsAntisymmetric}
use Rattle.row_map.specs.declared.shape.ColumnType.{ColumnType}
use Rattle.row_map.specs.declared.shape.ColumnType.TheVariants as kind
use Rattle.row_map.specs.Keys.{row_code}
use Rattle.row_map.specs.Rows.{Bytes}
use Rattle.row_map.specs.Expect.{View}
use Rattle.row_map.proofs.Entries.{each_entry}
use Rattle.schema_version.proofs.Lists.{here, later}
use Rattle.row_write.specs.declared.op.RowOp.{RowOp}
use Rattle.row_write.specs.Plain.{table_of, key_of}
use Rattle.row_write.specs.inner.Enter.{column_keys, row_keys}
use Rattle.row_write.specs.inner.Places.{IsRowAt, AreOrOld, AreMarked}
use Rattle.row_write.specs.inner.View.{IsThere, visible_at, keys_of, AreHeld}
use Rattle.row_write.proofs.Encoded.{all_at}

-- ---- one key

pub same_bytes : (a b : Bytes) (other : Bool) → other ≡ not (pointwise ◌==◌ a b) → other ≡ false → a ≡ b
same_bytes a b other reported is = same_text a b (by (pointwise ◌==◌ a b) (sym reported ∙ is))
  where
    by : (x : Bool) → not x ≡ false → true ≡ x
    by true e = refl
    by false e = absurd (let wrong : true ≡ false = e in cc)

-- ---- what entries hold

pub held_at : (visible : ℕ → Option (Option Bytes)) (columns : List (ℕ × ColumnType)) (held : List (Bytes × Option Bytes)) (i : ℕ) (entry : Bytes × Option Bytes) → i < length columns → AreHeld visible columns held → entry ≡ get_or held i entry
    → visible (get_or columns i (0, kind.Int)).0 ≡ Some entry.1
held_at visible [] held i entry lt all is = absurd (omega arith)
held_at visible (c ∷ columns) [] i entry lt all is = absurd all
held_at visible (c ∷ columns) (e ∷ held) zero entry lt all is = all.0 ∙ ap (λ (d : Bytes × Option Bytes). Some d.1) (sym is)
held_at visible (c ∷ columns) (e ∷ held) (suc i) entry lt all is = held_at visible columns held i entry (omega arith) all.1 is

pub one_presence : (visible : Option (Option Bytes)) (a b : Bool) → IsThere visible a → IsThere visible b → a ≡ b
one_presence visible true true p q = refl
one_presence visible false false p q = refl
one_presence visible true false p q = absurd (let wrong : Some (Some []) ≡ Some None = sym p ∙ q in cc)
one_presence visible false true p q = absurd (let wrong : Some None ≡ Some (Some []) = sym p ∙ q in cc)

-- ---- the pairs of a row, side by side

all_take : {X : Type 0} (P : X → Type 0) (n : ℕ) (xs : List X) → AllByRecursion P xs → AllByRecursion P (take n xs)
all_take P zero xs all = tt
all_take P (suc n) [] all = tt
all_take P (suc n) (x ∷ xs) all = (all.0, all_take P n xs all.1)

all_drop : {X : Type 0} (P : X → Type 0) (n : ℕ) (xs : List X) → AllByRecursion P xs → AllByRecursion P (drop n xs)
all_drop P zero xs all = all
all_drop P (suc n) [] all = tt
all_drop P (suc n) (x ∷ xs) all = all_drop P n xs all.1

module _ (view : View) (op : RowOp) where
  abbrev IsIn : Bytes × Option Bytes → Type 0
  IsIn entry = get view entry.0 ≡ Some entry.1

  each_in : AllByRecursion IsIn (entries view)
  each_in = each_entry bytes_cmp bytes_cmp_total bytes_cmp-IsAntisymmetric (λ key value. get view key ≡ Some value) view (λ key value at. at)

  held_each : (es : List (Bytes × Option Bytes)) (columns : List (ℕ × ColumnType)) → AllByRecursion IsIn es → keys_of es ≡ column_keys op columns → AreHeld (visible_at view op) columns es
  held_each [] [] all keys = tt
  held_each [] (c ∷ columns) all keys = absurd cc
  held_each (e ∷ es) [] all keys = absurd cc
  held_each (e ∷ es) (c ∷ columns) all keys =
      let key : e.0 ≡ row_code (table_of op) (key_of op) c.0 = cc in
      let more : keys_of es ≡ column_keys op columns = cc in
      (ap (get view) (sym key) ∙ all.0, held_each es columns all.1 more)

  pub presence_at : (columns : List (ℕ × ColumnType)) (es : List (Bytes × Option Bytes)) (at : ℕ) (entry : Bytes × Option Bytes) → es ≡ entries view → IsRowAt (entries view) op columns at → entry ≡ get_or es at entry
      → visible_at view op 0 ≡ Some entry.1
  presence_at columns es at entry is row here =
      let below : at < length (entries view) = omega (arith, row.in_range) in
      let one : entry ≡ get_or (entries view) at entry = here ∙ ap (λ (l : List (Bytes × Option Bytes)). get_or l at entry) is in
      let own : IsIn (get_or (entries view) at entry) = all_at IsIn (entries view) at entry below each_in in
      let key : entry.0 ≡ row_code (table_of op) (key_of op) 0 = ap (λ (e : Bytes × Option Bytes). e.0) one ∙ sym (get_or-map (λ (e : Bytes × Option Bytes). e.0) (entries view) at entry [] below) ∙ row.exists in
      ap (get view) (sym key) ∙ subst IsIn (sym one) own

  pub held_at_place : (columns : List (ℕ × ColumnType)) (es : List (Bytes × Option Bytes)) (at n : ℕ) → es ≡ entries view → n ≡ length columns → IsRowAt (entries view) op columns at → AreHeld (visible_at view op) columns (take n (drop (at + 1) es))
  held_at_place columns es at n is long row =
      subst (λ (l : List (Bytes × Option Bytes)). AreHeld (visible_at view op) columns (take n (drop (at + 1) l))) (sym is)
      (subst (λ k. AreHeld (visible_at view op) columns (take k (drop (at + 1) (entries view)))) (sym long)
      (held_each (take (length columns) (drop (at + 1) (entries view))) columns (all_take IsIn (length columns) (drop (at + 1) (entries view)) (all_drop IsIn (at + 1) (entries view) each_in)) row.rest))

-- entries that are a row from the first on, and no more, have the row's keys
pub only_keys : (es : List (Bytes × Option Bytes)) (op : RowOp) (columns : List (ℕ × ColumnType)) → length es ≡ length columns + 1 → IsRowAt es op columns 0 → keys_of es ≡ row_keys op columns
only_keys [] op columns long row = absurd (omega (arith, long))
only_keys (e ∷ es) op columns long row =
    let all : take (length columns) es ≡ es = take_all (length columns) es (omega (arith, long)) in
    ap₂ (λ (k : Bytes) (ks : List Bytes). k ∷ ks) row.exists (ap keys_of (sym all) ∙ row.rest)

-- ---- marks

length_keys : (op : RowOp) (columns : List (ℕ × ColumnType)) → length (column_keys op columns) ≡ length columns
length_keys op [] = refl
length_keys op (c ∷ columns) = ap suc (length_keys op columns)

-- a key at one of the places of a row is one of its keys
pub in_row : (es : List (Bytes × Option Bytes)) (op : RowOp) (columns : List (ℕ × ColumnType)) (at i : ℕ) → IsRowAt es op columns at → at ≤ i → i + 1 ≤ at + (length columns + 1) → Contains (row_keys op columns) (get_or (keys_of es) i [])
in_row es op columns at i row low high = elim (eq_or_above at i low) [
  | inl same ↦ subst (Contains (row_keys op columns)) (sym (ap (λ n. get_or (keys_of es) n []) (sym same) ∙ row.exists)) (here (row_code (table_of op) (key_of op) 0) (column_keys op columns))
  | inr (j, is) ↦
      let below : j < length columns = omega (arith, is, high) in
      let at_place : get_or (column_keys op columns) j [] ≡ get_or (keys_of es) i [] =
      ap (λ (ks : List Bytes). get_or ks j []) (sym row.rest ∙ sym (take-map (λ (e : Bytes × Option Bytes). e.0) (length columns) (drop (at + 1) es)))
      ∙ get_or-take (length columns) (keys_of (drop (at + 1) es)) j [] below
      ∙ ap (λ (ks : List Bytes). get_or ks j []) (sym (drop-map (λ (e : Bytes × Option Bytes). e.0) (at + 1) es))
      ∙ get_or-drop (at + 1) (keys_of es) j []
      ∙ ap (λ n. get_or (keys_of es) n []) (sym is) in
      later (row_code (table_of op) (key_of op) 0) (get_or (keys_of es) i []) (column_keys op columns)
      (subst (Contains (column_keys op columns)) at_place (Contains-get_or (column_keys op columns) j [] (omega (arith, below, length_keys op columns))))
]
  where
    eq_or_above : (a b : ℕ) → a ≤ b → (a ≡ b) ⊎ ((j : ℕ) × (b ≡ a + 1 + j))
    eq_or_above zero zero le = inl refl
    eq_or_above zero (suc b) le = inr (b, omega arith)
    eq_or_above (suc a) zero le = absurd (omega (arith, le))
    eq_or_above (suc a) (suc b) le = elim (eq_or_above a b (omega (arith, le))) [
      | inl same ↦ inl (ap suc same)
      | inr (j, is) ↦ inr (j, omega (arith, is))
    ]

-- marks at a row's places are at its keys
pub marked_row : (es : List (Bytes × Option Bytes)) (op : RowOp) (columns : List (ℕ × ColumnType)) (at : ℕ) (before then : List Bool) → IsRowAt es op columns at
    → ((i : ℕ) → AreOrOld before then i ((at ≤ i) × (i + 1 ≤ at + (length columns + 1)))) → AreMarked (keys_of es) (row_keys op columns) before then
marked_row es op columns at before then row marks i marked = elim (marks i marked) [
  | inl old ↦ inl old
  | inr (low, high) ↦ inr (in_row es op columns at i row low high)
]

-- a mark after one more is at that place, or old
pub set_marked : (marks : List Bool) (i k : ℕ) → get_or (set marks i true) k false ≡ true → (k ≡ i) ⊎ (get_or marks k false ≡ true)
set_marked [] i k e = inr e
set_marked (m ∷ marks) zero zero e = inl refl
set_marked (m ∷ marks) zero (suc k) e = inr e
set_marked (m ∷ marks) (suc i) zero e = inr e
set_marked (m ∷ marks) (suc i) (suc k) e = elim (set_marked marks i k e) [
  | inl same ↦ inl (ap suc same)
  | inr old ↦ inr old
]
