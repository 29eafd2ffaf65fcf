-- Two maps with the same keys, by tests of their entries, and a view with the keys of one row.
use Rattle.std.proofs.Common.{◌≡◌, ◌<◌, ◌+◌, ◌++◌, ◌↔◌, ◌&&◌, length, get_or, drop, append_assoc, ℕ, zero, suc, option_map, Bool, true, false, cond, List, [], ◌∷◌, Option, Some, None, is_some, inl, inr, refl, sym, ap, subst, ◌∙◌, IsTrue, arith, Contains}
use Rattle.std.proofs.lemmas.List.{at_drop_more, length-map}
use Rattle.std.proofs.lemmas.List.Elements.{Contains-get_or}
use Rattle.std.specs.List.{list_all, AllByRecursion}
use Rattle.std.specs.Ordering.{eq_by_cmp}
use Rattle.std.specs.Cmp.{Equal-is}
use Rattle.std.specs.FinMap.{FinMap, get, find, entries, get-entries}
use Rattle.keycode.specs.declared.value.Value.{Value}
use Rattle.keycode.specs.Code.{code}
use Rattle.keycode.specs.Order.{bytes_cmp}
use Rattle.keycode.proofs.Orders.{bytes_cmp_total, bytes_cmp-IsAntisymmetric}
use Rattle.row_map.specs.declared.shape.ColumnType.{ColumnType}
use Rattle.row_map.specs.Rows.{Bytes, Rows}
use Rattle.row_map.specs.Expect.{View}
use Rattle.row_map.proofs.Entries.{each_entry}
use Rattle.row_map.specs.Writes.{written}
use Rattle.byte_map.proofs.Written.{tied, apart, same_or_apart}
use Rattle.schema_version.specs.Version.{Version}
use Rattle.schema_version.specs.Shape.{column_types}
use Rattle.schema_version.proofs.Lists.{here, later, here_or_later}
use Rattle.row_write.specs.declared.op.RowOp.{RowOp}
use Rattle.row_write.specs.Reads.{IsRead}
use Rattle.row_write.specs.Prepare.{IsEncodedRow, Encodes}
use Rattle.row_write.specs.Plain.{table_of, row_of}
use Rattle.row_write.specs.Made.{IsSound}
use Rattle.row_write.specs.inner.IndexedColumns.{IsServed}
use Rattle.row_write.specs.inner.Enter.{KeySet, row_keys, op_keys}
use Rattle.row_write.specs.inner.Places.{AreMarked, AreReads}
use Rattle.row_write.specs.inner.View.{HaveSameKeys, keys_of, IsVisible, IsExistsKey, exists_keys, cells_there}
use Rattle.row_write.proofs.Entered.{InTable, op_keys_are, op_key_has, op_key_from}
use Rattle.row_write.proofs.Encoded.{encoded_once}
use Rattle.row_write.proofs.Decides.{both_true, and_true}

module _ {X : Type 0} (test : Bytes → Bool) where
  found_passes : (es : List (Bytes × X)) (q : Bytes) (x : X) → list_all (λ (e : Bytes × X). test e.0) es ≡ true → find bytes_cmp q es ≡ Some x → test q ≡ true
  found_passes [] q x all f = absurd (let y : None ≡ Some x = f in cc)
  found_passes (e ∷ es) q x all f =
      let b = both_true (test e.0) (list_all (λ (d : Bytes × X). test d.0) es) all in
      elim (eq_by_cmp bytes_cmp q e.0) as (λ t. eq_by_cmp bytes_cmp q e.0 ≡ t → cond t (Some e.1) (find bytes_cmp q es) ≡ Some x → test q ≡ true) [
        | true ↦ λ p _. ap test (bytes_cmp-IsAntisymmetric q e.0 ((Equal-is (bytes_cmp q e.0)).0 p)) ∙ b.0
        | false ↦ λ _ g. found_passes es q x b.1 g
      ] refl f

  all_pass : (es : List (Bytes × X)) → AllByRecursion (λ (e : Bytes × X). test e.0 ≡ true) es → list_all (λ (e : Bytes × X). test e.0) es ≡ true
  all_pass [] h = refl
  all_pass (e ∷ es) h = and_true (test e.0) _ h.0 (all_pass es h.1)

  all_says : (m : FinMap bytes_cmp X) → list_all (λ (e : Bytes × X). test e.0) (entries m) ≡ true → (q : Bytes) (x : X) → get m q ≡ Some x → test q ≡ true
  all_says m all q x at = found_passes (entries m) q x all (sym (get-entries m q) ∙ at)

  all_from : (m : FinMap bytes_cmp X) → ((q : Bytes) (x : X) → get m q ≡ Some x → test q ≡ true) → list_all (λ (e : Bytes × X). test e.0) (entries m) ≡ true
  all_from m h = all_pass (entries m) (each_entry bytes_cmp bytes_cmp_total bytes_cmp-IsAntisymmetric (λ q x. test q ≡ true) m h)

there_is : {X : Type 0} (o : Option X) → is_some o ≡ true → (x : X) × (o ≡ Some x)
there_is None e = absurd cc
there_is (Some x) e = (x, refl)

pub keys_tell : (reads : KeySet) (view : View) (a b : Bool) → a ≡ list_all (λ (e : Bytes × (Unit {0})). is_some (get view e.0)) (entries reads) → b ≡ list_all (λ (e : Bytes × Option Bytes). is_some (get reads e.0)) (entries view)
    → IsTrue (a && b) ↔ HaveSameKeys reads view
keys_tell reads view a b p q = (
  λ e.
      let t = both_true a b e in
      λ key. (
        λ at. there_is (get view key) (all_says (λ k. is_some (get view k)) reads (sym p ∙ t.0) key tt at),
        λ (value, at). (there_is (get reads key) (all_says (λ k. is_some (get reads k)) view (sym q ∙ t.1) key value at)).1,
      ),
  λ same. and_true a b
      (p ∙ all_from (λ k. is_some (get view k)) reads (λ key x at. ap is_some ((same key).0 at).1))
      (q ∙ all_from (λ k. is_some (get reads k)) view (λ key value at. ap is_some ((same key).1 (value, at)))),
)

module _ (v : Version) (ops : List RowOp) (view : View) (reads : KeySet) (read : (key : Bytes) → (get reads key ≡ Some tt) ↔ IsRead v ops key) where
  pub encoded_with : HaveSameKeys reads view → (rows : Rows) → AllByRecursion (IsEncodedRow v view rows) ops → Encodes v ops view rows
  encoded_with same rows all = record {
    keys = λ key. (λ r. (same key).0 ((read key).1 r), λ visible. (read key).0 ((same key).1 visible));
    encoded = all;
  }

  pub same_keys : (rows : Rows) → Encodes v ops view rows → HaveSameKeys reads view
  same_keys rows s key = (λ at. (s.keys key).0 ((read key).0 at), λ visible. (read key).1 ((s.keys key).1 visible))

-- ---- the keys of entries, in their order

module _ {X : Type 0} where
  key_there : (es : List (Bytes × X)) (q : Bytes) → Contains (keys_of es) q → (value : X) × (find bytes_cmp q es ≡ Some value)
  key_there [] q (k, below, is) = absurd (omega (arith, below))
  key_there (e ∷ es) q has = elim (here_or_later e.0 q (keys_of es) has) [
    | inl same ↦ (e.1, ap (λ b. cond b (Some e.1) (find bytes_cmp q es)) (ap (eq_by_cmp bytes_cmp q) same ∙ tied bytes_cmp_total bytes_cmp-IsAntisymmetric q))
    | inr more ↦ (let r = key_there es q more in elim (same_or_apart bytes_cmp_total bytes_cmp-IsAntisymmetric q e.0) [
      | inl same ↦ (e.1, ap (λ b. cond b (Some e.1) (find bytes_cmp q es)) (ap (eq_by_cmp bytes_cmp q) (sym same) ∙ tied bytes_cmp_total bytes_cmp-IsAntisymmetric q))
      | inr other ↦ (r.0, ap (λ b. cond b (Some e.1) (find bytes_cmp q es)) (apart bytes_cmp_total bytes_cmp-IsAntisymmetric q e.0 other) ∙ r.1)
    ])
  ]

  there_key : (es : List (Bytes × X)) (q : Bytes) (value : X) → find bytes_cmp q es ≡ Some value → Contains (keys_of es) q
  there_key [] q value e = absurd (let y : None ≡ Some value = e in cc)
  there_key (d ∷ es) q value e = elim (same_or_apart bytes_cmp_total bytes_cmp-IsAntisymmetric q d.0) [
    | inl same ↦ subst (Contains (keys_of (d ∷ es))) (sym same) (here d.0 (keys_of es))
    | inr other ↦ later d.0 q (keys_of es) (there_key es q value (sym (ap (λ b. cond b (Some d.1) (find bytes_cmp q es)) (apart bytes_cmp_total bytes_cmp-IsAntisymmetric q d.0 other)) ∙ e))
  ]

pub same_lists : (reads : KeySet) (view : View) → keys_of (entries reads) ≡ keys_of (entries view) → HaveSameKeys reads view
same_lists reads view same key = (
  λ at.
      let there = key_there (entries view) key (subst (λ (ks : List Bytes). Contains ks key) same (there_key (entries reads) key tt (sym (get-entries reads key) ∙ at))) in
      (there.0, get-entries view key ∙ there.1),
  λ (value, at). get-entries reads key ∙ (key_there (entries reads) key (subst (λ (ks : List Bytes). Contains ks key) (sym same) (there_key (entries view) key value (sym (get-entries view key) ∙ at)))).1,
)

-- ---- the keys of one row

module _ (v : Version) (served : IsServed v) (op : RowOp) (sound : IsSound v op) (view : View) (same : keys_of (entries view) ≡ row_keys op (column_types v (table_of op))) where
  -- a view with the keys of one operation's row has just the keys that it reads
  keys_are : keys_of (entries view) ≡ op_keys v op
  keys_are = same ∙ sym (op_keys_are v served op sound.table sound.known)

  only : (o : RowOp) → Contains (op ∷ []) o → op ≡ o
  only o there = elim (here_or_later op o [] there) [
    | inl is ↦ is
    | inr (k, below, is) ↦ absurd (omega (arith, below))
  ]

  pub reads_one : (key : Bytes) → IsRead v (op ∷ []) key ↔ ((value : Option Bytes) × (get view key ≡ Some value))
  reads_one key = (
    λ (o, there, table, row).
        let has = op_key_has v served op key (subst (λ (x : RowOp). InTable v served x key) (sym (only o there)) (table, row)) in
        let found = key_there (entries view) key (subst (λ (ks : List Bytes). Contains ks key) (sym keys_are) has) in
        (found.0, get-entries view key ∙ found.1),
    λ (value, at).
        let from = op_key_from v served op key (subst (λ (ks : List Bytes). Contains ks key) keys_are (there_key (entries view) key value (sym (get-entries view key) ∙ at))) in
        (op, here op [], from.0, from.1),
  )

  pub encoded_one : (rows before : Rows) (there : Bool) (cells : List (ℕ × Value)) → IsVisible view op (column_types v (table_of op)) there cells → rows ≡ written before (row_of op) (cells_there there cells) → Encodes v (op ∷ []) view rows
  encoded_one rows before there cells visible made = record {
    keys = reads_one;
    encoded = (encoded_once v served view op before rows there cells visible made, tt);
  }

-- one more operation's key
pub one_more_key : (keys : List Bytes) (ops : List RowOp) (i : ℕ) (op : RowOp) (key : Bytes) (then : List Bytes) → i < length ops → op ≡ get_or ops i op → IsExistsKey op key → then ≡ keys ++ key ∷ []
    → keys ++ exists_keys (drop i ops) ≡ exists_keys ops → then ++ exists_keys (drop (i + 1) ops) ≡ exists_keys ops
one_more_key keys ops i op key then lt is made pushed so_far =
    let rest = exists_keys (drop (i + 1) ops) in
    ap (λ (l : List Bytes). l ++ rest) pushed
    ∙ append_assoc keys (key ∷ []) rest
    ∙ ap (λ (k : Bytes). keys ++ k ∷ rest) made
    ∙ ap (λ (o : RowOp). keys ++ exists_keys (o ∷ drop (i + 1) ops)) is
    ∙ ap (λ (l : List Bytes). keys ++ l) (sym (at_drop_more exists_keys ops i op lt))
    ∙ so_far

-- ---- the keys of several rows

has_each : {X : Type 0} (P : X → Type 0) (xs : List X) (x : X) → AllByRecursion P xs → Contains xs x → P x
has_each P [] x all (k, below, is) = absurd (omega (arith, below))
has_each P (y ∷ xs) x all there = elim (here_or_later y x xs there) [
  | inl same ↦ subst P same all.0
  | inr more ↦ has_each P xs x all.1 more
]

-- rows that a view encodes have their keys in it
pub encoded_reads : (v : Version) (ops : List RowOp) (view : View) (rows : Rows) → AllByRecursion (IsEncodedRow v view rows) ops → (key : Bytes) → IsRead v ops key → (value : Option Bytes) × (get view key ≡ Some value)
encoded_reads v ops view rows all key (op, there, table, row) =
    let s = has_each (IsEncodedRow v view rows) ops op all there in
    elim row [
      | inl exists ↦ elim (get rows (row_of op)) as (λ o. get rows (row_of op) ≡ o → (value : Option Bytes) × (get view key ≡ Some value)) [
        | None ↦ λ e. (None, ap (get view) exists ∙ s.absent e)
        | Some cells ↦ λ e. (Some [], ap (get view) exists ∙ s.present cells e)
      ] refl
      | inr (number, type, column, is) ↦ elim (get rows (row_of op)) as (λ o. get rows (row_of op) ≡ o → (value : Option Bytes) × (get view key ≡ Some value)) [
        | None ↦ λ e. (None, ap (get view) is ∙ s.no_columns number type column e)
        | Some cells ↦ λ e. (let c = s.columns number type cells column e in (option_map code c.own, ap (get view) is ∙ c.held))
      ] refl
    ]

marked_at : (marks : List Bool) (i : ℕ) → list_all (λ (m : Bool). m) marks ≡ true → i < length marks → get_or marks i false ≡ true
marked_at [] i all below = absurd (omega (arith, below))
marked_at (m ∷ marks) zero all below = (both_true m (list_all (λ (m : Bool). m) marks) all).0
marked_at (m ∷ marks) (suc i) all below = marked_at marks i (both_true m (list_all (λ (m : Bool). m) marks) all).1 (omega (arith, below))

place_of : (keys : List Bytes) (key : Bytes) → Contains keys key → (i : ℕ) × (i < length keys) × (get_or keys i [] ≡ key)
place_of [] key (k, below, is) = absurd (omega (arith, below))
place_of (k ∷ keys) key there = elim (here_or_later k key keys there) [
  | inl same ↦ (0, omega arith, same)
  | inr more ↦ (let r = place_of keys key more in (suc r.0, omega (arith, r.1), r.2))
]

-- a view of which each entry is marked has only keys that are read
pub marked_reads : (v : Version) (ops : List RowOp) (view : View) (marks : List Bool) → length marks ≡ length (entries view) → AreReads v ops view marks → list_all (λ (m : Bool). m) marks ≡ true
    → (key : Bytes) (value : Option Bytes) → get view key ≡ Some value → IsRead v ops key
marked_reads v ops view marks long reads all key value at =
    let r = place_of (keys_of (entries view)) key (there_key (entries view) key value (sym (get-entries view key) ∙ at)) in
    subst (IsRead v ops) r.2 (reads r.0 (marked_at marks r.0 all (omega (arith, r.1, long, length-map (entries view) (λ (e : Bytes × Option Bytes). e.0)))))

-- marks at the keys of one more operation's row are at keys that are read
pub more_reads : (v : Version) (served : IsServed v) (ops : List RowOp) (view : View) (before then : List Bool) (i : ℕ) (op : RowOp) (columns : List (ℕ × ColumnType)) → AllByRecursion (IsSound v) ops → i < length ops → op ≡ get_or ops i op
    → columns ≡ column_types v (table_of op) → AreMarked (keys_of (entries view)) (row_keys op columns) before then → AreReads v ops view before → AreReads v ops view then
more_reads v served ops view before then i op columns sound lt is types marks reads k marked = elim (marks k marked) [
  | inl old ↦ reads k old
  | inr own ↦
      let there : Contains ops op = subst (Contains ops) (sym is) (Contains-get_or ops i op lt) in
      let s = has_each (IsSound v) ops op sound there in
      let keys : row_keys op columns ≡ op_keys v op = ap (row_keys op) types ∙ sym (op_keys_are v served op s.table s.known) in
      let from = op_key_from v served op (get_or (keys_of (entries view)) k []) (subst (λ (ks : List Bytes). Contains ks (get_or (keys_of (entries view)) k [])) keys own) in
      (op, there, from.0, from.1)
]
