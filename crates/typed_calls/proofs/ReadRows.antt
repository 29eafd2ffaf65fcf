-- What is answered of a row that was read is the plain answer of each store that holds what was read.
use Rattle.std.proofs.Common.{◌≡◌, ◌≢◌, ◌↔◌, ◌⊎◌, ◌&&◌, ◌||◌, ◌==◌, ℕ, Bool, true, false, cond, List, [], ◌∷◌, Option, Some, None, Ok, Err, is_some, option_map, unwrap_or, inl, inr, refl, sym, ap, subst, ◌∙◌, IsTrue, Contains, eq-eqb, filter, arith}
use Rattle.std.specs.List.{list_all, cons_option, AllByRecursion}
use Rattle.std.specs.Ordering.{is_eq, eq_by_cmp}
use Rattle.std.specs.Cmp.{Equal-is, tied_itself}
use Rattle.std.specs.FinMap as map
use Rattle.std.specs.FinMap.{find}
use mathlib.Core.List.{map as each}
use Rattle.keycode.specs.declared.value.Value.{Value}
use Rattle.keycode.specs.Order.{bytes_cmp}
use Rattle.keycode.specs.Valid.{AreValues, IsStorable}
use Rattle.keycode.proofs.Orders.{bytes_cmp_total, bytes_cmp-IsAntisymmetric, values_cmp_total}
use Rattle.byte_map.proofs.Written.{same_or_apart}
use Rattle.entry_code.specs.Known.{IsCond, IsQuery}
use Rattle.row_map.specs.declared.shape.Row.{Row}
use Rattle.row_map.specs.Cell.{value_from, cell_in}
use Rattle.row_map.specs.Expect.{View, Holds}
use Rattle.row_map.specs.Keys.{row_code}
use Rattle.row_map.specs.Rows.{Bytes, Pairs, Rows}
use Rattle.row_map.proofs.Entries.{each_entry}
use Rattle.schema_version.specs.declared.element.ElementDef.{ElementDef}
use Rattle.schema_version.specs.Sound.{IsSoundVersion}
use Rattle.schema_version.specs.Version.{Version, live, is_public_column}
use Rattle.schema_version.proofs.Lists.{here, here_or_later}
use Rattle.element_state.specs.Consistent.{IsConsistent}
use Rattle.element_state.specs.Visible.{visible_rows}
use Rattle.row_query.specs.Answer.{meets, is_named, plain_answer}
use Rattle.row_query.specs.Refused.{IsSound}
use Rattle.row_query.specs.declared.query.Cond.{Cond}
use Rattle.row_query.specs.declared.query.Cond.TheVariants.{Key, Equal, Between}
use Rattle.row_query.specs.declared.query.Query.{Query}
use Rattle.row_query.specs.inner.Bounds.{first_key}
use Rattle.row_query.specs.inner.Checks.{public_numbers, query_check, AreKnown}
use Rattle.row_query.specs.inner.Found.{cells_in, value_in, row_of, row_in, one_row}
use Rattle.row_query.proofs.Columns.{both_true, and_true, named_column}
use Rattle.row_query.proofs.Decides.{check_refuses}
use Rattle.row_query.proofs.Premise.{reads_from}
use Rattle.row_query.proofs.Tested.{query_open, key_is}
use Rattle.row_query.proofs.Unique.{sound_clear}
use Rattle.row_write.specs.Made.{expects}
use Rattle.row_write.specs.Plain.{table_of, key_of}
use Rattle.row_write.specs.Reads.{IsRead, IsRowKey}
use Rattle.row_write.specs.declared.op.RowOp.{RowOp}
use Rattle.row_write.specs.declared.op.RowOp.TheVariants.{Delete}
use Rattle.typed_calls.specs.ReadQueries.{only_key, IsRowRead, IsReadAnswer}
use Rattle.typed_calls.specs.inner.ReadRows.{cell_read, cells_read, was_there, rows_read}

-- ---- what was read is what the store has

some_one : {A : Type 0} (v w : A) → Some v ≡ Some w → v ≡ w
some_one v w e = cc

none_some : {A B : Type 0} (v : A) → None ≡ Some v → B
none_some v e = absurd cc

same_value : (o u : Option Bytes) → (o ≡ u) ⊎ (o ≢ u)
same_value None None = inl refl
same_value None (Some w) = inr (λ e. none_some w e)
same_value (Some v) None = inr (λ e. none_some v (sym e))
same_value (Some v) (Some w) = elim (same_or_apart bytes_cmp_total bytes_cmp-IsAntisymmetric v w) [ inl e ↦ inl (ap Some e) | inr ne ↦ inr (λ e. ne (some_one v w e)) ]

-- what was read at a key, of a store that holds it
held : (view : View) (pairs : Pairs) → Holds (expects view) pairs → (key : Bytes) (value : Option Bytes) → map.get view key ≡ Some value → unwrap_or (map.get view key) None ≡ map.get pairs key
held view pairs holds key value at = elim (same_value (map.get pairs key) value) [
  | inl e ↦ ap (λ o. unwrap_or o None) at ∙ sym e
  | inr ne ↦ absurd (holds key (inl (value, at, ne)))
]

-- ---- the cells of the named columns

abbrev public : ℕ → List ElementDef → List ℕ
public table elements = public_numbers elements table

abbrev named : Query → List (ℕ × Value) → List (ℕ × Value)
named query cells = filter (λ cell. is_named query.columns cell.0) cells

kept_cell : (query : Query) (number : ℕ) (cell : Option Value) (rest : List (ℕ × Value)) → cons_option (cond (is_named query.columns number) (option_map (λ v. (number, v)) cell) None) (named query rest) ≡ named query (cons_option (option_map (λ v. (number, v)) cell) rest)
kept_cell query number None rest = elim (is_named query.columns number) as (λ b. cons_option (cond b None None) (named query rest) ≡ named query rest) [ true ↦ refl | false ↦ refl ]
kept_cell query number (Some value) rest = elim (is_named query.columns number) as (λ b. cons_option (cond b (Some (number, value)) None) (named query rest) ≡ cond b ((number, value) ∷ named query rest) (named query rest)) [ true ↦ refl | false ↦ refl ]

either : (a b : Bool) → b ≡ true → (a || b) ≡ true
either true b e = refl
either false b e = e

same_number : (n : ℕ) → (n == n) ≡ true
same_number n = eq-eqb n n refl

cells_are : (view : View) (pairs : Pairs) (query : Query) (key : List Value) (elements : List ElementDef)
    → ((number : ℕ) → is_named (public query.table elements) number ≡ true → cell_read view query.table key number ≡ cell_in pairs query.table key number)
    → cells_read view query key elements ≡ named query (cells_in pairs query.table key (public query.table elements))
cells_are view pairs query key [] same = refl
cells_are view pairs query key (e ∷ es) same =
    elim (is_public_column query.table e) as (λ b.
    ((number : ℕ) → is_named (each (λ (x : ElementDef). x.number) (cond b (e ∷ filter (is_public_column query.table) es) (filter (is_public_column query.table) es))) number ≡ true → cell_read view query.table key number ≡ cell_in pairs query.table key number)
    → cons_option (cond (b && is_named query.columns e.number) (option_map (λ v. (e.number, v)) (cell_read view query.table key e.number)) None) (cells_read view query key es)
    ≡ named query (cells_in pairs query.table key (each (λ (x : ElementDef). x.number) (cond b (e ∷ filter (is_public_column query.table) es) (filter (is_public_column query.table) es))))) [
      | true ↦ λ same.
          ap (λ (o : Option Value). cons_option (cond (is_named query.columns e.number) (option_map (λ v. (e.number, v)) o) None) (cells_read view query key es)) (same e.number (ap (λ b. b || is_named (public query.table es) e.number) (same_number e.number)))
          ∙ ap (cons_option (cond (is_named query.columns e.number) (option_map (λ v. (e.number, v)) (cell_in pairs query.table key e.number)) None)) (cells_are view pairs query key es (λ number is. same number (either (number == e.number) _ is)))
          ∙ kept_cell query e.number (cell_in pairs query.table key e.number) (cells_in pairs query.table key (public query.table es))
      | false ↦ λ same. cells_are view pairs query key es same
    ] same

-- ---- the row

only_is : (conditions : List Cond) (key : List Value) → only_key conditions ≡ Some key → conditions ≡ Key key ∷ []
only_is [] key is = none_some key is
only_is (Key wanted ∷ []) key is = ap (λ k. Key k ∷ []) (some_one wanted key is)
only_is (Equal column value ∷ []) key is = none_some key is
only_is (Between column low high ∷ []) key is = none_some key is
only_is (first ∷ second ∷ rest) key is = none_some key is

-- the row of the only key meets all conditions
row_met : (query : Query) (key : List Value) (cells : List (ℕ × Value)) → query.conditions ≡ Key key ∷ [] → row_of query key cells ≡ Some (record { key = key; cells = named query cells })
row_met query key cells is =
    ap (λ (conditions : List Cond). cond (list_all (meets key (value_in cells)) conditions) (Some (record { key = key; cells = named query cells })) None) is
    ∙ ap (λ o. cond (is_eq o && true) (Some (record { key = key; cells = named query cells })) None) (tied_itself values_cmp_total key)

abbrev one : List Value → List (ℕ × Value) → Row
one key cells = record { key = key; cells = cells }

module _ (version : Version) (view : View) (pairs : Pairs) (query : Query) (key : List Value) (is : query.conditions ≡ Key key ∷ []) where
  abbrev columns : List ℕ
  columns = public_numbers (live version) query.table

  row_is : was_there view query.table key ≡ is_some (map.get pairs (row_code query.table key 0))
      → cells_read view query key (live version) ≡ named query (cells_in pairs query.table key columns)
      → rows_read view query key (live version) ≡ one_row (row_in pairs columns query key)
  unfolding row_in
  row_is there cells =
      ap (λ b. cond b (one key (cells_read view query key (live version)) ∷ []) []) there
      ∙ elim (is_some (map.get pairs (row_code query.table key 0))) as (λ b. cond b (one key (cells_read view query key (live version)) ∷ []) [] ≡ one_row (cond b (row_of query key (cells_in pairs query.table key columns)) None)) [
        | true ↦ ap (λ cells. one key cells ∷ []) cells ∙ sym (ap one_row (row_met query key (cells_in pairs query.table key columns) is))
        | false ↦ refl
      ]

module _ (version : Version) (known : IsSoundVersion version) (view : View) (query : Query) (key : List Value) (only : only_key query.conditions ≡ Some key) (sound : IsSound version query) where
  passes : query_check version query ≡ Ok tt
  passes =
      elim (query_check version query) as (λ r. r ≡ query_check version query → r ≡ Ok tt) [
        | Ok u ↦ λ _. refl
        | Err fault ↦ λ e. absurd (sound_clear version query sound fault (check_refuses version known query (Err fault) e))
      ] refl

  -- over each store that holds what was read, it is the plain answer
  row_answered : IsRowRead version view query.table key → AreValues key → (pairs : Pairs) → Holds (expects view) pairs → (rows : Rows) → IsConsistent version rows pairs
      → rows_read view query key (live version) ≡ plain_answer (visible_rows version rows) query
  row_answered read values pairs holds rows agree =
      row_is version view pairs query key is (ap is_some (held view pairs holds (row_code query.table key 0) _ there.1)) (cells_are view pairs query key (live version) cell)
      ∙ key_is version (visible_rows version rows) pairs (reads_from version known rows pairs agree) query key passes (query_open version known query passes)
      (subst AreKnown (sym is) (values, tt)) (ap first_key is)
    where
      is : query.conditions ≡ Key key ∷ []
      is = only_is query.conditions key only

      there : (value : Option Bytes) × (map.get view (row_code query.table key 0) ≡ Some value)
      there = read (row_code query.table key 0) (inl refl)

      cell : (number : ℕ) → is_named (public query.table (live version)) number ≡ true → cell_read view query.table key number ≡ cell_in pairs query.table key number
      cell number is =
          let column = named_column version known query.table number is in
          let at = read (row_code query.table key number) (inr (number, column.0, record { element = column.1.element; known = column.1.known; home = column.1.home; column = column.1.column; public = column.1.public }, refl)) in
          ap value_from (held view pairs holds (row_code query.table key number) at.0 at.1)

  pub read_answer : IsRowRead version view query.table key → AreValues key → (rows : List Row) → rows ≡ rows_read view query key (live version) → IsReadAnswer version view query key rows
  read_answer read values rows is = record {
    sound = sound;
    read = read;
    answered = λ taken same holds. (
      subst (λ v. IsSound v query) (sym same) sound,
      λ plain agree.
          is
          ∙ row_answered read values taken.pairs holds plain (subst (λ v. IsConsistent v plain taken.pairs) same agree)
          ∙ ap (λ v. plain_answer (visible_rows v plain) query) (sym same),
    );
  }

-- the values of the key that is the only condition
pub key_values : (query : Query) (key : List Value) → IsQuery IsStorable query → only_key query.conditions ≡ Some key → AreValues key
key_values query key coded only =
    let all = subst (AllByRecursion (IsCond IsStorable)) (only_is query.conditions key only) coded.1.1.1 in
    values key all.0.1
  where
    values : (vs : List Value) → AllByRecursion IsStorable vs → AreValues vs
    values [] all = tt
    values (v ∷ vs) all = (all.0.0, values vs all.1)

-- ---- whether the row was read

there_is : {X : Type 0} (o : Option X) → is_some o ≡ true → (x : X) × (o ≡ Some x)
there_is None e = absurd cc
there_is (Some x) e = (x, refl)

module _ {X : Type 0} (test : Bytes → Bool) where
  found_passes : (es : List (Bytes × X)) (q : Bytes) (x : X) → list_all (λ (e : Bytes × X). test e.0) es ≡ true → find bytes_cmp q es ≡ Some x → test q ≡ true
  found_passes [] q x all f = none_some x f
  found_passes (e ∷ es) q x all f =
      let b = both_true (test e.0) (list_all (λ (d : Bytes × X). test d.0) es) all in
      elim (eq_by_cmp bytes_cmp q e.0) as (λ t. eq_by_cmp bytes_cmp q e.0 ≡ t → cond t (Some e.1) (find bytes_cmp q es) ≡ Some x → test q ≡ true) [
        | true ↦ λ p _. ap test (bytes_cmp-IsAntisymmetric q e.0 ((Equal-is (bytes_cmp q e.0)).0 p)) ∙ b.0
        | false ↦ λ _ g. found_passes es q x b.1 g
      ] refl f

  all_pass : (es : List (Bytes × X)) → AllByRecursion (λ (e : Bytes × X). test e.0 ≡ true) es → list_all (λ (e : Bytes × X). test e.0) es ≡ true
  all_pass [] h = refl
  all_pass (e ∷ es) h = and_true (test e.0) _ h.0 (all_pass es h.1)

pub row_told : (version : Version) (view : View) (query : Query) (primary : List Value) (keys : map.FinMap bytes_cmp (Unit {0})) (all : Bool) → IsSound version query
    → ((key : Bytes) → (map.get keys key ≡ Some tt) ↔ IsRead version (Delete query.table primary ∷ []) key)
    → all ≡ list_all (λ (e : Bytes × (Unit {0})). is_some (map.get view e.0)) (map.entries keys)
    → IsTrue all ↔ IsRowRead version view query.table primary
row_told version view query primary keys all sound reads is = (
  λ passed key row.
      let at : map.get keys key ≡ Some tt = (reads key).1 (Delete query.table primary, here (Delete query.table primary) [], (sound.table, sound.known), row) in
      there_is (map.get view key) (found_passes (λ k. is_some (map.get view k)) (map.entries keys) key tt (sym is ∙ passed) (sym (map.get-entries keys key) ∙ at)),
  λ read.
      is ∙ all_pass (λ k. is_some (map.get view k)) (map.entries keys) (each_entry bytes_cmp bytes_cmp_total bytes_cmp-IsAntisymmetric (λ key _. is_some (map.get view key) ≡ true) keys (λ key _ at.
      let r = (reads key).0 at in
      ap is_some (read key (subst (λ (o : RowOp). IsRowKey version (table_of o) (key_of o) key) (sym (only_op (Delete query.table primary) r.0 r.1)) r.3)).1)),
)
  where
    only_op : (op o : RowOp) → Contains (op ∷ []) o → op ≡ o
    only_op op o there = elim (here_or_later op o [] there) [
      | inl same ↦ same
      | inr (k, below, e) ↦ absurd (omega (arith, below))
    ]
