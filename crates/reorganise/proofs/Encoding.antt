-- What the pairs of columns encode are the rows' values, or what stands for them.
use Rattle.std.proofs.Common.{◌≡◌, ℕ, ◌+◌, ◌<◌, ◌^◌, Bool, true, false, ◌||◌, cond, eqb, eq-eqb, List, [], ◌∷◌, Option, Some, None, unwrap_or, option_map, refl, sym, ap, subst, ◌∙◌, arith, lit<}
use Rattle.std.specs.Prelude.{filter_map, if◌then◌else◌}
use Rattle.std.specs.List.{AllByRecursion, list_any}
use mathlib.Core.List.{map as each}
use Rattle.std.specs.FinMap as map
use Rattle.std.specs.FinMap.{nat_cmp-IsAntisymmetric}
use Rattle.std.specs.FinMap.Entries.{find}
use Rattle.std.specs.Cmp.{nat_cmp_total, tied_itself}
use Rattle.std.specs.declared.cmp.Ordering.{Ordering}
use Rattle.std.specs.declared.cmp.Ordering.TheVariants.{Less, Equal, Greater}
use Rattle.std.specs.Ordering.{nat_cmp, eq_by_cmp, is_eq, ordering_then}
use Rattle.keycode.specs.declared.value.Value.{Value}
use Rattle.keycode.specs.declared.value.Value.TheVariants.{Null, Int, Text, Bool as Flag}
use Rattle.keycode.specs.Code.{code}
use Rattle.keycode.specs.Order.{bytes_cmp}
use Rattle.keycode.specs.Valid.{IsStorable}
use Rattle.std.specs.List.{cons_option}
use Rattle.std.proofs.lemmas.Bool.Decides.{nat_tests}
use Rattle.keycode.specs.Order.{values_cmp}
use Rattle.keycode.proofs.Orders.{values_cmp_total}
use Rattle.row_map.specs.declared.key.KeyOf.{KeyOf}
use Rattle.row_map.specs.declared.key.KeyOf.TheVariants.{Exists, Column, Index as IndexKey}
use Rattle.row_map.specs.Keys.{row_code}
use Rattle.row_map.specs.Cell.{only_value, of_type}
use Rattle.row_map.specs.Shape.{is_null, has_type}
use Rattle.row_map.specs.declared.shape.ColumnType.{ColumnType}
use Rattle.row_map.specs.Rows.{Bytes, RowKey, Cells, Rows, Pairs, AreStorable}
use Rattle.row_map.specs.Ranges.{is_within, IsRowBound}
use Rattle.row_map.proofs.Cells.{only_again}
use Rattle.row_map.proofs.Ranges.{row_then_pair}
use Rattle.row_map.proofs.KeyLaws.{same_key}
use Rattle.row_map.proofs.KeyOrder.{row_keys}
use Rattle.schema_version.specs.declared.element.ElementState.{ElementState}
use Rattle.schema_version.specs.declared.element.Kind.{Kind}
use Rattle.schema_version.specs.declared.element.Kind.TheVariants.{Index, Optional, Required}
use Rattle.schema_version.specs.Version.{Version, default_value_of, type_of_kind}
use Rattle.element_state.specs.Elements.{Meaning, Subset, Exact, Demand, IsFromScratch, owner, owner_named}
use Rattle.element_state.specs.Tables.{within}
use Rattle.element_state.specs.Consistent.{DemandOf}
use Rattle.element_state.specs.Kinds.{kind_meaning}
use Rattle.element_state.specs.Sources.{source_in, default_value_at, default_or_null}
use Rattle.element_state.specs.Required.{required_meaning, required_value}
use Rattle.element_state.specs.Exists.{row_key}
use Rattle.element_state.specs.Operations.{cells_of}
use Rattle.element_state.specs.Column.{coded, column_pair, column_meaning, IsLawfulColumn}
use Rattle.element_state.specs.lemmas.ColumnLaws.{column_is_key, column_owned_key}
use Rattle.element_state.specs.Index.{value_in, indexed}
use Rattle.reorganise.specs.Pieces.{part}
use Rattle.reorganise.specs.Batches.{but_null, encoded, cell_in, cells_in, typed, typed_in, one_cell}
use Rattle.reorganise.specs.Laws.{HasColumn}
use Rattle.reorganise.proofs.Order.{get-part, some_in, within_parts, parts_within, le_trans, less_le}

-- ---- values

not_null : (v : Value) → unwrap_or (if is_null v then None else Some v) Null ≡ v
not_null Null = refl
not_null (Int n) = refl
not_null (Text t) = refl
not_null (Flag b) = refl

encoded_code : (v : Value) → IsStorable v → unwrap_or (encoded (Some (code v))) Null ≡ v
encoded_code v s =
    ap (λ o. unwrap_or (but_null o) Null) (only_again v s) ∙ not_null v

encoded_cell : (o : Option Value) → ((v : Value) → o ≡ Some v → IsStorable v) → unwrap_or (encoded (coded o)) Null ≡ unwrap_or o Null
encoded_cell None h = refl
encoded_cell (Some v) h = encoded_code v (h v refl)

-- ---- cells by columns

abbrev pub is_one_of : ℕ → List ℕ → Bool
is_one_of c columns = list_any (λ d. eq_by_cmp nat_cmp c d) columns

equal_of : (r : Ordering) → is_eq r ≡ true → r ≡ Equal
equal_of Less e = cc
equal_of Equal e = refl
equal_of Greater e = cc

tied_is : (c d : ℕ) → eq_by_cmp nat_cmp c d ≡ true → c ≡ d
tied_is c d e = nat_cmp-IsAntisymmetric c d (equal_of (nat_cmp c d) e)

some_none : {A B : Type 0} (v : A) → Some v ≡ None → B
some_none v e = absurd cc

same_some : {A : Type 0} (v w : A) → Some v ≡ Some w → v ≡ w
same_some v w e = cc

or_true : (a b : Bool) → b ≡ true → (a || b) ≡ true
or_true true b e = refl
or_true false b e = e

weaker : {A : Type 0} (F G : A → Type 0) → ((x : A) → F x → G x) → (xs : List A) → AllByRecursion F xs → AllByRecursion G xs
weaker F G h [] all = tt
weaker F G h (x ∷ xs) all = (h x all.0, weaker F G h xs all.1)

-- each is one of them
all_of : (columns : List ℕ) → AllByRecursion (λ c. is_one_of c columns ≡ true) columns
all_of [] = tt
all_of (c ∷ cs) = (
  ap (λ b. b || is_one_of c cs) (ap is_eq (tied_itself nat_cmp_total c)),
  weaker (λ d. is_one_of d cs ≡ true) (λ d. is_one_of d (c ∷ cs) ≡ true) (λ d e. or_true (eq_by_cmp nat_cmp d c) (is_one_of d cs) e) cs (all_of cs),
)

above_zero : (c : ℕ) → 0 < c → nat_cmp 0 c ≡ Less
above_zero c h = grind (arith, nat_tests)

-- the table of a row's key
abbrev key_table : KeyOf → ℕ
key_table (Exists table key) = table
key_table (Column table key element) = table
key_table (IndexKey element values) = 0

-- the primary key of a row's key
abbrev key_values : KeyOf → List Value
key_values (Exists table key) = key
key_values (Column table key element) = key
key_values (IndexKey element values) = values

module _ (f : ℕ → Option Value) (c : ℕ) where
  -- the cells of these columns
  abbrev cells_by : List ℕ → List (ℕ × Value)
  cells_by columns = filter_map (λ d. option_map (λ v. (d, v)) (f d)) columns

  abbrev with_cell : ℕ → Option Value → List (ℕ × Value) → List (ℕ × Value)
  with_cell d o rest = cons_option (option_map (λ v. (d, v)) o) rest

  -- the first cell of the column, where the cell of one column is tested
  found_in : (d : ℕ) (o : Option Value) (t : Bool) (rest : List (ℕ × Value)) → eq_by_cmp nat_cmp c d ≡ t → f d ≡ o → find nat_cmp c rest ≡ cond t (find nat_cmp c rest) (f c) → (f c ≡ None → find nat_cmp c rest ≡ None) → find nat_cmp c (with_cell d o rest) ≡ f c
  found_in d None true rest same is later none = none (ap f (tied_is c d same) ∙ is) ∙ sym (ap f (tied_is c d same) ∙ is)
  found_in d None false rest same is later none = later
  found_in d (Some v) true rest same is later none = ap (λ b. cond b (Some v) (find nat_cmp c rest)) same ∙ sym (ap f (tied_is c d same) ∙ is)
  found_in d (Some v) false rest same is later none = ap (λ b. cond b (Some v) (find nat_cmp c rest)) same ∙ later

  none_in : (d : ℕ) (o : Option Value) (t : Bool) (rest : List (ℕ × Value)) → eq_by_cmp nat_cmp c d ≡ t → f d ≡ o → f c ≡ None → find nat_cmp c rest ≡ None → find nat_cmp c (with_cell d o rest) ≡ None
  none_in d None t rest same is none later = later
  none_in d (Some v) true rest same is none later = some_none v (sym is ∙ ap f (sym (tied_is c d same)) ∙ none)
  none_in d (Some v) false rest same is none later = ap (λ b. cond b (Some v) (find nat_cmp c rest)) same ∙ later

  no_cell : (columns : List ℕ) → f c ≡ None → find nat_cmp c (cells_by columns) ≡ None
  no_cell [] none = refl
  no_cell (d ∷ ds) none = none_in d (f d) (eq_by_cmp nat_cmp c d) (cells_by ds) refl refl none (no_cell ds none)

  pub find_cell : (columns : List ℕ) → is_one_of c columns ≡ true → find nat_cmp c (cells_by columns) ≡ f c
  find_cell [] e = cc
  find_cell (d ∷ ds) e =
      found_in d (f d) (eq_by_cmp nat_cmp c d) (cells_by ds) refl refl
      (elim (eq_by_cmp nat_cmp c d) as (λ t. (t || is_one_of c ds) ≡ true → find nat_cmp c (cells_by ds) ≡ cond t (find nat_cmp c (cells_by ds)) (f c)) [
        | true ↦ λ _. refl
        | false ↦ λ h. find_cell ds h
      ] e)
      (no_cell ds)

-- ---- a row's cells

none_where : (o : Option Bytes) → ((v : Bytes) → o ≡ Some v → ⊥) → o ≡ None
none_where None h = refl
none_where (Some v) h = absurd (h v refl)

module _ (P : Pairs) (R : Rows) (table : ℕ) (held : AreStorable R) (key : List Value) (cells : Cells) (there : map.get R (table, key) ≡ Some cells) where
  -- of a kind that has one pair for a row, under the column's key of the row
  module _ (c : ℕ) (lawful : IsLawfulColumn c) (m : Meaning) (named : m.number ≡ c) (keyed : (k : RowKey) (r : Cells) → m.pair_key k r ≡ column_pair c k) where
    -- a pair under the row's key is the row's
    pub pair_of_row : Subset (within table m) P R → (v : Bytes) → map.get P (row_code table key c) ≡ Some v → m.pair_value (table, key) cells ≡ Some v
    pair_of_row subset v at =
        let row = held (table, key) cells there in
        let own : owner (row_code table key c) ≡ Some m.number = owner_named c (row_code table key c) (column_owned_key c lawful (table, key) cells row) ∙ ap Some (sym named) in
        let s : IsFromScratch (within table m) R (row_code table key c) v = subset (row_code table key c) v own at in
        let w = some_in (eqb s.key.0 table) (m.pair_value s.key s.cells) v s.value_is in
        let same : Column s.key.0 s.key.1 c ≡ Column table key c = same_key (Column s.key.0 s.key.1 c) (Column table key c) (column_is_key c lawful s.key s.cells (held s.key s.cells s.there)) (column_is_key c lawful (table, key) cells row) (sym (keyed s.key s.cells) ∙ s.key_is) in
        let keys : s.key ≡ (table, key) = λ i. (key_table (same i), key_values (same i)) in
        let cells_are : s.cells ≡ cells = same_some s.cells cells (sym s.there ∙ ap (map.get R) keys ∙ there) in
        (λ i. m.pair_value (sym keys i) (sym cells_are i)) ∙ w.1

    -- an exact column's pair of the row
    pub pair_exact : Exact (within table m) P R → map.get P (row_code table key c) ≡ m.pair_value (table, key) cells
    pair_exact exact = by_value (m.pair_value (table, key) cells) refl
      where
        by_value : (o : Option Bytes) → m.pair_value (table, key) cells ≡ o → map.get P (row_code table key c) ≡ o
        by_value None is = none_where (map.get P (row_code table key c)) (λ v at. some_none v (sym (pair_of_row exact.subset v at) ∙ is))
        by_value (Some v) is =
            ap (map.get P) (sym (keyed (table, key) cells))
            ∙ exact.covered (table, key) cells v there (ap (λ b. cond b (m.pair_value (table, key) cells) None) (eq-eqb table table refl) ∙ is)

  -- what a public column's pair encodes is the row's value, or what stands for it
  module _ (version : Version) where
    exact_in : (c : ℕ) (column : HasColumn version table P R c) → Exact (within table (kind_meaning c (source_in version column.public.0.kind))) P R
    exact_in c column =
        let element = column.public.0 in
        let demand : DemandOf version c (Some element) P R = subst (λ o. DemandOf version c o P R) column.public.2 column.demand in
        subst (λ (t : ℕ). Exact (within t (kind_meaning c (source_in version element.kind))) P R) column.public.3
        (subst (λ (q : ElementState). Demand (within element.table (kind_meaning c (source_in version element.kind))) q P R) column.public.5 demand)

    missing_value_of : (c : ℕ) (column : HasColumn version table P R c) → default_value_at version c ≡ default_value_of column.public.0.kind
    missing_value_of c column = ap default_or_null column.public.2

    pub value_encoded : (c : ℕ) → HasColumn version table P R c → unwrap_or (encoded (map.get P (row_code table key c))) Null ≡ value_in cells (c, default_value_at version c)
    value_encoded c column = by column.public.0.kind (exact_in c column) (missing_value_of c column) column.public.4
      where
        own : (v : Value) → map.get cells c ≡ Some v → IsStorable v
        own v is = (held (table, key) cells there).values c v is

        either_storable : (o : Option Value) (default_value : Value) → ((v : Value) → o ≡ Some v → IsStorable v) → IsStorable default_value → IsStorable (unwrap_or o default_value)
        either_storable None default_value h s = s
        either_storable (Some v) default_value h s = h v refl

        by : (k : Kind) → Exact (within table (kind_meaning c (source_in version k))) P R → default_value_at version c ≡ default_value_of k → type_of_kind k ≡ Some column.public.1
            → unwrap_or (encoded (map.get P (row_code table key c))) Null ≡ value_in cells (c, default_value_at version c)
        by (Index columns) exact default_value type = absurd cc
        by (Optional kind) exact default_value type =
            ap (λ o. unwrap_or (encoded o) Null) (pair_exact c column.lawful (column_meaning c) refl (λ k r. refl) exact)
            ∙ encoded_cell (map.get cells c) own
            ∙ ap (unwrap_or (map.get cells c)) (sym default_value)
        by (Required kind fallback) exact default_value type =
            ap (λ o. unwrap_or (encoded o) Null) (pair_exact c column.lawful (required_meaning c fallback) refl (λ k r. refl) exact)
            ∙ encoded_code (unwrap_or (map.get cells c) fallback) (either_storable (map.get cells c) fallback own (subst IsStorable default_value column.default_value))
            ∙ ap (unwrap_or (map.get cells c)) (sym default_value)

  module _ (low high : Bytes) (fits : table + 1 < 2 ^ 32) (bound : IsRowBound table high) (inside : is_within low high (row_key (table, key)) ≡ true) where
    -- the pair stands between the cursors
    pair_inside : (c : ℕ) → IsLawfulColumn c → is_within low high (row_code table key c) ≡ true
    pair_inside c lawful =
        let row = held (table, key) cells there in
        let w = within_parts low high (row_key (table, key)) inside in
        let later : bytes_cmp (row_code table key 0) (row_code table key c) ≡ Less =
        row_keys table table key key 0 c row.table row.table row.primary.values row.primary.values (lit< tt) lawful.below
        ∙ ap (λ o. ordering_then o (ordering_then (values_cmp key key) (nat_cmp 0 c))) (tied_itself nat_cmp_total table)
        ∙ ap (λ o. ordering_then o (nat_cmp 0 c)) (tied_itself values_cmp_total key)
        ∙ above_zero c lawful.above in
        parts_within low high (row_code table key c) (le_trans low (row_code table key 0) (row_code table key c) w.0 (less_le (row_code table key 0) (row_code table key c) later))
        (row_then_pair table fits key row.primary.values c lawful.below high bound w.1)

    -- so it is read as it is there
    pub pair_read : (c : ℕ) → IsLawfulColumn c → map.get (part P low high) (row_code table key c) ≡ map.get P (row_code table key c)
    pair_read c lawful = get-part P low high (row_code table key c) ∙ ap (λ b. cond b (map.get P (row_code table key c)) None) (pair_inside c lawful)

    -- the row's values in the columns of an index, with what stands for missing ones, are those
    -- that its pairs encode
    module _ (version : Version) where
      value_same : (columns : List ℕ) (c : ℕ) → is_one_of c columns ≡ true → HasColumn version table P R c
          → value_in (cells_of (record { key = key; cells = cells_in (part P low high) table key columns })) (c, Null) ≡ value_in cells (c, default_value_at version c)
      value_same columns c one column =
          ap (λ o. unwrap_or o Null) (map.get-from_entries nat_cmp_total (cells_in (part P low high) table key columns) c ∙ find_cell (cell_in (part P low high) table key) c columns one)
          ∙ ap (λ o. unwrap_or (encoded o) Null) (pair_read c column.lawful)
          ∙ value_encoded version c column

      values_same : (columns cs : List ℕ) → AllByRecursion (λ c. is_one_of c columns ≡ true) cs → AllByRecursion (HasColumn version table P R) cs
          → indexed (each (λ c. (c, Null)) cs) (cells_of (record { key = key; cells = cells_in (part P low high) table key columns })) ≡ indexed (each (λ c. (c, default_value_at version c)) cs) cells
      values_same columns [] ones facts = refl
      values_same columns (c ∷ cs) ones facts = λ i. value_same columns c ones.0 facts.0 i ∷ values_same columns cs ones.1 facts.1 i

      pub indexed_same : (columns : List ℕ) → AllByRecursion (HasColumn version table P R) columns
          → indexed (each (λ c. (c, Null)) columns) (cells_of (record { key = key; cells = cells_in (part P low high) table key columns })) ≡ indexed (each (λ c. (c, default_value_at version c)) columns) cells
      indexed_same columns facts = values_same columns columns (all_of columns) facts

    -- the value of a required column in which no row has one of its own: the default, whether its pair is there or not
    pub default_same : (n : ℕ) (fallback : Value) (type : ColumnType) → IsLawfulColumn n → IsStorable fallback → map.get cells n ≡ None → Subset (within table (required_meaning n fallback)) P R
        → required_value n fallback (cells_of (record { key = key; cells = one_cell n (typed_in (part P low high) type table key n) })) ≡ fallback
    default_same n fallback type lawful storable bare subset =
        ap (λ o. required_value n fallback (cells_of (record { key = key; cells = one_cell n (typed type o) }))) (pair_read n lawful)
        ∙ by_pair (map.get P (row_code table key n)) refl
      where
        by_typed : (b : Bool) → required_value n fallback (cells_of (record { key = key; cells = one_cell n (cond b (Some fallback) None) })) ≡ fallback
        by_typed true = ap (λ o. unwrap_or o fallback) (map.get-from_entries nat_cmp_total ((n, fallback) ∷ []) n ∙ ap (λ b. cond b (Some fallback) None) (ap is_eq (tied_itself nat_cmp_total n)))
        by_typed false = ap (λ o. unwrap_or o fallback) (map.get-from_entries nat_cmp_total (let es : List (ℕ × Value) = [] in es) n)

        by_pair : (o : Option Bytes) → map.get P (row_code table key n) ≡ o → required_value n fallback (cells_of (record { key = key; cells = one_cell n (typed type o) })) ≡ fallback
        by_pair None at = by_typed false
        by_pair (Some v) at =
            let v_is : code (unwrap_or (map.get cells n) fallback) ≡ v = same_some _ v (pair_of_row n lawful (required_meaning n fallback) refl (λ k r. refl) subset v at) in
            let encodes : only_value v ≡ Some fallback = ap only_value (sym v_is ∙ ap (λ o. code (unwrap_or o fallback)) bare) ∙ only_again fallback storable in
            ap (λ o. required_value n fallback (cells_of (record { key = key; cells = one_cell n (of_type type o) }))) encodes ∙ by_typed (has_type type fallback)
