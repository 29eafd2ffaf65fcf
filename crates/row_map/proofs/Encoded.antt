-- From the pairs that encode a row comes that row.
use Rattle.std.proofs.Common.{◌≡◌, ℕ, zero, suc, ◌^◌, ◌<◌, true, false, cond, eqb, List, [], ◌∷◌, ◌++◌, length, get_or, Option, Some, None, Result, Ok, refl, sym, ap, subst, ◌∙◌, append_assoc, inl, inr, arith}
use Rattle.std.specs.Prelude.{◌⊎◌, slice_get, All, AllPairs, Contains}
use Rattle.std.specs.List.{AllZip}
use Rattle.std.specs.Cmp.{tied_itself}
use Rattle.std.proofs.lemmas.Bool.{eqb-true, eq-eqb, ne_eqb, cases_eq, cases_order, cond_both}
use Rattle.std.proofs.lemmas.List.{append-nil}
use Rattle.std.proofs.lemmas.List.Elements.{All-nil, All-cons, All-head, All-tail, All-weaker, All-contains, All-from_recursion, at_from_Contains}
use Rattle.std.proofs.lemmas.Option.{slice_get_within, get_or_from_slice_get}
use Rattle.collections.specs.Answers.{◌>>>=◌, try_fold}
use Rattle.keycode.specs.declared.value.Value.{Value}
use Rattle.keycode.specs.Code.{code}
use Rattle.keycode.specs.Valid.{IsValue, IsShort, AreShort}
use Rattle.keycode.proofs.Orders.{values_cmp_total}
use Rattle.row_map.specs.declared.key.KeyOf.TheVariants.{Exists, Column}
use Rattle.row_map.specs.declared.shape.ColumnType.{ColumnType}
use Rattle.row_map.specs.declared.shape.ColumnType.TheVariants as kind
use Rattle.row_map.specs.declared.shape.ShapeFault.{ShapeFault}
use Rattle.row_map.specs.declared.shape.TableShape.{TableShape}
use Rattle.row_map.specs.declared.shape.Row.{Row}
use Rattle.row_map.specs.Keys.{row_code, AreKeyValues}
use Rattle.row_map.specs.Cell.{typed_value}
use Rattle.row_map.specs.Pairs.{part_at, part_from, joined, part_step, parts_at, last_of, cell_of, cell_from, with_cell, cell_step, cells_at, row_of, row_from}
use Rattle.row_map.specs.Rows.{Bytes}
use Rattle.row_map.specs.Shape.{are_key_values, has_null}
use Rattle.row_map.specs.Encoded.{IsOfType, IsColumn, IsRowOf, IsListed, IsShape, IsPairOf, OfRow, OfCell, OfUnlisted, EncodedRowsComeBack}
use Rattle.row_map.proofs.Cells.{typed_again}
use Rattle.row_map.proofs.KeyLaws.{key_again}
use Rattle.row_map.proofs.RowsOf.{type_passes, key_passes}

-- ---- membership

in_prefix : {A : Type 0} (x : A) (xs : List A) → Contains (x ∷ xs) x
in_prefix x xs = (0, omega arith, refl)

behind : {A : Type 0} (x y : A) (xs : List A) → Contains xs y → Contains (x ∷ xs) y
behind x y xs c = (suc c.0, omega (arith, c.1), c.2)

nothing_in : {A : Type 0} (x : A) → Contains [] x → ⊥
nothing_in x c = absurd (omega (arith, c.1))

-- the first element, or one after it
either : {A : Type 0} (x y : A) (xs : List A) → Contains (x ∷ xs) y → (x ≡ y) ⊎ Contains xs y
either x y xs c = at c.0 c.1 c.2
  where
    at : (k : ℕ) → k < length (x ∷ xs) → get_or (x ∷ xs) k y ≡ y → (x ≡ y) ⊎ Contains xs y
    at zero lt is = inl is
    at (suc k) lt is = inr (k, omega arith, is)

-- ---- values

of_type_short : (k : ColumnType) (v : Value) → IsOfType k v → IsShort v
of_type_short kind.Int v h = subst IsShort (sym h.1) tt
of_type_short kind.Text v h = subst IsShort (sym h.1) h.2
of_type_short kind.Bool v h = subst IsShort (sym h.1) tt

key_short : (ks : List ColumnType) (vs : List Value) → length vs ≡ length ks
    → ((i : ℕ) (k : ColumnType) (v : Value) → slice_get ks i ≡ Some k → slice_get vs i ≡ Some v → IsOfType k v) → AreShort vs
key_short ks [] len f = tt
key_short [] (y ∷ vs) len f = absurd (omega arith)
key_short (x ∷ ks) (y ∷ vs) len f = (of_type_short x y (f 0 x y refl refl), key_short ks vs (omega arith) (λ i. f (suc i)))

-- the encoding of a value is read as that value
cell_again : (k : ColumnType) (v : Value) → IsOfType k v → IsValue v → typed_value k (code v) ≡ Some v
cell_again k v h is = typed_again k v (is, of_type_short k v h) (type_passes k v h)

-- ---- the pairs one by one

part_again : (table arity : ℕ) (key : List Value) (e : ℕ) → table < 2 ^ 32 → AreKeyValues 1 4 key → length key ≡ arity → e < 2 ^ 24 → part_at table arity (row_code table key e) ≡ Ok (key, e)
unfolding part_at
part_again table arity key zero p q len lt =
    ap (part_from table arity) (key_again (Exists table key) (p, q)) ∙ rw (eq-eqb table table refl, eq-eqb (length key) arity len) refl
part_again table arity key (suc e) p q len lt =
    ap (part_from table arity) (key_again (Column table key (suc e)) (p, q, omega arith, lt)) ∙ rw (eq-eqb table table refl, eq-eqb (length key) arity len) refl

ok_parts : (x y : List Value × ℕ) (r : Result (List Value × ℕ) ShapeFault) → r ≡ Ok x → r ≡ Ok y → x ≡ y
ok_parts x y r d e = cc

-- one key is of one element
one_element : (table : ℕ) (key : List Value) (e f : ℕ) → table < 2 ^ 32 → AreKeyValues 1 4 key → e < 2 ^ 24 → f < 2 ^ 24 → row_code table key e ≡ row_code table key f → e ≡ f
one_element table key e f p q r s is =
    ap (λ (x : List Value × ℕ). x.1) (ok_parts (key, e) (key, f) (part_at table (length key) (row_code table key e)) (part_again table (length key) key e p q refl r) (ap (part_at table (length key)) is ∙ part_again table (length key) key f p q refl s))

-- what a pair says: its element and its value
abbrev pub IsPart : (ℕ × Bytes → Type 0) → ℕ → List Value → Bytes × Bytes → ℕ × Bytes → Type 0
IsPart P table key p q = (p ≡ (row_code table key q.0, q.1)) × (q.0 < 2 ^ 24) × P q

all_parts : (P : ℕ × Bytes → Type 0) (table : ℕ) (key : List Value) (pairs : List (Bytes × Bytes)) → ((p : Bytes × Bytes) → Contains pairs p → (q : ℕ × Bytes) × IsPart P table key p q)
    → (parts : List (ℕ × Bytes)) × AllZip (IsPart P table key) pairs parts
all_parts P table key [] f = ([], tt)
all_parts P table key (p ∷ ps) f =
    let q = f p (in_prefix p ps) in
    let r = all_parts P table key ps (λ x c. f x (behind p x ps c)) in
    (q.0 ∷ r.0, (q.1, r.1))

each_part : (P : ℕ × Bytes → Type 0) (table : ℕ) (key : List Value) (pairs : List (Bytes × Bytes)) (parts : List (ℕ × Bytes)) → AllZip (IsPart P table key) pairs parts → All P parts
each_part P table key [] [] z = All-nil P
each_part P table key [] (q ∷ qs) z = absurd z
each_part P table key (p ∷ ps) [] z = absurd z
each_part P table key (p ∷ ps) (q ∷ qs) z = All-cons P q qs z.0.2 (each_part P table key ps qs z.1)

in_parts : (P : ℕ × Bytes → Type 0) (table : ℕ) (key : List Value) → table < 2 ^ 32 → AreKeyValues 1 4 key → (pairs : List (Bytes × Bytes)) (parts : List (ℕ × Bytes)) → AllZip (IsPart P table key) pairs parts
    → (e : ℕ) (b : Bytes) → e < 2 ^ 24 → Contains pairs (row_code table key e, b) → Contains parts (e, b)
in_parts P table key t k [] parts z e b lt c = absurd (nothing_in (row_code table key e, b) c)
in_parts P table key t k (p ∷ ps) [] z e b lt c = absurd z
in_parts P table key t k (p ∷ ps) (q ∷ qs) z e b lt c =
    elim (either p (row_code table key e, b) ps c) [
      | inl is ↦
          let same : (row_code table key q.0, q.1) ≡ (row_code table key e, b) = sym z.0.0 ∙ is in
          let element : q.0 ≡ e = one_element table key q.0 e t k z.0.1 lt (ap (λ (x : Bytes × Bytes). x.0) same) in
          let value : q.1 ≡ b = ap (λ (x : Bytes × Bytes). x.1) same in
          let whole : q ≡ (e, b) = λ i. (element i, value i) in
          subst (Contains (q ∷ qs)) whole (in_prefix q qs)
      | inr later ↦ behind q (e, b) qs (in_parts P table key t k ps qs z.1 e b lt later)
    ]

part_taken : (P : ℕ × Bytes → Type 0) (table arity : ℕ) (key : List Value) → table < 2 ^ 32 → AreKeyValues 1 4 key → length key ≡ arity → (o : Option (List Value)) → joined o key ≡ Ok key
    → (before : List (ℕ × Bytes)) (p : Bytes × Bytes) (q : ℕ × Bytes) → IsPart P table key p q → part_step table arity (o, before) p ≡ Ok (Some key, before ++ q ∷ [])
part_taken P table arity key t k len o tied before p q is =
    ap (λ (x : Bytes × Bytes). part_step table arity (o, before) x) is.0
    ∙ ap (λ r. r >>>= λ x. joined o x.0 >>>= λ k. Ok (Some k, before ++ (x.1, q.1) ∷ [])) (part_again table arity key q.0 t k len is.1)
    ∙ ap (λ r. r >>>= λ k. Ok (Some k, before ++ q ∷ [])) tied

same_key_again : (key : List Value) → joined (Some key) key ≡ Ok key
same_key_again key = rw (tied_itself values_cmp_total key) refl

parts_taken : (P : ℕ × Bytes → Type 0) (table arity : ℕ) (key : List Value) → table < 2 ^ 32 → AreKeyValues 1 4 key → length key ≡ arity
    → (before : List (ℕ × Bytes)) (pairs : List (Bytes × Bytes)) (parts : List (ℕ × Bytes)) → AllZip (IsPart P table key) pairs parts → try_fold (part_step table arity) (Some key, before) pairs ≡ Ok (Some key, before ++ parts)
parts_taken P table arity key t k len before [] [] z = ap (λ (l : List (ℕ × Bytes)). Ok (Some key, l)) (sym (append-nil before))
parts_taken P table arity key t k len before [] (q ∷ qs) z = absurd z
parts_taken P table arity key t k len before (p ∷ ps) [] z = absurd z
parts_taken P table arity key t k len before (p ∷ ps) (q ∷ qs) z =
    ap (λ r. r >>>= λ s. try_fold (part_step table arity) s ps) (part_taken P table arity key t k len (Some key) (same_key_again key) before p q z.0)
    ∙ parts_taken P table arity key t k len (before ++ q ∷ []) ps qs z.1
    ∙ ap (λ (l : List (ℕ × Bytes)). Ok (Some key, l)) (append_assoc before (q ∷ []) qs)

whole_taken : (P : ℕ × Bytes → Type 0) (table arity : ℕ) (key : List Value) → table < 2 ^ 32 → AreKeyValues 1 4 key → length key ≡ arity
    → (first : Bytes × Bytes) (pairs : List (Bytes × Bytes)) (parts : List (ℕ × Bytes)) → Contains pairs first → AllZip (IsPart P table key) pairs parts → parts_at table arity pairs ≡ Ok (Some key, parts)
whole_taken P table arity key t k len first [] parts c z = absurd (nothing_in first c)
whole_taken P table arity key t k len first (p ∷ ps) [] c z = absurd z
whole_taken P table arity key t k len first (p ∷ ps) (q ∷ qs) c z =
    ap (λ r. r >>>= λ s. try_fold (part_step table arity) s ps) (part_taken P table arity key t k len None refl [] p q z.0)
    ∙ parts_taken P table arity key t k len (q ∷ []) ps qs z.1

-- ---- the last value of an element

-- a part of the element has this value
abbrev pub Says : ℕ → Bytes → ℕ × Bytes → Type 0
Says e b q = q.0 ≡ e → q.1 ≡ b

-- a part of another element
abbrev pub IsApart : ℕ → ℕ × Bytes → Type 0
IsApart e q = q.0 ≡ e → ⊥

last_kept : (e : ℕ) (b : Bytes) (qs : List (ℕ × Bytes)) → All (Says e b) qs → (before : Option Bytes) → before ≡ Some b → last_of e before qs ≡ Some b
last_kept e b [] says before is = is
last_kept e b (q ∷ qs) says before is =
    last_kept e b qs (All-tail (Says e b) q qs says) (cond (eqb q.0 e) (Some q.1) before)
    (cond_both (eqb q.0 e) (Some q.1) before (λ o. o ≡ Some b) (λ t. ap (λ (x : Bytes). Some x) (All-head (Says e b) q qs says (eqb-true q.0 e t))) (λ f. is))

last_found : (e : ℕ) (b : Bytes) (qs : List (ℕ × Bytes)) → All (Says e b) qs → Contains qs (e, b) → (before : Option Bytes) → last_of e before qs ≡ Some b
last_found e b [] says c before = absurd (nothing_in (e, b) c)
last_found e b (q ∷ qs) says c before =
    elim (either q (e, b) qs c) [
      | inl is ↦
          last_kept e b qs (All-tail (Says e b) q qs says) (cond (eqb q.0 e) (Some q.1) before)
          (ap (λ t. cond t (Some q.1) before) (eq-eqb q.0 e (ap (λ (x : ℕ × Bytes). x.0) is)) ∙ ap (λ (x : ℕ × Bytes). Some x.1) is)
      | inr later ↦ last_found e b qs (All-tail (Says e b) q qs says) later (cond (eqb q.0 e) (Some q.1) before)
    ]

last_missing : (e : ℕ) (qs : List (ℕ × Bytes)) → All (IsApart e) qs → (before : Option Bytes) → last_of e before qs ≡ before
last_missing e [] apart before = refl
last_missing e (q ∷ qs) apart before =
    ap (λ t. last_of e (cond t (Some q.1) before) qs) (ne_eqb q.0 e (All-head (IsApart e) q qs apart))
    ∙ last_missing e qs (All-tail (IsApart e) q qs apart) before

-- ---- the columns one by one

abbrev pub AreRising : {A : Type 0} → List (ℕ × A) → Type 0
AreRising xs = AllPairs (λ a b. a.0 < b.0) xs

-- the parts give the cells for the columns
record Give (parts : List (ℕ × Bytes)) (columns : List (ℕ × ColumnType)) (cells : List (ℕ × Value)) : Type 0 where
  found : (e : ℕ) (v : Value) → Contains cells (e, v) → last_of e None parts ≡ Some (code v)
  missing : (e : ℕ) (k : ColumnType) → Contains columns (e, k) → ((v : Value) → Contains cells (e, v) → ⊥) → last_of e None parts ≡ None
  typed : (e : ℕ) (v : Value) → Contains cells (e, v) → (k : ColumnType) × Contains columns (e, k) × IsOfType k v × IsValue v

above_first : {A : Type 0} (x : ℕ × A) (xs : List (ℕ × A)) → AreRising (x ∷ xs) → (y : ℕ × A) → Contains xs y → x.0 < y.0
above_first x xs up y c =
    let h : x.0 < (get_or xs c.0 y).0 = up 0 (suc c.0) y (omega arith) (omega (arith, c.1)) in
    omega (arith, h, ap (λ z. z.0) c.2)

up_behind : {A : Type 0} (x : ℕ × A) (xs : List (ℕ × A)) → AreRising (x ∷ xs) → AreRising xs
up_behind x xs up = λ i j d lt within. up (suc i) (suc j) d (omega arith) (omega arith)

without : (parts : List (ℕ × Bytes)) (c : ℕ × ColumnType) (cs : List (ℕ × ColumnType)) (ds : List (ℕ × Value)) → Give parts (c ∷ cs) ds → ((v : Value) → Contains ds (c.0, v) → ⊥) → Give parts cs ds
without parts c cs ds g none = record {
  found = g.found;
  missing = λ e k has. g.missing e k (behind c (e, k) cs has);
  typed = λ e v has.
      let t = g.typed e v has in
      elim (either c (e, t.0) cs t.1) [
        | inl is ↦ absurd (none v (subst (λ n. Contains ds (n, v)) (sym (ap (λ (x : ℕ × ColumnType). x.0) is)) has))
        | inr later ↦ (t.0, later, t.2, t.3)
      ];
}

with_first : (parts : List (ℕ × Bytes)) (c : ℕ × ColumnType) (cs : List (ℕ × ColumnType)) (d : ℕ × Value) (ds : List (ℕ × Value)) → AreRising (c ∷ cs) → AreRising (d ∷ ds) → c.0 ≡ d.0
    → Give parts (c ∷ cs) (d ∷ ds) → Give parts cs ds
with_first parts c cs d ds up rise same g = record {
  found = λ e v has. g.found e v (behind d (e, v) ds has);
  missing = λ e k has none. g.missing e k (behind c (e, k) cs has) (λ v in_all.
      elim (either d (e, v) ds in_all) [
        | inl is ↦ absurd (omega (arith, same, ap (λ (x : ℕ × Value). x.0) is, above_first c cs up (e, k) has))
        | inr later ↦ none v later
      ]);
  typed = λ e v has.
      let t = g.typed e v (behind d (e, v) ds has) in
      elim (either c (e, t.0) cs t.1) [
        | inl is ↦ absurd (omega (arith, same, ap (λ (x : ℕ × ColumnType). x.0) is, above_first d ds rise (e, v) has))
        | inr later ↦ (t.0, later, t.2, t.3)
      ];
}

passed_over : (parts : List (ℕ × Bytes)) (before : List (ℕ × Value)) (c : ℕ × ColumnType) → last_of c.0 None parts ≡ None → cell_step parts before c ≡ Ok before
passed_over parts before c none = ap (λ o. cell_from c.1 o >>>= λ v. Ok (with_cell before c.0 v)) none

taken : (parts : List (ℕ × Bytes)) (before : List (ℕ × Value)) (c : ℕ × ColumnType) (v : Value) → last_of c.0 None parts ≡ Some (code v) → typed_value c.1 (code v) ≡ Some v → cell_step parts before c ≡ Ok (before ++ (c.0, v) ∷ [])
taken parts before c v some read =
    ap (λ o. cell_from c.1 o >>>= λ v. Ok (with_cell before c.0 v)) some
    ∙ ap (λ r. cell_of r >>>= λ o. Ok (with_cell before c.0 o)) read

-- the type of a column that is listed once
one_type : (c : ℕ × ColumnType) (cs : List (ℕ × ColumnType)) (k : ColumnType) → AreRising (c ∷ cs) → Contains (c ∷ cs) (c.0, k) → c.1 ≡ k
one_type c cs k up has = elim (either c (c.0, k) cs has) [
  | inl is ↦ ap (λ (x : ℕ × ColumnType). x.1) is
  | inr later ↦ absurd (omega (arith, above_first c cs up (c.0, k) later))
]

cells_again : (parts : List (ℕ × Bytes)) (cs : List (ℕ × ColumnType)) (ds : List (ℕ × Value)) → AreRising cs → AreRising ds → Give parts cs ds
    → (before : List (ℕ × Value)) → try_fold (cell_step parts) before cs ≡ Ok (before ++ ds)
cells_again parts [] [] up rise g before = ap (λ (l : List (ℕ × Value)). Ok l) (sym (append-nil before))
cells_again parts [] (d ∷ ds) up rise g before = let t = g.typed d.0 d.1 (in_prefix d ds) in absurd (nothing_in (d.0, t.0) t.1)
cells_again parts (c ∷ cs) [] up rise g before =
    let none : (v : Value) → Contains [] (c.0, v) → ⊥ = λ v has. nothing_in (c.0, v) has in
    ap (λ r. r >>>= λ s. try_fold (cell_step parts) s cs) (passed_over parts before c (g.missing c.0 c.1 (in_prefix c cs) none))
    ∙ cells_again parts cs [] (up_behind c cs up) rise (without parts c cs [] g none) before
cells_again parts (c ∷ cs) (d ∷ ds) up rise g before =
    elim (cases_eq c.0 d.0) [
      | inl same ↦
          let t = g.typed d.0 d.1 (in_prefix d ds) in
          let k_is : c.1 ≡ t.0 = one_type c cs t.0 up (subst (λ n. Contains (c ∷ cs) (n, t.0)) (sym same) t.1) in
          let some : last_of c.0 None parts ≡ Some (code d.1) = ap (λ n. last_of n None parts) same ∙ g.found d.0 d.1 (in_prefix d ds) in
          let read : typed_value c.1 (code d.1) ≡ Some d.1 = ap (λ k. typed_value k (code d.1)) k_is ∙ cell_again t.0 d.1 t.2 t.3 in
          let next : before ++ (c.0, d.1) ∷ [] ≡ before ++ d ∷ [] = ap (λ n. before ++ (n, d.1) ∷ []) same in
          ap (λ r. r >>>= λ s. try_fold (cell_step parts) s cs) (taken parts before c d.1 some read)
          ∙ ap (λ s. try_fold (cell_step parts) s cs) next
          ∙ cells_again parts cs ds (up_behind c cs up) (up_behind d ds rise) (with_first parts c cs d ds up rise same g) (before ++ d ∷ [])
          ∙ ap (λ (l : List (ℕ × Value)). Ok l) (append_assoc before (d ∷ []) ds)
      | inr other ↦
          let t = g.typed d.0 d.1 (in_prefix d ds) in
          let above : c.0 < d.0 = elim (either c (d.0, t.0) cs t.1) [ inl is ↦ absurd (other (ap (λ (x : ℕ × ColumnType). x.0) is)) | inr later ↦ above_first c cs up (d.0, t.0) later ] in
          let none : (v : Value) → Contains (d ∷ ds) (c.0, v) → ⊥ = λ v has. elim (either d (c.0, v) ds has) [
            | inl is ↦ absurd (omega (arith, above, ap (λ (x : ℕ × Value). x.0) is))
            | inr later ↦ absurd (omega (arith, above, above_first d ds rise (c.0, v) later))
          ] in
          ap (λ r. r >>>= λ s. try_fold (cell_step parts) s cs) (passed_over parts before c (g.missing c.0 c.1 (in_prefix c cs) none))
          ∙ cells_again parts cs (d ∷ ds) (up_behind c cs up) rise (without parts c cs (d ∷ ds) g none) before
    ]

-- ---- what the parts of a row's pairs say

-- of the row, of a cell, or of an element that is not listed
data IsGood (shape : TableShape) (row : Row) (q : ℕ × Bytes) : Type 0 where
  GoodRow : q ≡ (0, []) → IsGood shape row q
  GoodCell : (e : ℕ) (v : Value) → Contains row.cells (e, v) → q ≡ (e, code v) → IsGood shape row q
  GoodOther : 0 < q.0 → (IsListed shape.columns q.0 → ⊥) → IsGood shape row q

listed_by : (columns : List (ℕ × ColumnType)) (e : ℕ) (k : ColumnType) → IsColumn columns e k → Contains columns (e, k)
listed_by columns e k c = (c.place, slice_get_within columns c.place (e, k) c.here, get_or_from_slice_get columns c.place (e, k) (e, k) c.here)

cell_listed : (shape : TableShape) (row : Row) → IsRowOf shape row → (e : ℕ) (v : Value) → Contains row.cells (e, v) → (k : ColumnType) × Contains shape.columns (e, k) × IsOfType k v
cell_listed shape row is e v has = let c = is.cells e v has in (c.0, listed_by shape.columns e c.0 c.1, c.2)

cell_number : (shape : TableShape) (row : Row) → IsShape shape → IsRowOf shape row → (e : ℕ) (v : Value) → Contains row.cells (e, v) → (0 < e) × (e < 2 ^ 24)
cell_number shape row s is e v has = let c = cell_listed shape row is e v has in s.numbers e (c.0, c.1)

one_cell : (cells : List (ℕ × Value)) → AreRising cells → (e : ℕ) (v w : Value) → Contains cells (e, v) → Contains cells (e, w) → v ≡ w
one_cell cells rise e v w a b =
    let x = at_from_Contains cells (e, v) a in
    let y = at_from_Contains cells (e, w) b in
    let n : (get_or cells x.0 (e, v)).0 ≡ e = ap (λ (z : ℕ × Value). z.0) (x.2 (e, v)) in
    let m : (get_or cells y.0 (e, v)).0 ≡ e = ap (λ (z : ℕ × Value). z.0) (y.2 (e, v)) in
    elim (cases_order x.0 y.0) [
      | inl same ↦ ap (λ (z : ℕ × Value). z.1) (sym (x.2 (e, v)) ∙ ap (λ i. get_or cells i (e, v)) same ∙ y.2 (e, v))
      | inr apart ↦ elim apart [
        | inl lt ↦ absurd (omega (arith, n, m, rise x.0 y.0 (e, v) lt y.1))
        | inr lt ↦ absurd (omega (arith, n, m, rise y.0 x.0 (e, v) lt x.1))
      ]
    ]

good_part : (shape : TableShape) (row : Row) → IsShape shape → IsRowOf shape row → (p : Bytes × Bytes) → IsPairOf shape row p → (q : ℕ × Bytes) × IsPart (IsGood shape row) shape.number row.key p q
good_part shape row s is p (OfRow e) = ((0, []), (e, omega arith, GoodRow refl))
good_part shape row s is p (OfCell n v has e) = ((n, code v), (e, (cell_number shape row s is n v has).1, GoodCell n v has refl))
good_part shape row s is p (OfUnlisted n b low high not e) = ((n, b), (e, high, GoodOther low not))

row_says : (shape : TableShape) (row : Row) → IsShape shape → IsRowOf shape row → (q : ℕ × Bytes) → IsGood shape row q → Says 0 [] q
row_says shape row s is q (GoodRow e) zero_is = ap (λ (x : ℕ × Bytes). x.1) e
row_says shape row s is q (GoodCell n v has e) zero_is = absurd (omega (arith, (cell_number shape row s is n v has).0, ap (λ (x : ℕ × Bytes). x.0) e, zero_is))
row_says shape row s is q (GoodOther low not) zero_is = absurd (omega (arith, low, zero_is))

cell_says : (shape : TableShape) (row : Row) → IsShape shape → IsRowOf shape row → (e : ℕ) (v : Value) → Contains row.cells (e, v) → (q : ℕ × Bytes) → IsGood shape row q → Says e (code v) q
cell_says shape row s is e v has q (GoodRow at) same = absurd (omega (arith, (cell_number shape row s is e v has).0, ap (λ (x : ℕ × Bytes). x.0) at, same))
cell_says shape row s is e v has q (GoodCell n w in_row at) same =
    let number : n ≡ e = sym (ap (λ (x : ℕ × Bytes). x.0) at) ∙ same in
    let value : w ≡ v = one_cell row.cells is.rising e w v (subst (λ m. Contains row.cells (m, w)) number in_row) has in
    ap (λ (x : ℕ × Bytes). x.1) at ∙ ap code value
cell_says shape row s is e v has q (GoodOther low not) same =
    let c = cell_listed shape row is e v has in
    absurd (not (c.0, subst (λ m. Contains shape.columns (m, c.0)) (sym same) c.1))

none_says : (shape : TableShape) (row : Row) → IsShape shape → IsRowOf shape row → (e : ℕ) (k : ColumnType) → Contains shape.columns (e, k) → ((v : Value) → Contains row.cells (e, v) → ⊥) → (q : ℕ × Bytes) → IsGood shape row q → IsApart e q
none_says shape row s is e k has none q (GoodRow at) same = absurd (omega (arith, (s.numbers e (k, has)).0, ap (λ (x : ℕ × Bytes). x.0) at, same))
none_says shape row s is e k has none q (GoodCell n w in_row at) same =
    none w (subst (λ m. Contains row.cells (m, w)) (sym (ap (λ (x : ℕ × Bytes). x.0) at) ∙ same) in_row)
none_says shape row s is e k has none q (GoodOther low not) same = not (k, subst (λ m. Contains shape.columns (m, k)) (sym same) has)

-- ---- the row

row_made : (shape : TableShape) (key : List Value) (parts : List (ℕ × Bytes)) (cells : List (ℕ × Value)) → are_key_values shape.key key ≡ true → last_of 0 None parts ≡ Some [] → cells_at parts shape.columns ≡ Ok cells → has_null key ≡ false
    → row_of shape (Some key) parts ≡ Ok (Some (record { key = key; cells = cells }))
unfolding row_of
row_made shape key parts cells fits there read some = rw (fits, there, read, some) refl

pub encoded_rows : EncodedRowsComeBack
unfolding row_from
encoded_rows shape row pairs s is values known encode =
    let number = shape.number in
    let key : AreKeyValues 1 4 row.key = record { low_number = omega (arith, s.some_key, is.arity); high_number = omega (arith, s.short_key, is.arity); values = values; short = key_short shape.key row.key is.arity is.primary } in
    let made = all_parts (IsGood shape row) number row.key pairs (λ p has. good_part shape row s is p (encode.only p has)) in
    let good : All (IsGood shape row) made.0 = each_part (IsGood shape row) number row.key pairs made.0 made.1 in
    let has_part : (e : ℕ) (b : Bytes) → e < 2 ^ 24 → Contains pairs (row_code number row.key e, b) → Contains made.0 (e, b) = in_parts (IsGood shape row) number row.key s.table key pairs made.0 made.1 in
    let there : last_of 0 None made.0 ≡ Some [] = last_found 0 [] made.0 (All-weaker (IsGood shape row) (Says 0 []) (row_says shape row s is) made.0 good) (has_part 0 [] (omega arith) encode.there) None in
    let give : Give made.0 shape.columns row.cells = record {
      found = λ e v has. last_found e (code v) made.0 (All-weaker (IsGood shape row) (Says e (code v)) (cell_says shape row s is e v has) made.0 good) (has_part e (code v) (cell_number shape row s is e v has).1 (encode.cells e v has)) None;
      missing = λ e k has none. last_missing e made.0 (All-weaker (IsGood shape row) (IsApart e) (none_says shape row s is e k has none) made.0 good) None;
      typed = λ e v has. let c = cell_listed shape row is e v has in (c.0, c.1, c.2, All-contains (λ x. IsValue x.1) row.cells (e, v) (All-from_recursion (λ x. IsValue x.1) row.cells known) has);
    } in
    let primary = key_passes shape.key row.key is.arity is.primary in
    ap (λ r. r >>>= λ x. row_of shape x.0 x.1) (whole_taken (IsGood shape row) number (length shape.key) row.key s.table key is.arity (row_code number row.key 0, []) pairs made.0 encode.there made.1)
    ∙ row_made shape row.key made.0 row.cells primary.0 there (cells_again made.0 shape.columns row.cells s.rising is.rising give []) primary.1
