-- The tests of declared tables decide whether they may be declared.
use Rattle.std.proofs.Common.{◌≡◌, ℕ, ◌≤◌, Bool, true, false, not, ◌&&◌, ◌||◌, List, [], ◌∷◌, ◌++◌, length, refl, sym, ap, ◌∙◌}
use Rattle.std.specs.Prelude.{nat_le, bytes_eq}
use Rattle.std.specs.Bool.{Decides}
use Rattle.std.specs.List.{list_any, list_all, AllByRecursion}
use Rattle.std.proofs.lemmas.Bool.Decides.{Decides-and}
use Rattle.schema_version.specs.declared.table.TableDef.{TableDef}
use Rattle.schema_version.specs.Names.{IsName, is_name, is_among, is_distinct, max_tables, max_key_columns, max_columns, max_indexes, max_listed}
use Rattle.schema_version.specs.Declare.{names_of, IsLawfulIndex, IsLawfulTable, IsLawful}
use Rattle.schema_version.specs.inner.AcceptTables.{names_in, are_apart, has_fair_sizes, has_names, has_own_names, has_names_apart, is_lawful_list, has_lawful_lists, is_lawful_table, table_names, are_lawful}
use Rattle.schema_version.proofs.Decides.{word, at_most, itself}
use Rattle.schema_version.proofs.Lists.{not_both}

pub both_true : (a b : Bool) → (a && b) ≡ true → (a ≡ true) × (b ≡ true)
both_true true b e = (refl, e)
both_true false b e = cc

pub and_true : (a b : Bool) → a ≡ true → b ≡ true → (a && b) ≡ true
and_true a b p q = ap (λ x. x && b) p ∙ q

pub all_decides : {X : Type 0} (test : X → Bool) (P : X → Type 0) → ((x : X) → Decides (test x) (P x)) → (xs : List X) → Decides (list_all test xs) (AllByRecursion P xs)
all_decides test P d [] = (λ e. tt, λ h. refl)
all_decides test P d (x ∷ xs) = Decides-and (test x) (list_all test xs) (d x) (all_decides test P d xs)

and_assoc : (a b c : Bool) → ((a && b) && c) ≡ (a && (b && c))
and_assoc true b c = refl
and_assoc false b c = refl

or_assoc : (a b c : Bool) → ((a || b) || c) ≡ (a || (b || c))
or_assoc true b c = refl
or_assoc false b c = refl

pub all_append : {X : Type 0} (test : X → Bool) (xs ys : List X) → list_all test (xs ++ ys) ≡ (list_all test xs && list_all test ys)
all_append test [] ys = refl
all_append test (x ∷ xs) ys = ap (λ b. test x && b) (all_append test xs ys) ∙ sym (and_assoc (test x) (list_all test xs) (list_all test ys))

pub any_append : {X : Type 0} (test : X → Bool) (xs ys : List X) → list_any test (xs ++ ys) ≡ (list_any test xs || list_any test ys)
any_append test [] ys = refl
any_append test (x ∷ xs) ys = ap (λ b. test x || b) (any_append test xs ys) ∙ sym (or_assoc (test x) (list_any test xs) (list_any test ys))

and_same : (b : Bool) → b ≡ (b && true)
and_same true = refl
and_same false = refl

shuffled : (a b d e f : Bool) → (not (a || b) && (d && (e && f))) ≡ ((not a && d) && (e && (not b && f)))
shuffled true b d e f = refl
shuffled false true true true f = refl
shuffled false true true false f = refl
shuffled false true false e f = refl
shuffled false false true e f = refl
shuffled false false false e f = refl

pub distinct_append : (xs ys : List (List ℕ)) → is_distinct (xs ++ ys) ≡ (is_distinct xs && (is_distinct ys && are_apart xs ys))
distinct_append [] ys = and_same (is_distinct ys)
distinct_append (x ∷ xs) ys =
    (λ i. not (any_append (λ other. bytes_eq other x) xs ys i) && distinct_append xs ys i)
    ∙ shuffled (is_among x xs) (is_among x ys) (is_distinct xs) (is_distinct ys) (are_apart xs ys)

ordered : (k c i kc ki ci : Bool) → ((k && (c && kc)) && (i && (ki && ci))) ≡ ((k && (c && i)) && (kc && (ki && ci)))
ordered false c i kc ki ci = refl
ordered true false i kc ki ci = refl
ordered true true true true ki ci = refl
ordered true true false true ki ci = refl
ordered true true true false ki ci = refl
ordered true true false false ki ci = refl

pub distinct_names : (t : TableDef) → is_distinct (names_of t) ≡ (has_own_names t && has_names_apart t)
distinct_names t =
    let k = names_in t.key in
    let c = names_in t.columns in
    let i = names_in t.indexes in
    distinct_append (k ++ c) i
    ∙ (λ j. distinct_append k c j && (is_distinct i && all_append (λ name. not (is_among name i)) k c j))
    ∙ ordered (is_distinct k) (is_distinct c) (is_distinct i) (are_apart k c) (are_apart k i) (are_apart c i)

well_named : (t : TableDef) → list_all is_name (names_of t) ≡ (list_all is_name (names_in t.key) && (list_all is_name (names_in t.columns) && list_all is_name (names_in t.indexes)))
well_named t =
    all_append is_name (names_in t.key ++ names_in t.columns) (names_in t.indexes)
    ∙ ap (λ b. b && list_all is_name (names_in t.indexes)) (all_append is_name (names_in t.key) (names_in t.columns))
    ∙ and_assoc (list_all is_name (names_in t.key)) (list_all is_name (names_in t.columns)) (list_all is_name (names_in t.indexes))

lawful_index : (t : TableDef) (index : List ℕ × List (List ℕ)) → Decides (is_lawful_list (names_in t.columns) index.1) (IsLawfulIndex t index)
lawful_index t index =
    let d = Decides-and (nat_le 1 (length index.1)) (nat_le (length index.1) max_listed && (is_distinct index.1 && list_all (λ name. is_among name (names_in t.columns)) index.1)) (at_most 1 (length index.1))
    (Decides-and (nat_le (length index.1) max_listed) (is_distinct index.1 && list_all (λ name. is_among name (names_in t.columns)) index.1) (at_most (length index.1) max_listed)
    (Decides-and (is_distinct index.1) (list_all (λ name. is_among name (names_in t.columns)) index.1) (itself (is_distinct index.1)) (itself (list_all (λ name. is_among name (names_in t.columns)) index.1)))) in (
      λ e. (let h = d.0 e in record { some_columns = h.0; few_columns = h.1.0; distinct = h.1.1.0; known = h.1.1.1 }),
      λ l. d.1 (l.some_columns, (l.few_columns, (l.distinct, l.known))),
    )

pub fair_sizes : (t : TableDef) → Decides (has_fair_sizes t) ((1 ≤ length t.key) × ((length t.key ≤ max_key_columns) × ((length t.columns ≤ max_columns) × (length t.indexes ≤ max_indexes))))
fair_sizes t =
    Decides-and (nat_le 1 (length t.key)) (nat_le (length t.key) max_key_columns && (nat_le (length t.columns) max_columns && nat_le (length t.indexes) max_indexes)) (at_most 1 (length t.key))
    (Decides-and (nat_le (length t.key) max_key_columns) (nat_le (length t.columns) max_columns && nat_le (length t.indexes) max_indexes) (at_most (length t.key) max_key_columns)
    (Decides-and (nat_le (length t.columns) max_columns) (nat_le (length t.indexes) max_indexes) (at_most (length t.columns) max_columns) (at_most (length t.indexes) max_indexes)))

lawful_table : (t : TableDef) → Decides (is_lawful_table t) (IsLawfulTable t)
lawful_table t = (to, from)
  where
    to : is_lawful_table t ≡ true → IsLawfulTable t
    to e =
        let a = both_true (has_fair_sizes t) (has_names t && (has_own_names t && (has_names_apart t && has_lawful_lists t))) e in
        let b = both_true (has_names t) (has_own_names t && (has_names_apart t && has_lawful_lists t)) a.1 in
        let c = both_true (has_own_names t) (has_names_apart t && has_lawful_lists t) b.1 in
        let d = both_true (has_names_apart t) (has_lawful_lists t) c.1 in
        let sizes = (fair_sizes t).0 a.0 in
        let n = both_true (is_name t.name) (list_all is_name (names_in t.key) && (list_all is_name (names_in t.columns) && list_all is_name (names_in t.indexes))) b.0 in
        record {
          name = (word t.name).0 n.0;
          some_key = sizes.0;
          short_key = sizes.1.0;
          few_columns = sizes.1.1.0;
          few_indexes = sizes.1.1.1;
          names = (all_decides is_name IsName word (names_of t)).0 (well_named t ∙ n.1);
          distinct = distinct_names t ∙ and_true (has_own_names t) (has_names_apart t) c.0 d.0;
          indexes = (all_decides (λ index. is_lawful_list (names_in t.columns) index.1) (IsLawfulIndex t) (lawful_index t) t.indexes).0 d.1;
        }

    from : IsLawfulTable t → is_lawful_table t ≡ true
    from l =
        let apart = both_true (has_own_names t) (has_names_apart t) (sym (distinct_names t) ∙ l.distinct) in
        and_true (has_fair_sizes t) (has_names t && (has_own_names t && (has_names_apart t && has_lawful_lists t))) ((fair_sizes t).1 (l.some_key, (l.short_key, (l.few_columns, l.few_indexes))))
        (and_true (has_names t) (has_own_names t && (has_names_apart t && has_lawful_lists t))
        (and_true (is_name t.name) (list_all is_name (names_in t.key) && (list_all is_name (names_in t.columns) && list_all is_name (names_in t.indexes))) ((word t.name).1 l.name) (sym (well_named t) ∙ (all_decides is_name IsName word (names_of t)).1 l.names))
        (and_true (has_own_names t) (has_names_apart t && has_lawful_lists t) apart.0
        (and_true (has_names_apart t) (has_lawful_lists t) apart.1 ((all_decides (λ index. is_lawful_list (names_in t.columns) index.1) (IsLawfulIndex t) (lawful_index t) t.indexes).1 l.indexes))))

pub lawful : (ts : List TableDef) → Decides (are_lawful ts) (IsLawful ts)
lawful ts =
    let d = Decides-and (nat_le 1 (length ts)) (nat_le (length ts) max_tables && (is_distinct (table_names ts) && list_all is_lawful_table ts)) (at_most 1 (length ts))
    (Decides-and (nat_le (length ts) max_tables) (is_distinct (table_names ts) && list_all is_lawful_table ts) (at_most (length ts) max_tables)
    (Decides-and (is_distinct (table_names ts)) (list_all is_lawful_table ts) (itself (is_distinct (table_names ts))) (all_decides is_lawful_table IsLawfulTable lawful_table ts))) in (
      λ e. (let h = d.0 e in record { some_tables = h.0; few_tables = h.1.0; distinct = h.1.1.0; lawful = h.1.1.1 }),
      λ l. d.1 (l.some_tables, (l.few_tables, (l.distinct, l.lawful))),
    )

pub all_fair : (ts : List TableDef) → list_all is_lawful_table ts ≡ true → list_all has_fair_sizes ts ≡ true
all_fair [] e = refl
all_fair (t ∷ ts) e =
    let a = both_true (is_lawful_table t) (list_all is_lawful_table ts) e in
    let b = both_true (has_fair_sizes t) (has_names t && (has_own_names t && (has_names_apart t && has_lawful_lists t))) a.0 in
    and_true (has_fair_sizes t) (list_all has_fair_sizes ts) b.0 (all_fair ts a.1)

pub are_fair : (ts : List TableDef) → IsLawful ts → list_all has_fair_sizes ts ≡ true
are_fair ts l = all_fair ts ((all_decides is_lawful_table IsLawfulTable lawful_table ts).1 l.lawful)

pub not_lawful : (ts : List TableDef) → are_lawful ts ≡ false → ¬ (IsLawful ts)
not_lawful ts e l = not_both ((lawful ts).1 l) e
