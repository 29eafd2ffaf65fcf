-- What is true of every version stays true while the columns and indexes of a declared table enter.
use Rattle.std.proofs.Common.{◌≡◌, ℕ, ◌+◌, ◌*◌, ◌<◌, ◌≤◌, Bool, true, false, cond, not, ◌&&◌, ◌||◌, ◌==◌, List, [], ◌∷◌, ◌++◌, length, Some, inl, inr, refl, sym, ap, subst, ◌∙◌, arith, Contains, if◌then◌else◌}
use Rattle.std.specs.Prelude.{bytes_eq, IsTrue}
use Rattle.std.specs.List.{list_any, list_all, AllByRecursion}
use Rattle.std.proofs.lemmas.Bool.Decides.{Decides-eqb}
use Rattle.std.proofs.lemmas.List.{length-map}
use Rattle.std.proofs.lemmas.Slice.Eq.{bytes_eq-Decides}
use mathlib.Core.List.{map as each}
use Rattle.row_map.specs.declared.shape.ColumnType.{ColumnType}
use Rattle.schema_version.specs.declared.element.ElementState.TheVariants.{Public}
use Rattle.schema_version.specs.declared.element.Kind.{Kind}
use Rattle.schema_version.specs.declared.element.Kind.TheVariants.{Index, Optional, Required}
use Rattle.schema_version.specs.declared.element.ElementDef.{ElementDef}
use Rattle.schema_version.specs.declared.element.NewElement.{NewElement}
use Rattle.schema_version.specs.declared.table.TableDef.{TableDef}
use Rattle.schema_version.specs.Edges.{has_state}
use Rattle.schema_version.specs.Names.{IsName, is_among, is_distinct, max_listed}
use Rattle.schema_version.specs.Version.{Version, Table, table_at, element_at, is_index, is_like, indexed_columns, IsPublicColumn, count_live, type_of_kind}
use Rattle.schema_version.specs.Moves.{as_element, entered, IsFairKind, max_like, is_distinct as is_distinct_numbers}
use Rattle.schema_version.specs.Declare.{number_of, column_entry, index_entry, enter_public, IsLawfulIndex}
use Rattle.schema_version.specs.Sound.{IsSoundVersion}
use Rattle.schema_version.proofs.Entries.{tells}
use Rattle.schema_version.proofs.Lists.{here, later, here_or_later, some_same, not_both, any_says, any_from, all_says}
use Rattle.schema_version.proofs.Changes.{inserted_here, inserted_apart}
use Rattle.schema_version.proofs.Declared.{both_true}
use Rattle.schema_version.proofs.Counts.{count_insert}
use Rattle.schema_version.proofs.Keeps.{enter_sound}

-- ---- lists and their names

pub among : (names : List (List ℕ)) (name : List ℕ) → Contains names name → is_among name names ≡ true
among names name there = any_from (λ other. bytes_eq other name) names name there ((bytes_eq-Decides name name).1 refl)

pub from_among : (names : List (List ℕ)) (name : List ℕ) → is_among name names ≡ true → Contains names name
from_among names name e =
    let r = any_says (λ other. bytes_eq other name) names e in
    subst (Contains names) ((bytes_eq-Decides r.0 name).0 r.2) r.1

pub not_true : (b : Bool) → ¬ (b ≡ true) → b ≡ false
not_true true h = absurd (h refl)
not_true false h = refl

pub unnot : (b : Bool) → not b ≡ true → b ≡ false
unnot true e = cc
unnot false e = refl

-- the first of distinct names isn't one of the others, which are distinct too
pub first_apart : (name : List ℕ) (names : List (List ℕ)) → is_distinct (name ∷ names) ≡ true → (¬ (Contains names name)) × (is_distinct names ≡ true)
first_apart name names e =
    let p = both_true (not (is_among name names)) (is_distinct names) e in
    (λ there. not_both (among names name there) (unnot (is_among name names) p.0), p.1)

pub from_each : {X Y : Type 0} (f : X → Y) (xs : List X) (y : Y) → Contains (each f xs) y → (x : X) × Contains xs x × (f x ≡ y)
from_each f [] y (k, below, is) = absurd (omega (arith, below))
from_each f (x ∷ xs) y there =
    elim (here_or_later (f x) y (each f xs) there) [
      | inl is ↦ (x, here x xs, is)
      | inr more ↦ (let r = from_each f xs y more in (r.0, later x r.0 xs r.1, r.2))
    ]

-- ---- a version while a table's columns and indexes enter

-- These names, columns and indexes are still to enter the table of this number.
pub record AtTable (tables : List Table) (k : ℕ) (rest : List (List ℕ)) (columns indexes : ℕ) (u : Version) : Type 0 where
  pub sound : IsSoundVersion u
  pub same : u.tables ≡ tables
  pub below : (n : ℕ) (e : ElementDef) → element_at u n ≡ Some e → e.table < k + 1
  pub free : (n : ℕ) (e : ElementDef) → element_at u n ≡ Some e → e.table ≡ k → ¬ (Contains rest e.name)
  pub room_columns : count_live u k false + columns ≤ 32
  pub room_indexes : count_live u k true + indexes ≤ 16
  pub next : u.next + (columns + indexes) ≤ 1 + 48 * k

-- what a name needs to enter a table with this key
pub record IsFresh (key : List (List ℕ × ColumnType)) (name : List ℕ) : Type 0 where
  pub named : IsName name
  pub apart : (type : ColumnType) → ¬ (Contains key (name, type))

-- the public column of this number has this name
abbrev pub IsNamedColumn : Version → ℕ → ℕ → List ℕ → Type 0
IsNamedColumn u k n name = (e : ElementDef) × (type : ColumnType) × (element_at u n ≡ Some e) × (e.table ≡ k) × (e.kind ≡ Optional type) × (e.state ≡ Public) × (e.name ≡ name)

abbrev pub of_table : ℕ → List ℕ → Kind → NewElement
of_table k name kind = record { table = k; name = name; kind = kind }

at_most_one : (b : Bool) → cond b 1 0 ≤ 1
at_most_one true = omega arith
at_most_one false = omega arith

none_like : (b : Bool) → ◌≡◌ {A = ℕ} (cond (b && false) 1 0) 0
none_like true = refl
none_like false = refl

-- a public element of each kind
public_is : (kind : Kind) → IsTrue (has_state kind Public)
public_is (Index columns) = refl
public_is (Optional type) = refl
public_is (Required type fallback) = refl

module _ (tables : List Table) (k : ℕ) (table : Table) (few_tables : k ≤ 16) (placed : (u : Version) → u.tables ≡ tables → table_at u k ≡ Some table) where
  module _ (u : Version) (name : List ℕ) (kind : Kind) (rest : List (List ℕ)) (c i : ℕ) (at : AtTable tables k (name ∷ rest) c i u) (fresh : IsFresh table.key name) (distinct : is_distinct (name ∷ rest) ≡ true)
      (fair : IsFairKind kind) (columns : (column : ℕ) → Contains (indexed_columns kind) column → IsPublicColumn u k column) (some : 1 ≤ c + i) (few : count_live u k (is_index kind) < max_like (is_index kind)) where
    one_sound : IsSoundVersion (entered u (of_table k name kind) Public)
    one_sound =
        enter_sound u (of_table k name kind) Public at.sound
        (record {
          room = (let next = at.next in omega (arith, next, some, few_tables));
          live = λ is. cc;
          possible = public_is kind;
          named = fresh.named;
          placed = (table, placed u at.same);
          apart = λ (t, type, there, key). fresh.apart type (subst (λ (x : Table). Contains x.key (name, type)) (some_same (sym there ∙ placed u at.same)) key);
          fair = fair;
          columns = columns;
          free = λ n e there own named. at.free n e there own (subst (Contains (name ∷ rest)) (sym named) (here name rest));
          few = few;
        })

    one_below : (n : ℕ) (e : ElementDef) → element_at (entered u (of_table k name kind) Public) n ≡ Some e → e.table < k + 1
    one_below n e there =
        elim (tells n u.next) [
          | inl p ↦ (let is : k ≡ e.table = ap (λ (x : ElementDef). x.table) (some_same (sym (inserted_here u.elements u.next n (as_element u.next (of_table k name kind) Public) p.1) ∙ there)) in omega (arith, is))
          | inr p ↦ at.below n e (sym (inserted_apart u.elements u.next n (as_element u.next (of_table k name kind) Public) p.1) ∙ there)
        ]

    one_free : (n : ℕ) (e : ElementDef) → element_at (entered u (of_table k name kind) Public) n ≡ Some e → e.table ≡ k → ¬ (Contains rest e.name)
    one_free n e there own later_on =
        elim (tells n u.next) [
          | inl p ↦ (let is : name ≡ e.name = ap (λ (x : ElementDef). x.name) (some_same (sym (inserted_here u.elements u.next n (as_element u.next (of_table k name kind) Public) p.1) ∙ there)) in
              (first_apart name rest distinct).0 (subst (Contains rest) (sym is) later_on))
          | inr p ↦ at.free n e (sym (inserted_apart u.elements u.next n (as_element u.next (of_table k name kind) Public) p.1) ∙ there) own (later name e.name rest later_on)
        ]

  -- a column enters
  pub column_in : (u : Version) (name : List ℕ) (type : ColumnType) (rest : List (List ℕ)) (c i more : ℕ) → more ≡ c + 1 → AtTable tables k (name ∷ rest) more i u → IsFresh table.key name → is_distinct (name ∷ rest) ≡ true
      → AtTable tables k rest c i (entered u (of_table k name (Optional type)) Public)
  column_in u name type rest c i more is at fresh distinct =
      let room = at.room_columns in
      let columns : (column : ℕ) → Contains (indexed_columns (Optional type)) column → IsPublicColumn u k column = λ n there. absurd (nothing_in n there) in
      let few : count_live u k (is_index (Optional type)) < max_like (is_index (Optional type)) = omega (arith, room, is) in
      record {
        sound = one_sound u name (Optional type) rest more i at fresh distinct tt columns (omega (arith, is)) few;
        same = at.same;
        below = one_below u name (Optional type) rest more i at fresh distinct tt columns (omega (arith, is)) few;
        free = one_free u name (Optional type) rest more i at fresh distinct tt columns (omega (arith, is)) few;
        room_columns =
            (let count = count_insert (λ (e : ElementDef). (e.table == k) && is_like false e.kind) u.elements u.next (as_element u.next (of_table k name (Optional type)) Public) in
            let one = at_most_one ((k == k) && is_like false (Optional type)) in
            omega (arith, room, is, count, one));
        room_indexes =
            (let count = count_insert (λ (e : ElementDef). (e.table == k) && is_like true e.kind) u.elements u.next (as_element u.next (of_table k name (Optional type)) Public) in
            let none = none_like (k == k) in
            let room_i = at.room_indexes in
            omega (arith, room_i, count, none));
        next = (let next = at.next in omega (arith, next, is));
      }
    where
      nothing_in : (n : ℕ) → ¬ (Contains [] n)
      nothing_in n (place, below, same) = absurd (omega (arith, below))

  -- an index enters
  pub index_in : (u : Version) (name : List ℕ) (numbers : List ℕ) (rest : List (List ℕ)) (c i more : ℕ) → more ≡ i + 1 → AtTable tables k (name ∷ rest) c more u → IsFresh table.key name → is_distinct (name ∷ rest) ≡ true
      → IsFairKind (Index numbers) → ((column : ℕ) → Contains numbers column → IsPublicColumn u k column)
      → AtTable tables k rest c i (entered u (of_table k name (Index numbers)) Public)
  index_in u name numbers rest c i more is at fresh distinct list columns =
      let room = at.room_indexes in
      let few : count_live u k (is_index (Index numbers)) < max_like (is_index (Index numbers)) = omega (arith, room, is) in
      record {
        sound = one_sound u name (Index numbers) rest c more at fresh distinct list columns (omega (arith, is)) few;
        same = at.same;
        below = one_below u name (Index numbers) rest c more at fresh distinct list columns (omega (arith, is)) few;
        free = one_free u name (Index numbers) rest c more at fresh distinct list columns (omega (arith, is)) few;
        room_columns =
            (let count = count_insert (λ (e : ElementDef). (e.table == k) && is_like false e.kind) u.elements u.next (as_element u.next (of_table k name (Index numbers)) Public) in
            let none = none_like (k == k) in
            let room_c = at.room_columns in
            omega (arith, room_c, count, none));
        room_indexes =
            (let count = count_insert (λ (e : ElementDef). (e.table == k) && is_like true e.kind) u.elements u.next (as_element u.next (of_table k name (Index numbers)) Public) in
            let one = at_most_one ((k == k) && is_like true (Index numbers)) in
            omega (arith, room, is, count, one));
        next = (let next = at.next in omega (arith, next, is));
      }

  -- all columns enter
  pub columns_in : (columns : List (List ℕ × ColumnType)) (names : List (List ℕ)) (i : ℕ) (u : Version) → AtTable tables k (each (λ c. c.0) columns ++ names) (length columns) i u → is_distinct (each (λ c. c.0) columns ++ names) ≡ true
      → ((name : List ℕ) → Contains (each (λ c. c.0) columns) name → IsFresh table.key name)
      → AtTable tables k names 0 i (enter_public u (each (column_entry k) columns))
  columns_in [] names i u at distinct fresh = at
  columns_in (c ∷ columns) names i u at distinct fresh =
      columns_in columns names i (entered u (column_entry k c) Public)
      (column_in u c.0 c.1 (each (λ x. x.0) columns ++ names) (length columns) i (length (c ∷ columns)) (omega arith) at (fresh c.0 (here c.0 (each (λ x. x.0) columns))) distinct)
      (first_apart c.0 (each (λ x. x.0) columns ++ names) distinct).1
      (λ name there. fresh name (later c.0 name (each (λ x. x.0) columns) there))

-- a public column stays while others enter
named_stays : (fresh : List NewElement) (u : Version) (k n : ℕ) (name : List ℕ) → n < u.next → IsNamedColumn u k n name → IsNamedColumn (enter_public u fresh) k n name
named_stays [] u k n name lt column = column
named_stays (f ∷ fresh) u k n name lt (e, type, at, own, kind, public, named) =
    named_stays fresh (entered u f Public) k n name (omega (arith, lt)) (e, type, inserted_apart u.elements u.next n (as_element u.next f Public) (λ is. absurd (omega (arith, is, lt))) ∙ at, own, kind, public, named)

-- each declared column is there under its number
pub numbered_columns : (columns : List (List ℕ × ColumnType)) (u : Version) (k : ℕ) (name : List ℕ) → is_among name (each (λ c. c.0) columns) ≡ true → IsNamedColumn (enter_public u (each (column_entry k) columns)) k (number_of u.next columns name) name
numbered_columns [] u k name known = cc
numbered_columns (c ∷ columns) u k name known = by (bytes_eq c.0 name) refl (numbered_columns columns (entered u (column_entry k c) Public) k name)
  where
    by : (b : Bool) → bytes_eq c.0 name ≡ b → (is_among name (each (λ c. c.0) columns) ≡ true → IsNamedColumn (enter_public (entered u (column_entry k c) Public) (each (column_entry k) columns)) k (number_of (u.next + 1) columns name) name)
        → IsNamedColumn (enter_public u (each (column_entry k) (c ∷ columns))) k (number_of u.next (c ∷ columns) name) name
    by true is rest =
        let column : IsNamedColumn (entered u (column_entry k c) Public) k u.next name =
        (as_element u.next (column_entry k c) Public, c.1, inserted_here u.elements u.next u.next (as_element u.next (column_entry k c) Public) refl, refl, refl, refl, (bytes_eq-Decides c.0 name).0 is) in
        subst (λ b. IsNamedColumn (enter_public u (each (column_entry k) (c ∷ columns))) k (if b then u.next else number_of (u.next + 1) columns name) name) (sym is)
        (named_stays (each (column_entry k) columns) (entered u (column_entry k c) Public) k u.next name (omega arith) column)
    by false is rest =
        subst (λ b. IsNamedColumn (enter_public u (each (column_entry k) (c ∷ columns))) k (if b then u.next else number_of (u.next + 1) columns name) name) (sym is)
        (rest (ap (λ b. b || is_among name (each (λ c. c.0) columns)) (sym is) ∙ known))

-- ---- an index lists columns by their numbers

-- two names whose columns have one number are one
same_name : (u : Version) (k m n : ℕ) (a b : List ℕ) → m ≡ n → IsNamedColumn u k m a → IsNamedColumn u k n b → a ≡ b
same_name u k m n a b is p q = sym p.6 ∙ ap (λ (e : ElementDef). e.name) (some_same (sym p.2 ∙ ap (element_at u) is ∙ q.2)) ∙ q.6

module _ (u : Version) (k first : ℕ) (columns : List (List ℕ × ColumnType)) (known : (name : List ℕ) → is_among name (each (λ c. c.0) columns) ≡ true → IsNamedColumn u k (number_of first columns name) name) where
  listed_public : (names : List (List ℕ)) → list_all (λ name. is_among name (each (λ c. c.0) columns)) names ≡ true → (column : ℕ) → Contains (each (number_of first columns) names) column → IsPublicColumn u k column
  listed_public names all column there =
      let r = from_each (number_of first columns) names column there in
      let c = known r.0 (all_says (λ name. is_among name (each (λ c. c.0) columns)) names r.0 all r.1) in
      subst (IsPublicColumn u k) r.2 (c.0, c.1, c.2, c.3, ap type_of_kind c.4, c.5)

  distinct_numbers : (names : List (List ℕ)) → is_distinct names ≡ true → list_all (λ name. is_among name (each (λ c. c.0) columns)) names ≡ true → is_distinct_numbers (each (number_of first columns) names) ≡ true
  distinct_numbers [] distinct all = refl
  distinct_numbers (name ∷ names) distinct all =
      let two = both_true (is_among name (each (λ c. c.0) columns)) (list_all (λ n. is_among n (each (λ c. c.0) columns)) names) all in
      let apart = first_apart name names distinct in
      let alone : list_any (◌==◌ (number_of first columns name)) (each (number_of first columns) names) ≡ false =
      not_true (list_any (◌==◌ (number_of first columns name)) (each (number_of first columns) names)) (λ found.
      (let r = any_says (◌==◌ (number_of first columns name)) (each (number_of first columns) names) found in
      let from = from_each (number_of first columns) names r.0 r.1 in
      let is : number_of first columns name ≡ number_of first columns from.0 = (Decides-eqb (number_of first columns name) r.0).0 r.2 ∙ sym from.2 in
      let one = same_name u k (number_of first columns name) (number_of first columns from.0) name from.0 is (known name two.0) (known from.0 (all_says (λ n. is_among n (each (λ c. c.0) columns)) names from.0 two.1 from.1)) in
      apart.0 (subst (Contains names) (sym one) from.1))) in
      ap (λ b. not b && is_distinct_numbers (each (number_of first columns) names)) alone ∙ distinct_numbers names apart.1 two.1

  pub lawful_list : (names : List (List ℕ)) → 1 ≤ length names → length names ≤ max_listed → is_distinct names ≡ true → list_all (λ name. is_among name (each (λ c. c.0) columns)) names ≡ true → IsFairKind (Index (each (number_of first columns) names))
  lawful_list names some few distinct all =
      let long = length-map names (number_of first columns) in
      (omega (arith, some, long), omega (arith, few, long), distinct_numbers names distinct all)

still_known : (columns : List (List ℕ × ColumnType)) (u : Version) (k first : ℕ) (f : NewElement) → IsSoundVersion u → ((name : List ℕ) → is_among name (each (λ c. c.0) columns) ≡ true → IsNamedColumn u k (number_of first columns name) name)
    → (name : List ℕ) → is_among name (each (λ c. c.0) columns) ≡ true → IsNamedColumn (entered u f Public) k (number_of first columns name) name
still_known columns u k first f sound known name there =
    let c = known name there in
    named_stays (f ∷ []) u k (number_of first columns name) name (sound.elements (number_of first columns name) c.0 c.2).given c

module _ (tables : List Table) (k : ℕ) (table : Table) (few_tables : k ≤ 16) (placed : (u : Version) → u.tables ≡ tables → table_at u k ≡ Some table) (def : TableDef) (first : ℕ) where
  -- all indexes enter
  pub indexes_in : (indexes : List (List ℕ × List (List ℕ))) (u : Version) → AtTable tables k (each (λ i. i.0) indexes) 0 (length indexes) u → is_distinct (each (λ i. i.0) indexes) ≡ true
      → ((name : List ℕ) → Contains (each (λ i. i.0) indexes) name → IsFresh table.key name) → AllByRecursion (IsLawfulIndex def) indexes
      → ((name : List ℕ) → is_among name (each (λ c. c.0) def.columns) ≡ true → IsNamedColumn u k (number_of first def.columns name) name)
      → AtTable tables k [] 0 0 (enter_public u (each (index_entry k first def.columns) indexes))
  indexes_in [] u at distinct fresh lawful known = at
  indexes_in (x ∷ indexes) u at distinct fresh lawful known =
      let l = lawful.0 in
      indexes_in indexes (entered u (index_entry k first def.columns x) Public)
      (index_in tables k table few_tables placed u x.0 (each (number_of first def.columns) x.1) (each (λ i. i.0) indexes) 0 (length indexes) (length (x ∷ indexes)) (omega arith) at (fresh x.0 (here x.0 (each (λ i. i.0) indexes))) distinct
      (lawful_list u k first def.columns known x.1 l.some_columns l.few_columns l.distinct l.known) (listed_public u k first def.columns known x.1 l.known))
      (first_apart x.0 (each (λ i. i.0) indexes) distinct).1
      (λ name there. fresh name (later x.0 name (each (λ i. i.0) indexes) there))
      lawful.1
      (still_known def.columns u k first (index_entry k first def.columns x) at.sound known)
