-- What is true of every version is true of the declared one.
use Rattle.std.proofs.Common.{◌≡◌, ℕ, ◌+◌, ◌*◌, ◌<◌, ◌≤◌, Bool, true, false, not, ◌&&◌, ◌==◌, List, [], ◌∷◌, ◌++◌, length, Some, inl, inr, refl, sym, ap, subst, ◌∙◌, arith, Contains, append_assoc, length-append}
use Rattle.std.specs.Prelude.{IsTrue, slice_get}
use Rattle.std.specs.List.{AllByRecursion}
use Rattle.std.specs.Ordering.{nat_cmp}
use Rattle.std.specs.FinMap as map
use Rattle.std.proofs.lemmas.Bool.Decides.{Decides-eqb}
use Rattle.std.proofs.lemmas.List.{length-map}
use mathlib.Core.List.{map as each}
use Rattle.row_map.specs.declared.shape.ColumnType.{ColumnType}
use Rattle.schema_version.specs.declared.element.ElementDef.{ElementDef}
use Rattle.schema_version.specs.declared.table.TableDef.{TableDef}
use Rattle.schema_version.specs.Names.{IsName, is_among, is_distinct}
use Rattle.schema_version.specs.Version.{Version, Table, table_at, element_at, is_like, count_live}
use Rattle.schema_version.specs.Declare.{table_of, column_entry, index_entry, entries_of, enter_public, enter_tables, declared, IsLawfulTable, IsLawful}
use Rattle.schema_version.specs.inner.AcceptTables.{names_in, are_apart, has_own_names, has_names_apart, table_names}
use Rattle.schema_version.specs.Sound.{IsSoundTable, IsSoundVersion}
use Rattle.schema_version.proofs.Maps.{entries-empty}
use Rattle.schema_version.proofs.Lists.{here, later, here_or_later, not_both, all_says}
use Rattle.schema_version.proofs.Live.{live_from}
use Rattle.schema_version.proofs.Tables.{table_at-place}
use Rattle.schema_version.proofs.Declared.{both_true, and_true, distinct_append, distinct_names}
use Rattle.schema_version.proofs.TableMoves.{public_append}
use Rattle.schema_version.proofs.Changes.{none_there}
use Rattle.schema_version.proofs.Counts.{count, count_none}
use Rattle.schema_version.proofs.Enters.{AtTable, IsFresh, among, not_true, unnot, columns_in, indexes_in, numbered_columns}

-- ---- lists

each_has : {X Y : Type 0} (f : X → Y) (xs : List X) (x : X) → Contains xs x → Contains (each f xs) (f x)
each_has f [] x (k, below, is) = absurd (omega (arith, below))
each_has f (y ∷ xs) x there =
    elim (here_or_later y x xs there) [
      | inl is ↦ subst (λ z. Contains (f y ∷ each f xs) (f z)) is (here (f y) (each f xs))
      | inr more ↦ later (f y) (f x) (each f xs) (each_has f xs x more)
    ]

pub all_has : {X : Type 0} (P : X → Type 0) (xs : List X) (x : X) → AllByRecursion P xs → Contains xs x → P x
all_has P [] x all (k, below, is) = absurd (omega (arith, below))
all_has P (y ∷ xs) x all there =
    elim (here_or_later y x xs there) [
      | inl is ↦ subst P is all.0
      | inr more ↦ all_has P xs x all.1 more
    ]

all_parts : {X : Type 0} (P : X → Type 0) (xs ys : List X) → AllByRecursion P (xs ++ ys) → AllByRecursion P xs × AllByRecursion P ys
all_parts P [] ys all = (tt, all)
all_parts P (x ∷ xs) ys all = let r = all_parts P xs ys all.1 in ((all.0, r.0), r.1)

slice_middle : {X : Type 0} (before : List X) (x : X) (after : List X) → slice_get (before ++ x ∷ after) (length before) ≡ Some x
slice_middle [] x after = refl
slice_middle (y ∷ before) x after = slice_middle before x after

names_held : (ts : List TableDef) → each (λ (t : Table). t.name) (each table_of ts) ≡ table_names ts
names_held [] = refl
names_held (t ∷ ts) = ap (λ l. t.name ∷ l) (names_held ts)

-- ---- the names of a lawful table

-- each name is lawful, and none of these is a key column's
fresh_names : (t : TableDef) (names : List (List ℕ)) → AllByRecursion IsName names → are_apart (names_in t.key) names ≡ true → (name : List ℕ) → Contains names name → IsFresh t.key name
fresh_names t names lawful apart name there =
    record {
      named = all_has IsName names name lawful there;
      apart = λ type key.
          not_both (among names name there)
          (unnot (is_among name names) (all_says (λ n. not (is_among n names)) (names_in t.key) name apart (each_has (λ (c : List ℕ × ColumnType). c.0) t.key (name, type) key)));
    }

pub record HasNames (t : TableDef) : Type 0 where
  key : AllByRecursion IsName (names_in t.key)
  columns : AllByRecursion IsName (names_in t.columns)
  indexes : AllByRecursion IsName (names_in t.indexes)
  distinct_key : is_distinct (names_in t.key) ≡ true
  distinct_indexes : is_distinct (names_in t.indexes) ≡ true
  distinct : is_distinct (names_in t.columns ++ names_in t.indexes) ≡ true
  columns_apart : are_apart (names_in t.key) (names_in t.columns) ≡ true
  indexes_apart : are_apart (names_in t.key) (names_in t.indexes) ≡ true

has_names : (t : TableDef) → IsLawfulTable t → HasNames t
has_names t l =
    let k = names_in t.key in
    let c = names_in t.columns in
    let i = names_in t.indexes in
    let all = all_parts IsName (k ++ c) i l.names in
    let prefix = all_parts IsName k c all.0 in
    let two = both_true (has_own_names t) (has_names_apart t) (sym (distinct_names t) ∙ l.distinct) in
    let own = both_true (is_distinct k) (is_distinct c && is_distinct i) two.0 in
    let own_2 = both_true (is_distinct c) (is_distinct i) own.1 in
    let apart = both_true (are_apart k c) (are_apart k i && are_apart c i) two.1 in
    let apart_2 = both_true (are_apart k i) (are_apart c i) apart.1 in
    record {
      key = prefix.0;
      columns = prefix.1;
      indexes = all.1;
      distinct_key = own.0;
      distinct_indexes = own_2.1;
      distinct = distinct_append c i ∙ and_true (is_distinct c) (is_distinct i && are_apart c i) own_2.0 (and_true (is_distinct i) (are_apart c i) own_2.1 apart_2.1);
      columns_apart = apart.0;
      indexes_apart = apart_2.0;
    }

sound_table : (t : TableDef) → IsLawfulTable t → IsSoundTable (table_of t)
sound_table t l = let n = has_names t l in record { name = l.name; some_key = l.some_key; short_key = l.short_key; names = n.key; distinct = n.distinct_key }

sound_tables : (ts : List TableDef) → AllByRecursion IsLawfulTable ts → AllByRecursion IsSoundTable (each table_of ts)
sound_tables [] all = tt
sound_tables (t ∷ ts) all = (sound_table t all.0, sound_tables ts all.1)

-- ---- between two tables

record Between (tables : List Table) (k : ℕ) (u : Version) : Type 0 where
  sound : IsSoundVersion u
  same : u.tables ≡ tables
  below : (n : ℕ) (e : ElementDef) → element_at u n ≡ Some e → e.table < k
  next : u.next + 48 ≤ 1 + 48 * k

none_counted : (tables : List Table) (k : ℕ) (u : Version) (index : Bool) → Between tables k u → count_live u k index ≡ 0
none_counted tables k u index at =
    count_none (λ (e : ElementDef). (e.table == k) && is_like index e.kind) (map.entries u.elements) (λ e there.
    (let from = live_from u e there in
    let lt = at.below from.0 e from.1 in
    ap (λ b. b && is_like index e.kind) (not_true (e.table == k) (λ is. (let same = (Decides-eqb e.table k).0 is in absurd (omega (arith, lt, same)))))))

table_in : (tables : List Table) (k : ℕ) (u : Version) (t : TableDef) → k ≤ 16 → ((w : Version) → w.tables ≡ tables → table_at w k ≡ Some (table_of t)) → IsLawfulTable t → Between tables k u → Between tables (k + 1) (enter_public u (entries_of k u.next t))
table_in tables k u t few placed l at =
    let n = has_names t l in
    let begin : AtTable tables k (names_in t.columns ++ names_in t.indexes) (length t.columns) (length t.indexes) u =
    record {
      sound = at.sound;
      same = at.same;
      below = λ m e there. (let lt = at.below m e there in omega (arith, lt));
      free = λ m e there own name. (let lt = at.below m e there in absurd (omega (arith, lt, own)));
      room_columns = (let none = none_counted tables k u false at in let most = l.few_columns in omega (arith, none, most));
      room_indexes = (let none = none_counted tables k u true at in let most = l.few_indexes in omega (arith, none, most));
      next = (let next = at.next in let a = l.few_columns in let b = l.few_indexes in omega (arith, next, a, b));
    } in
    let columns = columns_in tables k (table_of t) few placed t.columns (names_in t.indexes) (length t.indexes) u begin n.distinct (fresh_names t (names_in t.columns) n.columns n.columns_apart) in
    let indexes = indexes_in tables k (table_of t) few placed t u.next t.indexes (enter_public u (each (column_entry k) t.columns)) columns n.distinct_indexes (fresh_names t (names_in t.indexes) n.indexes n.indexes_apart) l.indexes
    (numbered_columns t.columns u k) in
    subst (Between tables (k + 1)) (sym (public_append u (each (column_entry k) t.columns) (each (index_entry k u.next t.columns) t.indexes)))
    (record {
      sound = indexes.sound;
      same = indexes.same;
      below = indexes.below;
      next = (let next = indexes.next in omega (arith, next));
    })

all_in : (ts : List TableDef) (before : List Table) (tables : List Table) (k : ℕ) (u : Version) → tables ≡ before ++ each table_of ts → k ≡ length before + 1 → length before + length ts ≤ 16 → AllByRecursion IsLawfulTable ts → Between tables k u → IsSoundVersion (enter_tables k u ts)
all_in [] before tables k u split is few lawful at = at.sound
all_in (t ∷ ts) before tables k u split is few lawful at =
    all_in ts (before ++ table_of t ∷ []) tables (k + 1) (enter_public u (entries_of k u.next t)) (split ∙ sym (append_assoc before (table_of t ∷ []) (each table_of ts)))
    (let long = length-append before (table_of t ∷ []) in omega (arith, is, long))
    (let long = length-append before (table_of t ∷ []) in omega (arith, few, long))
    lawful.1
    (table_in tables k u t (omega (arith, is, few))
    (λ w same. sym (table_at-place w k (length before) (omega (arith, is)) (omega (arith, is))) ∙ ap (λ l. slice_get l (length before)) (same ∙ split) ∙ slice_middle before (table_of t) (each table_of ts))
    lawful.0 at)

pub nothing_yet : (n : ℕ) (e : ElementDef) → map.get (map.empty {R = nat_cmp}) n ≡ Some e → ⊥
nothing_yet n e there = none_there e (map.get (map.empty {R = nat_cmp}) n) (map.get-empty nat_cmp n) there

abbrev start : List TableDef → Version
start ts = record { tables = each table_of ts; elements = map.empty; next = 1 }

start_sound : (ts : List TableDef) → IsLawful ts → IsSoundVersion (start ts)
start_sound ts l =
    record {
      begun = omega arith;
      few_elements = omega arith;
      some_tables = (let long = length-map ts table_of in let some = l.some_tables in omega (arith, long, some));
      few_tables = (let long = length-map ts table_of in let few = l.few_tables in omega (arith, long, few));
      tables = sound_tables ts l.lawful;
      table_names = subst (λ names. IsTrue (is_distinct names)) (sym (names_held ts)) l.distinct;
      elements = λ n e there. absurd (nothing_yet n e there);
      names = λ m n d e there _ _ _. absurd (nothing_yet m d there);
      counts = λ table index. (let none = ap (count (λ (e : ElementDef). (e.table == table) && is_like index e.kind)) (entries-empty nat_cmp) in omega (arith, none));
    }

pub declared_sound : (ts : List TableDef) → IsLawful ts → IsSoundVersion (declared ts)
declared_sound ts l =
    all_in ts [] (each table_of ts) 1 (start ts) refl refl (let few = l.few_tables in omega (arith, few)) l.lawful
    (record {
      sound = start_sound ts l;
      same = refl;
      below = λ n e there. absurd (nothing_yet n e there);
      next = omega arith;
    })
