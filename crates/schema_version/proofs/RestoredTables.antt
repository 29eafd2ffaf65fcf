-- The tests of a version's tables decide what is true of those of a sound version.
use Rattle.std.proofs.Common.{◌≡◌, ℕ, ◌-◌, ◌≤◌, Bool, true, false, not, ◌&&◌, ◌==◌, List, [], ◌∷◌, length, Option, Some, None, refl, sym, ap, subst, ◌∙◌, arith, if◌then◌else◌, Contains, option_map}
use Rattle.std.specs.Prelude.{IsTrue, bytes_eq, nat_le, slice_get}
use Rattle.std.specs.Bool.{Decides}
use Rattle.std.specs.List.{list_all, AllByRecursion}
use Rattle.std.proofs.lemmas.Bool.Decides.{Decides-and, Decides-like}
use Rattle.std.proofs.lemmas.Slice.Eq.{bytes_eq-Decides}
use Rattle.std.proofs.lemmas.List.{length-map}
use Rattle.std.proofs.lemmas.Option.{slice_get-map}
use mathlib.Core.List.{map as each}
use Rattle.row_map.specs.declared.shape.ColumnType.{ColumnType}
use Rattle.schema_version.specs.declared.element.ElementDef.{ElementDef}
use Rattle.schema_version.specs.Names.{IsName, is_name, is_among, is_distinct, max_tables, max_key_columns}
use Rattle.schema_version.specs.Version.{Table, table_at, IsKeyName}
use Rattle.schema_version.specs.Sound.{IsSoundTable}
use Rattle.schema_version.specs.Restored.{Part, table_with, version_with}
use Rattle.schema_version.specs.inner.AcceptTables.{names_in}
use Rattle.schema_version.specs.inner.RestoreTests.{is_key, is_table, are_tables, part_at, key_lacks}
use Rattle.schema_version.proofs.Decides.{word, at_most, itself}
use Rattle.schema_version.proofs.Declared.{all_decides}
use Rattle.schema_version.proofs.Lists.{any_says, any_from, any_through, some_same, not_both}

-- ---- tables

fair_table : (part : Part) → Decides (is_table part) (IsSoundTable (table_with part))
fair_table part =
    let names = list_all is_name (names_in part.1) in
    let apart = is_distinct (names_in part.1) in
    Decides-like (is_table part)
    (λ (name, (some, (few, (named, distinct)))). record { name = name; some_key = some; short_key = few; names = named; distinct = distinct })
    (λ (t : IsSoundTable (table_with part)). (t.name, (t.some_key, (t.short_key, (t.names, t.distinct)))))
    (Decides-and (is_name part.0) (is_key part.1) (word part.0)
    (Decides-and (nat_le 1 (length part.1)) (nat_le (length part.1) max_key_columns && (names && apart)) (at_most 1 (length part.1))
    (Decides-and (nat_le (length part.1) max_key_columns) (names && apart) (at_most (length part.1) max_key_columns)
    (Decides-and names apart (all_decides is_name IsName word (names_in part.1)) (itself apart)))))

all_tables : (ts : List Part) → Decides (list_all is_table ts) (AllByRecursion IsSoundTable (each table_with ts))
all_tables [] = (λ e. tt, λ h. refl)
all_tables (t ∷ ts) = Decides-and (is_table t) (list_all is_table ts) (fair_table t) (all_tables ts)

names_with : (ts : List Part) → each (λ (t : Table). t.name) (each table_with ts) ≡ names_in ts
names_with [] = refl
names_with (t ∷ ts) = ap (λ l. t.0 ∷ l) (names_with ts)

pub record HasSoundTables (tables : List Table) : Type 0 where
  pub some : 1 ≤ length tables
  pub few : length tables ≤ max_tables
  pub sound : AllByRecursion IsSoundTable tables
  pub distinct : IsTrue (is_distinct (each (λ (t : Table). t.name) tables))

pub sound_tables : (ts : List Part) → Decides (are_tables ts) (HasSoundTables (each table_with ts))
sound_tables ts =
    let long = length-map ts table_with in
    Decides-like (are_tables ts)
    (λ (some, (few, (sound, distinct))). record { some = omega (arith, long, some); few = omega (arith, long, few); sound = sound; distinct = subst (λ names. IsTrue (is_distinct names)) (sym (names_with ts)) distinct })
    (λ (h : HasSoundTables (each table_with ts)). (
      (let some = h.some in omega (arith, long, some)),
      ((let few = h.few in omega (arith, long, few)), (h.sound, subst (λ names. IsTrue (is_distinct names)) (names_with ts) h.distinct)),
    ))
    (Decides-and (nat_le 1 (length ts)) (nat_le (length ts) max_tables && (list_all is_table ts && is_distinct (names_in ts))) (at_most 1 (length ts))
    (Decides-and (nat_le (length ts) max_tables) (list_all is_table ts && is_distinct (names_in ts)) (at_most (length ts) max_tables)
    (Decides-and (list_all is_table ts) (is_distinct (names_in ts)) (all_tables ts) (itself (is_distinct (names_in ts))))))

-- ---- the table of a number

pub table_is : (ts : List Part) (es : List ElementDef) (next n : ℕ) → table_at (version_with ts es next) n ≡ option_map table_with (part_at ts n)
table_is ts es next n =
    elim (n == 0) as (λ b. (if b then None else slice_get (each table_with ts) (n - 1)) ≡ option_map table_with (if b then None else slice_get ts (n - 1))) [
      | true ↦ refl
      | false ↦ slice_get-map table_with ts (n - 1)
    ]

among_key : (key : List (List ℕ × ColumnType)) (name : List ℕ) → Decides (is_among name (names_in key)) ((type : ColumnType) × Contains key (name, type))
among_key key name =
    let through = any_through (λ (c : List ℕ × ColumnType). c.0) (λ other. bytes_eq other name) key in (
      λ e. (let r = any_says (λ (c : List ℕ × ColumnType). bytes_eq c.0 name) key (through ∙ e) in (r.0.1, subst (Contains key) (λ i. ((bytes_eq-Decides r.0.0 name).0 r.2 i, r.0.1)) r.1)),
      λ (type, there). sym through ∙ any_from (λ (c : List ℕ × ColumnType). bytes_eq c.0 name) key (name, type) there ((bytes_eq-Decides name name).1 refl),
    )

unnot : (b : Bool) → not b ≡ true → b ≡ false
unnot true e = cc
unnot false e = refl

is_not : (b : Bool) → (b ≡ true → ⊥) → not b ≡ true
is_not true no_case = absurd (no_case refl)
is_not false no_case = refl

-- the table is there, and no column of its key has the name
pub lacks : (ts : List Part) (es : List ElementDef) (next n : ℕ) (name : List ℕ)
    → Decides (key_lacks (part_at ts n) name) (((table : Table) × (table_at (version_with ts es next) n ≡ Some table)) × (¬ (IsKeyName (version_with ts es next) n name)))
lacks ts es next n name = by (part_at ts n) refl
  where
    by : (o : Option Part) → part_at ts n ≡ o → Decides (key_lacks o name) (((table : Table) × (table_at (version_with ts es next) n ≡ Some table)) × (¬ (IsKeyName (version_with ts es next) n name)))
    by None is = (λ e. cc, λ ((table, at), _). let wrong : None ≡ Some table = sym (table_is ts es next n ∙ ap (option_map table_with) is) ∙ at in cc)
    by (Some part) is =
        let there : table_at (version_with ts es next) n ≡ Some (table_with part) = table_is ts es next n ∙ ap (option_map table_with) is in (
          λ e. (
            (table_with part, there),
            λ (table, type, at, key). not_both ((among_key part.1 name).1 (type, subst (λ (t : Table). Contains t.key (name, type)) (some_same (sym at ∙ there)) key)) (unnot (is_among name (names_in part.1)) e),
          ),
          λ (_, apart). is_not (is_among name (names_in part.1)) (λ e. (let r = (among_key part.1 name).0 e in apart (table_with part, r.0, there, r.1))),
        )
