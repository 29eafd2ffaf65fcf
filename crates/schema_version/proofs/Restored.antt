-- The tests of a version's parts decide whether they are restorable, and what is held is the version with these parts.
use Rattle.std.proofs.Common.{◌≡◌, ℕ, ◌+◌, true, ◌&&◌, List, [], ◌∷◌, length, Option, Some, None, refl, sym, ap, subst, ◌∙◌, arith, Contains, option_map, is_some}
use Rattle.std.specs.Prelude.{nat_le}
use Rattle.std.specs.Bool.{Decides}
use Rattle.std.specs.List.{list_all, AllByRecursion}
use Rattle.std.specs.Ordering.{nat_cmp}
use Rattle.std.specs.FinMap as map
use Rattle.std.specs.Map.{keys_of, values_of}
use Rattle.std.specs.String.{string_bytes}
use Rattle.std.specs.declared.string.String.{String}
use mathlib.Core.List.{map as each}
use Rattle.row_map.specs.declared.shape.ColumnType.{ColumnType}
use Rattle.schema_version.specs.declared.element.ElementDef.{ElementDef}
use Rattle.schema_version.specs.Names.{is_distinct, max_tables, max_elements}
use Rattle.schema_version.specs.Version.{Version, Table, table_at, element_at, live}
use Rattle.schema_version.specs.Sound.{IsSoundElement, IsSoundVersion}
use Rattle.schema_version.specs.Held.{table_held, IsNumbered, IsHeld}
use Rattle.schema_version.specs.Restored.{Part, AreRising, numbered, table_with, part_of, version_with, IsRestorable, PartsAreExact}
use Rattle.schema_version.specs.inner.AcceptTables.{names_in}
use Rattle.schema_version.specs.inner.RestoreTests.{is_table, are_tables, part_at, is_placed, have_room, rise_from, is_fair_element, have_own_names, paired, are_few, are_fair, are_parts}
use Rattle.schema_version.proofs.Decides.{at_most}
use Rattle.schema_version.proofs.Declared.{both_true, and_true}
use Rattle.schema_version.proofs.DeclaredSound.{all_has}
use Rattle.schema_version.proofs.Lists.{here, later}
use Rattle.schema_version.proofs.Rising.{InRange, rising, sorted_of, numbered_live, live_rising}
use Rattle.schema_version.proofs.RestoredTables.{sound_tables, table_is}
use Rattle.schema_version.proofs.RestoredElements.{all_of_them, IsFair, fair_element, at_from, at_to, live_is, names_apart, own_names, apart_names, counts_of, room_from}

module _ (ts : List Part) (es : List ElementDef) (next : ℕ) where
  abbrev Whole : Version
  Whole = version_with ts es next

  -- all tests passed, one by one
  record Pass : Type 0 where
    begun : nat_le 1 next ≡ true
    few : nat_le next (max_elements + 1) ≡ true
    tables : are_tables ts ≡ true
    placed : list_all (is_placed ts) es ≡ true
    room : have_room 1 ts es ≡ true
    rise : rise_from 1 next es ≡ true
    fair : list_all (is_fair_element ts es) es ≡ true
    names : have_own_names es ≡ true

  passed : are_parts ts es next ≡ true → Pass
  passed e =
      let whole = both_true (are_few ts es next) (are_fair ts es next) e in
      let a = both_true (nat_le 1 next) (nat_le next (max_elements + 1) && (are_tables ts && (list_all (is_placed ts) es && have_room 1 ts es))) whole.0 in
      let b = both_true (nat_le next (max_elements + 1)) (are_tables ts && (list_all (is_placed ts) es && have_room 1 ts es)) a.1 in
      let c = both_true (are_tables ts) (list_all (is_placed ts) es && have_room 1 ts es) b.1 in
      let d = both_true (list_all (is_placed ts) es) (have_room 1 ts es) c.1 in
      let f = both_true (rise_from 1 next es) (list_all (is_fair_element ts es) es && have_own_names es) whole.1 in
      let g = both_true (list_all (is_fair_element ts es) es) (have_own_names es) f.1 in
      record { begun = a.0; few = b.0; tables = c.0; placed = d.0; room = d.1; rise = f.0; fair = g.0; names = g.1 }

  passing : Pass → are_parts ts es next ≡ true
  passing p =
      and_true (are_few ts es next) (are_fair ts es next)
      (and_true (nat_le 1 next) (nat_le next (max_elements + 1) && (are_tables ts && (list_all (is_placed ts) es && have_room 1 ts es))) p.begun
      (and_true (nat_le next (max_elements + 1)) (are_tables ts && (list_all (is_placed ts) es && have_room 1 ts es)) p.few
      (and_true (are_tables ts) (list_all (is_placed ts) es && have_room 1 ts es) p.tables
      (and_true (list_all (is_placed ts) es) (have_room 1 ts es) p.placed p.room))))
      (and_true (rise_from 1 next es) (list_all (is_fair_element ts es) es && have_own_names es) p.rise
      (and_true (list_all (is_fair_element ts es) es) (have_own_names es) p.fair p.names))

  sound_element : (up : AreRising es) → AllByRecursion (InRange 1 next) es → ((e : ElementDef) → Contains es e → IsFair ts es next up e) → (n : ℕ) (e : ElementDef) → element_at Whole n ≡ Some e → IsSoundElement Whole n e
  sound_element up range fair n e at =
      let there = at_from ts es next up n e at in
      let own = there.1 in
      let given = all_has (InRange 1 next) es e range there.0 in
      let f = fair e there.0 in
      record {
        own = own;
        first = omega (arith, own, given.0);
        given = omega (arith, own, given.1);
        live = f.0.0;
        possible = f.0.1.0;
        way = f.0.1.1;
        named = f.1.0;
        placed = f.1.1.0.0;
        apart = f.1.1.0.1;
        fair = f.1.1.1.0;
        columns = f.1.1.1.1;
      }

  restorable : Pass → IsRestorable ts es next
  restorable p =
      let numbers = (rising 1 next es).0 p.rise in
      let up = numbers.1 in
      let tables = (sound_tables ts).0 p.tables in
      record {
        rising = up;
        sound = record {
          begun = (at_most 1 next).0 p.begun;
          few_elements = (at_most next (max_elements + 1)).0 p.few;
          some_tables = tables.some;
          few_tables = tables.few;
          tables = tables.sound;
          table_names = tables.distinct;
          elements = sound_element up numbers.0 ((all_of_them (is_fair_element ts es) (IsFair ts es next up) (fair_element ts es next up) es).0 p.fair);
          names = own_names ts es next up ((names_apart ts es next up es).0 p.names);
          counts = counts_of ts es next up p.placed p.room;
        };
      }

  is_there : (e : ElementDef) (table : Table) → table_at Whole e.table ≡ Some table → is_placed ts e ≡ true
  is_there e table at = by (part_at ts e.table) (sym (table_is ts es next e.table) ∙ at)
    where
      by : (o : Option Part) → option_map table_with o ≡ Some table → is_some o ≡ true
      by None wrong = cc
      by (Some part) is = refl

  in_range : (list : List ElementDef) → ((e : ElementDef) → Contains list e → InRange 1 next e) → AllByRecursion (InRange 1 next) list
  in_range [] f = tt
  in_range (e ∷ list) f = (f e (here e list), in_range list (λ x there. f x (later e x list there)))

  restored_passes : IsRestorable ts es next → Pass
  restored_passes r =
      let up = r.rising in
      let at : (e : ElementDef) → Contains es e → IsSoundElement Whole e.number e = λ e there. r.sound.elements e.number e (at_to ts es next up e there) in
      record {
        begun = (at_most 1 next).1 r.sound.begun;
        few = (at_most next (max_elements + 1)).1 r.sound.few_elements;
        tables = (sound_tables ts).1 (record { some = r.sound.some_tables; few = r.sound.few_tables; sound = r.sound.tables; distinct = r.sound.table_names });
        placed = (all_of_them (is_placed ts) (λ e. is_placed ts e ≡ true) (λ e. (λ b. b, λ b. b)) es).1 (λ e there. (let s = at e there in is_there e s.placed.0 s.placed.1));
        room = room_from ts es next up r.sound.counts;
        rise = (rising 1 next es).1 (in_range es (λ e there. (let s = at e there in (s.first, s.given))), up);
        fair = (all_of_them (is_fair_element ts es) (IsFair ts es next up) (fair_element ts es next up) es).1
            (λ e there. (let s = at e there in ((s.live, (s.possible, s.way)), (s.named, ((s.placed, s.apart), (s.fair, s.columns))))));
        names = (names_apart ts es next up es).1 (apart_names ts es next up r.sound.names);
      }

  pub decides : Decides (are_parts ts es next) (IsRestorable ts es next)
  decides = (λ e. restorable (passed e), λ r. passing (restored_passes r))

  pub distinct_tables : are_parts ts es next ≡ true → is_distinct (names_in ts) ≡ true
  distinct_tables e = (both_true (list_all is_table ts) (is_distinct (names_in ts)) (both_true (nat_le (length ts) max_tables) (list_all is_table ts && is_distinct (names_in ts)) (both_true (nat_le 1 (length ts)) (nat_le (length ts) max_tables && (list_all is_table ts && is_distinct (names_in ts))) (passed e).tables).1).1).1

  pub rise : are_parts ts es next ≡ true → rise_from 1 next es ≡ true
  rise e = (passed e).rise

  pub held : IsRestorable ts es next → IsHeld (numbered es) next
  held r =
      record {
        rising = sorted_of es r.rising;
        numbered = all_held es ((rising 1 next es).0 (restored_passes r).rise).0;
        begun = r.sound.begun;
        few = r.sound.few_elements;
      }
    where
      all_held : (list : List ElementDef) → AllByRecursion (InRange 1 next) list → AllByRecursion (IsNumbered next) (numbered list)
      all_held [] all = tt
      all_held (e ∷ list) all = (record { above = all.0.0; given = all.0.1; own = refl }, all_held list all.1)

-- ---- parts and versions

tables_back : (ts : List Table) → each table_with (each part_of ts) ≡ ts
tables_back [] = refl
tables_back (t ∷ ts) = ap (λ l. t ∷ l) (tables_back ts)

parts_back : (ts : List Part) → each part_of (each table_with ts) ≡ ts
parts_back [] = refl
parts_back (t ∷ ts) = ap (λ l. t ∷ l) (parts_back ts)

module _ (v : Version) (sound : IsSoundVersion v) where
  own : (n : ℕ) (e : ElementDef) → element_at v n ≡ Some e → e.number ≡ n
  own n e at = (sound.elements n e at).own

  elements_back : map.from_sorted (numbered (live v)) ≡ v.elements
  elements_back = map.same_entries_map _ _ (map.entries-from_sorted nat_cmp (numbered (live v)) (sorted_of (live v) (live_rising v own)) ∙ numbered_live v own)

  whole : version_with (each part_of v.tables) (live v) v.next ≡ v
  whole = λ i. record { tables = tables_back v.tables i; elements = elements_back i; next = v.next }

  of_sound : IsRestorable (each part_of v.tables) (live v) v.next
  of_sound = record { rising = live_rising v own; sound = subst IsSoundVersion (sym whole) sound }

pub parts_are_exact : PartsAreExact
parts_are_exact =
    record {
      restorable = of_sound;
      whole = whole;
      tables = λ tables elements next. parts_back tables;
      live = λ tables elements next up. live_is tables elements next up;
    }

-- the parts of the tables that are held
pub held_parts : {Y : Type 0} (es : List (String Y × List (List ℕ × ColumnType))) → paired (each string_bytes (keys_of es)) (values_of es) ≡ each part_of (each table_held es)
held_parts [] = refl
held_parts (e ∷ es) = ap (λ l. (string_bytes e.0, e.1) ∷ l) (held_parts es)
