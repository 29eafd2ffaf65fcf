-- What the core wants of a version is true of every sound one.
use Rattle.std.proofs.Common.{◌≡◌, ℕ, zero, suc, ◌+◌, ◌<◌, ◌-◌, List, [], ◌∷◌, length, Option, Some, None, option_map, refl, sym, subst, ◌∙◌, Bool, true, false, cond, arith}
use Rattle.std.specs.Prelude.{slice_get, ◌==◌, if◌then◌else◌}
use Rattle.std.specs.List.{AllByRecursion}
use Rattle.std.specs.FinMap.{nat_cmp-IsAntisymmetric}
use Rattle.std.specs.Cmp.{Equal-is}
use Rattle.std.specs.Ordering.{nat_cmp, eq_by_cmp}
use Rattle.schema_version.specs.declared.element.ElementDef.{ElementDef}
use Rattle.schema_version.specs.Sound.{IsSoundTable, IsSoundElement, IsSoundVersion}
use Rattle.schema_version.specs.Version.{Version, Table, element_at}
use Rattle.element_state.proofs.Sources.{lawful_source}
use Rattle.element_state.specs.Schemas.{Entry, AreLawful}
use Rattle.element_state.specs.Versions.{ElementKind, the_kinds, schema_of, entry_of, row_entry, IsLawful}
use Rattle.element_state.proofs.Versions.{get-schema_of}
use Rattle.replay.specs.inner.Small.{AreTablesSmall, AreNumbersFit}

none_some : {A B : Type 0} (v : A) → None ≡ Some v → B
none_some v e = absurd cc

some_one : {A : Type 0} (v w : A) → Some v ≡ Some w → v ≡ w
some_one v w e = cc

pub fits : (version : Version) → IsSoundVersion version → AreNumbersFit version
fits version sound number element at =
    let e = sound.elements number element at in
    (e.first, omega (arith, e.given, sound.few_elements))

-- the element of a list at a place
at_place : {A : Type 0} (P : A → Type 0) (xs : List A) (i : ℕ) (x : A) → AllByRecursion P xs → slice_get xs i ≡ Some x → P x × (i < length xs)
at_place P [] i x all at = none_some x at
at_place P (y ∷ ys) zero x all at = (subst P (some_one y x at) all.0, omega arith)
at_place P (y ∷ ys) (suc i) x all at = let rest = at_place P ys i x all.1 at in (rest.0, omega (arith, rest.1))

table_in : (tables : List Table) (number : ℕ) (table : Table) → AllByRecursion IsSoundTable tables → (if number == 0 then None else slice_get tables (number - 1)) ≡ Some table → IsSoundTable table × (number < length tables + 1)
table_in tables number table all at = by (number == 0) at
  where
    by : (b : Bool) → (if b then None else slice_get tables (number - 1)) ≡ Some table → IsSoundTable table × (number < length tables + 1)
    by true e = none_some table e
    by false e = let found = at_place IsSoundTable tables (number - 1) table all e in (found.0, omega (arith, found.1))

pub small : (version : Version) → IsSoundVersion version → AreTablesSmall version
small version sound number table at =
    let found = table_in version.tables number table sound.tables at in
    (omega (arith, found.1, sound.few_tables), found.0.some_key, found.0.short_key)

pub lawful_entry : (version : Version) → IsSoundVersion version → (n : ℕ) (d : ElementDef) → element_at version n ≡ Some d → IsLawful n (entry_of version d).kind
lawful_entry version sound n d at =
    let e : IsSoundElement version n d = sound.elements n d at in
    let fit = fits version sound n d at in
    let t = small version sound d.table e.placed.0 e.placed.1 in
    let tables = table_in version.tables d.table e.placed.0 sound.tables e.placed.1 in
    record {
      range = record { number_below = omega (arith, fit.1); table_below = omega (arith, tables.1, sound.few_tables) };
      lawful = lawful_source version (λ m x there. (sound.elements m x there).fair) n fit.0 fit.1 d.kind e.fair;
    }

pub lawful : (version : Version) → IsSoundVersion version → AreLawful the_kinds (schema_of version)
lawful version sound n e at = by (eq_by_cmp nat_cmp n 0) (element_at version n) refl refl (sym (get-schema_of version n) ∙ at)
  where
    by : (b : Bool) (o : Option ElementDef) → eq_by_cmp nat_cmp n 0 ≡ b → element_at version n ≡ o → cond b (Some row_entry) (option_map (entry_of version) o) ≡ Some e → IsLawful n e.kind
    by true o zero_is known is = subst (λ (x : Entry ElementKind). IsLawful n x.kind) (some_one row_entry e is) (nat_cmp-IsAntisymmetric n 0 ((Equal-is (nat_cmp n 0)).0 zero_is))
    by false None zero_is known is = none_some e is
    by false (Some d) zero_is known is = subst (λ (x : Entry ElementKind). IsLawful n x.kind) (some_one (entry_of version d) e is) (lawful_entry version sound n d known)
