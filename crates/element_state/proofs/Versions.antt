-- What a version tells of its elements, and where rows have their pairs.
use Rattle.std.specs.Prelude.{◌≡◌, ℕ, IsTrue, Bool, true, false, cond, List, [], ◌∷◌, Option, Some, None, option_map, refl}
use mathlib.Core.List.{map as each}
use Rattle.std.specs.Cmp.{nat_cmp_total}
use Rattle.std.specs.Ordering.{nat_cmp, eq_by_cmp}
use Rattle.std.specs.FinMap.{get, find, entries, get-entries, get-from_entries}
use Rattle.std.proofs.Common.{sym, ap, subst, ◌∙◌, eqb-true}
use Rattle.row_map.specs.declared.key.KeyOf.TheVariants.{Exists}
use Rattle.row_map.specs.Keys.{IsKey}
use Rattle.row_map.specs.Rows.{RowKey, Cells, Rows, Pairs, AreStorable}
use Rattle.element_state.specs.Sources.{Source}
use Rattle.schema_version.specs.declared.element.ElementDef.{ElementDef}
use Rattle.schema_version.specs.Version.{Version}
use Rattle.element_state.specs.Elements.{IsFromScratch, Exact, owner, owner_named}
use Rattle.element_state.specs.lemmas.Effects.{none_where}
use Rattle.element_state.specs.Exists.{exists_meaning, row_key}
use Rattle.element_state.specs.lemmas.ExistsLaws.{one_key}
use Rattle.element_state.specs.Core.{MeetsAll, Meets}
use Rattle.element_state.specs.lemmas.Apart.{not_none}
use Rattle.element_state.specs.Versions.{meaning_of, the_kinds, entry_of, row_entry, schema_of, Of}

-- only rows of its table have an element's pairs
pub one_table : (number table : ℕ) (source : Source) (t : ℕ) → IsTrue ((meaning_of number (Of table source)).serves t) → t ≡ table
one_table number table source t e = eqb-true t table e

map_cond : {A B : Type 0} (f : A → B) (b : Bool) (x : A) (o : Option A) → cond b (Some (f x)) (option_map f o) ≡ option_map f (cond b (Some x) o)
map_cond f true x o = refl
map_cond f false x o = refl

find-each : (version : Version) (n : ℕ) (es : List (ℕ × ElementDef)) → find nat_cmp n (each (λ (e : ℕ × ElementDef). (e.0, entry_of version e.1)) es) ≡ option_map (entry_of version) (find nat_cmp n es)
find-each version n [] = refl
find-each version n (e ∷ es) = ap (cond (eq_by_cmp nat_cmp n e.0) (Some (entry_of version e.1))) (find-each version n es) ∙ map_cond (entry_of version) (eq_by_cmp nat_cmp n e.0) e.1 (find nat_cmp n es)

pub get-schema_of : (version : Version) (n : ℕ) → get (schema_of version) n ≡ cond (eq_by_cmp nat_cmp n 0) (Some row_entry) (option_map (entry_of version) (get version.elements n))
get-schema_of version n =
    get-from_entries nat_cmp_total ((0, row_entry) ∷ each (λ (e : ℕ × ElementDef). (e.0, entry_of version e.1)) (entries version.elements)) n
    ∙ ap (cond (eq_by_cmp nat_cmp n 0) (Some row_entry)) (find-each version n (entries version.elements) ∙ ap (option_map (entry_of version)) (sym (get-entries version.elements n)))

-- ---- what consistency says of the rows

pub exists_exact : (version : Version) (P : Pairs) (R : Rows) → MeetsAll the_kinds (schema_of version) P R → Exact exists_meaning P R
exists_exact version P R all = subst (λ o. Meets the_kinds 0 o P R) (get-schema_of version 0) (all 0)

-- a row is there exactly when its `exists` pair is, which has no value
pub row_there : (version : Version) (P : Pairs) (R : Rows) → MeetsAll the_kinds (schema_of version) P R → (k : RowKey) (r : Cells) → get R k ≡ Some r → get P (row_key k) ≡ Some []
row_there version P R all k r at = (exists_exact version P R all).covered k r [] at refl

pub row_missing : (version : Version) (P : Pairs) (R : Rows) → AreStorable R → MeetsAll the_kinds (schema_of version) P R → (k : RowKey) → IsKey (Exists k.0 k.1) → get R k ≡ None → get P (row_key k) ≡ None
row_missing version P R held all k form none = none_where (get P (row_key k)) (λ v is.
    let own : owner (row_key k) ≡ Some 0 = owner_named 0 (row_key k) (record { key = Exists k.0 k.1; form = form; encoded = refl; names = refl }) in
    let s : IsFromScratch exists_meaning R (row_key k) v = (exists_exact version P R all).subset (row_key k) v own is in
    let same : s.key ≡ k = one_key s.key k (held s.key s.cells s.there).table (held s.key s.cells s.there).primary form s.key_is in
    not_none s.cells (get R k) (ap (get R) (sym same) ∙ s.there) none)
