-- Tables by their numbers and names.
use Rattle.std.proofs.Common.{◌≡◌, ℕ, zero, suc, ◌+◌, ◌-◌, ◌≤◌, List, [], ◌∷◌, Some, None, inl, inr, refl, sym, ap, ◌∙◌, arith, if◌then◌else◌, String, filter, option_map}
use Rattle.std.specs.Prelude.{slice_get, position, bytes_eq}
use Rattle.std.specs.String.{string_bytes}
use Rattle.std.specs.Map.{keys_of}
use Rattle.std.proofs.lemmas.Bool.Decides.{eqb_tells}
use Rattle.row_map.specs.declared.shape.ColumnType.{ColumnType}
use mathlib.Core.List.{map as each}
use Rattle.schema_version.specs.declared.element.ElementDef.{ElementDef}
use Rattle.schema_version.specs.Version.{Version, Table, table_at, live, is_in, grouped}
use Rattle.schema_version.specs.Held.{table_held}
use Rattle.schema_version.proofs.Entries.{position_through}

pub table_at-place : (v : Version) (n place : ℕ) → 1 ≤ n → place ≡ n - 1 → slice_get v.tables place ≡ table_at v n
table_at-place v n place some is =
    elim (eqb_tells n 0) [
      | inl p ↦ absurd (omega (arith, p.1))
      | inr p ↦ ap (slice_get v.tables) is ∙ sym (ap (λ b. if b then None else slice_get v.tables (n - 1)) p.0)
    ]

pub named_place : {Y : Type 0} (name : List ℕ) (es : List (String Y × List (List ℕ × ColumnType)))
    → position (λ k. bytes_eq name (string_bytes k)) (keys_of es) ≡ position (λ (t : Table). bytes_eq name t.name) (each table_held es)
named_place {Y} name es =
    sym (position_through (λ (e : String Y × List (List ℕ × ColumnType)). e.0) (λ k. bytes_eq name (string_bytes k)) es)
    ∙ position_through (table_held {Y = Y}) (λ (t : Table). bytes_eq name t.name) es

-- the elements of the table at a place
pub grouped_at : {A : Type 0} (number : ℕ) (elements : List ElementDef) (tables : List A) (place : ℕ)
    → slice_get (grouped number elements tables) place ≡ option_map (λ _. filter (is_in (number + place)) elements) (slice_get tables place)
grouped_at number elements [] place = refl
grouped_at number elements (table ∷ tables) zero = ap (λ n. Some (filter (is_in n) elements)) (omega arith)
grouped_at number elements (table ∷ tables) (suc place) =
    grouped_at (number + 1) elements tables place
    ∙ ap (λ n. option_map (λ _. filter (is_in n) elements) (slice_get tables place)) (omega arith)

-- what the tables are like does not matter
pub grouped_each : {A B : Type 0} (f : A → B) (number : ℕ) (elements : List ElementDef) (tables : List A) → grouped number elements (each f tables) ≡ grouped number elements tables
grouped_each f number elements [] = refl
grouped_each f number elements (table ∷ tables) = ap (λ groups. filter (is_in number) elements ∷ groups) (grouped_each f (number + 1) elements tables)

-- the elements of the table of a number, which stands at a place
pub grouped_place : (v : Version) (n place : ℕ) → 1 ≤ n → place ≡ n - 1
    → slice_get (grouped 1 (live v) v.tables) place ≡ option_map (λ _. filter (is_in n) (live v)) (table_at v n)
grouped_place v n place some is =
    grouped_at 1 (live v) v.tables place
    ∙ ap (λ m. option_map (λ _. filter (is_in m) (live v)) (slice_get v.tables place)) (omega (arith, some, is))
    ∙ ap (option_map (λ _. filter (is_in n) (live v))) (table_at-place v n place some is)
