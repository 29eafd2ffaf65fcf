-- A copy of the tables.
use Rattle.std.proofs.Common.{◌≡◌, ℕ, List, [], ◌∷◌, refl, String}
use Rattle.std.specs.List.{AllZip}
use Rattle.std.specs.String.{string_bytes}
use mathlib.Core.List.{map as each}
use Rattle.row_map.specs.declared.shape.ColumnType.{ColumnType}
use Rattle.schema_version.specs.Held.{table_held}

pub same_tables : {Y : Type 0} {C : String Y → String Y → Type 0} {D : List (List ℕ × ColumnType) → List (List ℕ × ColumnType) → Type 0} (es fs : List (String Y × List (List ℕ × ColumnType)))
    → ((s t : String Y) → C s t → string_bytes t ≡ string_bytes s)
    → ((xs ys : List (List ℕ × ColumnType)) → D xs ys → ys ≡ xs)
    → AllZip (λ p q. C p.0 q.0 × D p.1 q.1) es fs → each (table_held {Y = Y}) fs ≡ each (table_held {Y = Y}) es
same_tables [] [] names keys h = refl
same_tables [] (f ∷ fs) names keys h = absurd h
same_tables (e ∷ es) [] names keys h = absurd h
same_tables (e ∷ es) (f ∷ fs) names keys h = λ i. record { name = names e.0 f.0 h.0.0 i; key = keys e.1 f.1 h.0.1 i } ∷ same_tables es fs names keys h.1 i

pub same_pairs : {A B : Type 0} (xs ys : List (A × B)) → AllZip (λ x y. (y.0 ≡ x.0) × (y.1 ≡ x.1)) xs ys → ys ≡ xs
same_pairs [] [] h = refl
same_pairs [] (y ∷ ys) h = absurd h
same_pairs (x ∷ xs) [] h = absurd h
same_pairs (x ∷ xs) (y ∷ ys) h = λ i. (h.0.0 i, h.0.1 i) ∷ same_pairs xs ys h.1 i
