-- Texts that are in a row.
use Rattle.std.proofs.Common.{◌≡◌, ℕ, List, [], ◌∷◌, ◌++◌, Result, Ok, Err, IfOk, codes, ap, refl, ◌∙◌}
use Rattle.std.specs.Prelude.{flat_map}
use Rattle.std.specs.List.{join_by}
use mathlib.Core.List.{map}
use Rattle.script_replies.specs.PlanLines.{joined}

more_mapped : {X : Type 0} (f : X → List ℕ) (separator : List ℕ) (xs : List X) → flat_map (λ x. separator ++ f x) xs ≡ flat_map (λ text. separator ++ text) (map f xs)
more_mapped f separator [] = refl
more_mapped f separator (x ∷ xs) = ap (λ texts. (separator ++ f x) ++ texts) (more_mapped f separator xs)

join_mapped : {X : Type 0} (f : X → List ℕ) (separator : List ℕ) (xs : List X) → join_by f separator xs ≡ join_by (λ text. text) separator (map f xs)
join_mapped f separator [] = refl
join_mapped f separator (x ∷ xs) = ap (λ texts. f x ++ texts) (more_mapped f separator xs)

-- what is joined of values that stand for texts is what is joined of the texts
pub in_a_row : {X T E : Type 0} (bytes : T → List ℕ) (result : Result T E) (f : X → List ℕ) (values lent : List X) (texts : List (List ℕ)) → map f values ≡ texts → lent ≡ values → IfOk result (λ text. bytes text ≡ join_by f (codes ", ") lent)
    → IfOk result (λ text. bytes text ≡ joined texts)
in_a_row bytes (Ok text) f values lent texts meant same done = done ∙ join_mapped f (codes ", ") lent ∙ ap (λ xs. joined (map f xs)) same ∙ ap joined meant
in_a_row bytes (Err short) f values lent texts meant same done = tt
