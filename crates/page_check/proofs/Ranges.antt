-- Ranges that are added one by one.
use Rattle.std.proofs.Common.{◌≡◌, ℕ, ◌+◌, ◌<◌, List, [], ◌∷◌, ◌++◌, length, get_or, take, Option, sym, ap, ◌∙◌, append_assoc}
use Rattle.std.specs.List.{filter_map, cons_option}
use Rattle.std.proofs.lemmas.List.{take_more}
use Rattle.std.proofs.lemmas.List.Elements.{filter_map-append}

pub added_one : {X Y : Type 0} (h : X → Option Y) (xs : List X) (i : ℕ) (d x : X) (o : Option Y) (before out then : List Y) → i < length xs → x ≡ get_or xs i d → o ≡ h x → out ≡ before ++ filter_map h (take i xs) → then ≡ out ++ cons_option o []
    → then ≡ before ++ filter_map h (take (i + 1) xs)
added_one h xs i d x o before out then within here is so_far pushed =
    pushed
    ∙ ap (λ l. l ++ cons_option o []) so_far
    ∙ append_assoc before (filter_map h (take i xs)) (cons_option o [])
    ∙ ap (λ p. before ++ (filter_map h (take i xs) ++ cons_option p [])) (is ∙ ap h here)
    ∙ ap (λ l. before ++ l) (sym (ap (filter_map h) (take_more xs i d within) ∙ filter_map-append h (take i xs) (get_or xs i d ∷ [])))
