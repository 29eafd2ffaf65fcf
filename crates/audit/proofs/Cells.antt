-- Lists that are made step by step.
use Rattle.std.proofs.Common.{◌≡◌, ℕ, ◌+◌, ◌<◌, List, [], ◌∷◌, ◌++◌, length, get_or, take, Option, Some, None, sym, ap, ◌∙◌, append-nil}
use Rattle.std.specs.List.{filter_map, cons_option}
use Rattle.std.proofs.lemmas.List.{take_more}
use Rattle.std.proofs.lemmas.List.Elements.{filter_map-append}

module _ {X Y : Type 0} (h : X → Option Y) (xs : List X) (i : ℕ) (d : X) (within : i < length xs) where
  pub filter_map_some : (x : X) (y : Y) → x ≡ get_or xs i d → h x ≡ Some y → filter_map h (take (i + 1) xs) ≡ filter_map h (take i xs) ++ y ∷ []
  filter_map_some x y here is = ap (filter_map h) (take_more xs i d within) ∙ filter_map-append h (take i xs) (get_or xs i d ∷ []) ∙ ap (λ (o : Option Y). filter_map h (take i xs) ++ cons_option o []) (ap h (sym here) ∙ is)

  pub filter_map_none : (x : X) → x ≡ get_or xs i d → h x ≡ None → filter_map h (take (i + 1) xs) ≡ filter_map h (take i xs)
  filter_map_none x here is = ap (filter_map h) (take_more xs i d within) ∙ filter_map-append h (take i xs) (get_or xs i d ∷ []) ∙ ap (λ (o : Option Y). filter_map h (take i xs) ++ cons_option o []) (ap h (sym here) ∙ is) ∙ append-nil (filter_map h (take i xs))
