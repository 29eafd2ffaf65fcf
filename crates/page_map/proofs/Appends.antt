-- Pairs behind all pairs of a page.
use Rattle.std.proofs.Common.{◌≡◌, ℕ, ◌≤◌, ◌-◌, T, not, List, [], ◌∷◌, ◌++◌, length, take, drop, Option, sym, ap, ap₂, subst, ◌∙◌, arith, append-nil}
use Rattle.std.specs.Ordering.{is_lt}
use Rattle.std.specs.Cmp.{tied_itself}
use Rattle.std.specs.Prelude.{slice_range}
use Rattle.std.proofs.lemmas.List.{take-append-drop, take_all, length-drop}
use Rattle.byte_map.specs.Sorted.{Entries, IsSorted, IsFirstFrom, all_below, none_below, changed_all}
use Rattle.byte_map.proofs.Order.{bytes_cmp_total, both, first}
use Rattle.byte_map.proofs.Ranges.{none_below_all}
use Rattle.page_map.specs.Pages.{joined, Stands}
use Rattle.page_map.proofs.Changes.{all_right}
use Rattle.page_map.proofs.Cuts.{joined_append, sorted_prefix}

none_below_first : (w : List ℕ × Option (List ℕ)) (ws : List (List ℕ × Option (List ℕ))) → IsSorted (w ∷ ws) → T (none_below (w ∷ ws) w.0)
none_below_first w ws h = both _ _ (subst (λ o. T (not (is_lt o))) (sym (tied_itself bytes_cmp_total w.0)) tt) (none_below_all ws w.0 (first _ _ h))

pub behind : (page : Entries (List ℕ)) (ws : List (List ℕ × Option (List ℕ))) (w : List ℕ × Option (List ℕ)) (key : List ℕ) (n : ℕ) (more new : Entries (List ℕ)) → IsSorted ws → Stands ws 0 w → key ≡ w.0 → IsFirstFrom page key n → length page ≤ n
    → more ≡ [] → new ≡ changed_all more ws → changed_all page ws ≡ page ++ new
behind page ws w key n more new sorted here key_is from all none new_is =
    let below : T (all_below page w.0) = subst (λ k. T (all_below page k)) key_is (subst (λ l. T (all_below l key)) (take_all n page all) from.before) in
    let above : T (none_below ws w.0) = subst (λ (l : List (List ℕ × Option (List ℕ))). T (none_below l w.0)) (sym here) (none_below_first w (drop 1 ws) (subst IsSorted here sorted)) in
    ap (λ (l : Entries (List ℕ)). changed_all l ws) (sym (append-nil page))
    ∙ all_right page [] w.0 ws below above
    ∙ ap (λ (l : Entries (List ℕ)). page ++ l) (sym (new_is ∙ ap (λ (l : Entries (List ℕ)). changed_all l ws) none))

pub sorted_take : (ws : List (List ℕ × Option (List ℕ))) (n : ℕ) (some : List (List ℕ × Option (List ℕ))) → IsSorted ws → some ≡ take n ws → IsSorted some
sorted_take ws n some h is = subst IsSorted (sym is) (sorted_prefix (take n ws) (drop n ws) (subst IsSorted (sym (take-append-drop n ws)) h))

-- two parts of pairs
pub in_two : (pairs first rest : Entries (List ℕ)) (pages more new : List (Entries (List ℕ))) (at end : ℕ) → end ≡ length pairs → first ≡ slice_range pairs 0 at → rest ≡ slice_range pairs at end → joined pages ≡ first → joined more ≡ rest → new ≡ pages ++ more → joined new ≡ pairs
in_two pairs first rest pages more new at end end_is first_is rest_is pages_are more_are new_is =
    ap joined new_is ∙ joined_append pages more
    ∙ ap₂ (λ (l m : Entries (List ℕ)). l ++ m) (pages_are ∙ first_is ∙ ap (λ n. take n pairs) (omega arith)) (more_are ∙ rest_is ∙ take_all (end - at) (drop at pairs) (omega (arith, length-drop at pairs, end_is)))
    ∙ take-append-drop at pairs
