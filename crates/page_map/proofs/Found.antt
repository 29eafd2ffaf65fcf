-- The page and the place where a key is found, if it is anywhere.
use Rattle.std.proofs.Common.{◌≡◌, ℕ, suc, ◌+◌, ◌-◌, ◌<◌, ◌≤◌, T, cond, List, [], ◌∷◌, ◌++◌, Some, None, length, get_or, take, drop, sym, ap, subst, ◌∙◌, arith, append-nil}
use Rattle.std.specs.Ordering.{is_eq, eq_by_cmp}
use Rattle.std.specs.FinMap.Entries.{find, below_all}
use Rattle.std.proofs.lemmas.List.{take-append-drop, take_all}
use Rattle.byte_map.specs.Order.{bytes_cmp}
use Rattle.byte_map.specs.Sorted.{Entries, IsSorted, IsFirstFrom, all_below}
use Rattle.byte_map.proofs.Entries.{find_past, find_none}
use Rattle.byte_map.proofs.Maps.{get_map}
use Rattle.page_map.specs.Pages.{joined, Stands, IsCountUpTo}
use Rattle.page_map.proofs.Cuts.{around}
use Rattle.page_map.proofs.Rests.{get_first}

abbrev Pairs : Type 0
Pairs = Entries (List ℕ)

find_before : (xs ys : Pairs) (k : List ℕ) → T (below_all bytes_cmp k ys) → find bytes_cmp k (xs ++ ys) ≡ find bytes_cmp k xs
find_before [] ys k h = find_none ys k h
find_before (x ∷ xs) ys k h = ap (cond (is_eq (bytes_cmp k x.0)) (Some x.1)) (find_before xs ys k h)

-- among pages, all of which begin above the key
pub none_found : (ps : List Pairs) (k : List ℕ) (n : ℕ) → n ≡ 0 → IsCountUpTo ps k n → find bytes_cmp k (joined ps) ≡ None
none_found ps k n none count = find_none (joined ps) k (subst (λ (m : ℕ). T (below_all bytes_cmp k (joined (drop m ps)))) none count.after)

-- among pages, some of which begin at or below the key: in the last one of these, or nowhere
pub found_in : (ps : List Pairs) (k : List ℕ) (n : ℕ) (page : Pairs) → 0 < n → IsCountUpTo ps k n → page ≡ get_or ps (n - 1) page → find bytes_cmp k (joined ps) ≡ find bytes_cmp k page
found_in ps k n page some count is =
    let next : (n - 1) + 1 ≡ n = omega (arith, some) in
    ap (find bytes_cmp k) (around ps (n - 1) page (omega (arith, some, count.in_range)))
    ∙ find_past (joined (take (n - 1) ps)) _ k count.before
    ∙ find_before (get_or ps (n - 1) page) (joined (drop ((n - 1) + 1) ps)) k (subst (λ (m : ℕ). T (below_all bytes_cmp k (joined (drop m ps)))) (sym next) count.after)
    ∙ ap (find bytes_cmp k) (sym is)

-- in a page, all of whose keys are below the key
pub none_in : (page : Pairs) (k : List ℕ) (at : ℕ) → IsFirstFrom page k at → length page ≤ at → find bytes_cmp k page ≡ None
none_in page k at first past =
    ap (find bytes_cmp k) (sym (append-nil page))
    ∙ find_past page [] k (subst (λ (l : Pairs). T (all_below l k)) (take_all at page past) first.before)

-- in a page, one of whose keys is not below the key: at the place of the first of these, or nowhere
pub found_at : (page : Pairs) (k : List ℕ) (at : ℕ) (e : List ℕ × List ℕ) → IsSorted page → IsFirstFrom page k at → Stands page at e → find bytes_cmp k page ≡ cond (eq_by_cmp bytes_cmp e.0 k) (Some e.1) None
found_at page k at e sorted first here =
    sym (get_map page k sorted)
    ∙ get_first page sorted k (drop at page) (record { prefix = take at page; whole = sym (take-append-drop at page); before = first.before; after = first.after }) e (drop (suc at) page, here)
