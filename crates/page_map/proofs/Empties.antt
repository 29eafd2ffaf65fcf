-- Pairs with an empty value, counted and named by their number.
use Rattle.std.proofs.Common.{◌≡◌, ◌≢◌, ℕ, zero, suc, ◌+◌, ◌-◌, ◌<◌, ◌≤◌, Bool, true, false, T, true≢false, not, List, [], ◌∷◌, ◌++◌, Option, Some, None, refl, sym, ap, subst, ◌∙◌, add-one, arith, length, drop, take, get_or, append_assoc, append-nil, length-append, if◌then◌else◌, ◌⊎◌, inl, inr}
use Rattle.std.specs.List.{slice_get}
use Rattle.std.specs.declared.cmp.Ordering.TheVariants.{Less}
use Rattle.std.specs.Ordering.{is_lt}
use Rattle.std.proofs.lemmas.Option.{slice_get_past}
use Rattle.std.proofs.lemmas.List.{take-append-drop, take_all, take_more, drop_more, drop-append-le}
use Rattle.std.proofs.lemmas.List.Elements.{filter_map-append}
use Rattle.byte_map.specs.Order.{bytes_cmp}
use Rattle.byte_map.specs.Sorted.{Entries, IsSorted, all_below, none_below, until}
use Rattle.byte_map.proofs.Order.{both, first, second, less_trans}
use Rattle.byte_map.proofs.Ranges.{from_not_less, not_less, none_below_next, sorted_rest, above_upto}
use Rattle.page_map.specs.Empties.{is_empty, empty_key, empties}
use Rattle.page_map.specs.Pages.{joined, Stands, IsRestFrom, IsPlace}
use Rattle.page_map.proofs.Cuts.{joined_append, cut_joined, all_below_append}

abbrev pub Pairs : Type 0
Pairs = Entries (List ℕ)

pub empties-append : (xs ys : Pairs) → empties (xs ++ ys) ≡ empties xs ++ empties ys
empties-append xs ys = filter_map-append empty_key xs ys

pub empties_full : (e : List ℕ × List ℕ) (es : Pairs) → is_empty e.1 ≡ false → empties (e ∷ es) ≡ empties es
empties_full e es full = simp (full) refl

pub empties_more : (e : List ℕ × List ℕ) (es : Pairs) → is_empty e.1 ≡ true → empties (e ∷ es) ≡ e.0 ∷ empties es
empties_more e es empty = simp (empty) refl

few_more : (e : List ℕ × List ℕ) (es : Pairs) (b : Bool) → is_empty e.1 ≡ b → length (empties es) ≤ length es → length (empties (e ∷ es)) ≤ length (e ∷ es)
few_more e es true is few = omega (arith, ap length (empties_more e es is), few)
few_more e es false is few = omega (arith, ap length (empties_full e es is), few)

pub few_empties : (es : Pairs) → length (empties es) ≤ length es
few_empties [] = omega arith
few_empties (e ∷ es) = few_more e es (is_empty e.1) refl (few_empties es)

pub get_left : {X : Type 0} (xs ys : List X) (n : ℕ) → n < length xs → slice_get (xs ++ ys) n ≡ slice_get xs n
get_left [] ys n lt = absurd (omega (arith, lt))
get_left (x ∷ xs) ys zero lt = refl
get_left (x ∷ xs) ys (suc n) lt = get_left xs ys n (omega (arith, lt))

pub get_right : {X : Type 0} (xs ys : List X) (n : ℕ) → length xs ≤ n → slice_get (xs ++ ys) n ≡ slice_get ys (n - length xs)
get_right [] ys n le = ap (slice_get ys) (omega arith)
get_right (x ∷ xs) ys zero le = absurd (omega (arith, le))
get_right (x ∷ xs) ys (suc n) le = get_right xs ys n (omega (arith, le)) ∙ ap (slice_get ys) (omega arith)

less_or_not : (n m : ℕ) → (n < m) ⊎ (m ≤ n)
less_or_not n zero = inr (omega arith)
less_or_not zero (suc m) = inl (omega arith)
less_or_not (suc n) (suc m) = elim (less_or_not n m) [ inl lt ↦ inl (omega (arith, lt)) | inr le ↦ inr (omega (arith, le)) ]

not_both : (b : Bool) → T b → T (not b) → ⊥
not_both true h k = k
not_both false h k = h

-- ---- one page

-- those before a place and those from it on
pub empties_cut : (es : Pairs) (at : ℕ) → length (empties es) ≡ length (empties (take at es)) + length (empties (drop at es))
empties_cut es at = ap (λ (l : Pairs). length (empties l)) (sym (take-append-drop at es)) ∙ ap length (empties-append (take at es) (drop at es)) ∙ length-append (empties (take at es)) (empties (drop at es))

taken_more : (es : Pairs) (at : ℕ) (e : List ℕ × List ℕ) → Stands es at e → take (suc at) es ≡ take at es ++ e ∷ []
taken_more [] zero e here = absurd (omega (arith, ap length here))
taken_more [] (suc at) e here = absurd (omega (arith, ap length here))
taken_more (x ∷ es) zero e here = ap (λ (l : Pairs). take 1 l) here
taken_more (x ∷ es) (suc at) e here = ap (λ (l : Pairs). x ∷ l) (taken_more es at e here)

pub count_pair : (es : Pairs) (at : ℕ) (e : List ℕ × List ℕ) → Stands es at e → length (empties (take (at + 1) es)) ≡ length (empties (take at es)) + length (empties (e ∷ []))
count_pair es at e here =
    ap (λ (n : ℕ). length (empties (take n es))) (add-one at)
    ∙ ap (λ (l : Pairs). length (empties l)) (taken_more es at e here)
    ∙ ap length (empties-append (take at es) (e ∷ []))
    ∙ length-append (empties (take at es)) (empties (e ∷ []))

-- ---- pages

pub page_taken : (ps : List Pairs) (i : ℕ) (page : Pairs) → i < length ps → page ≡ get_or ps i page → joined (take (i + 1) ps) ≡ joined (take i ps) ++ page
page_taken ps i page lt is =
    ap joined (take_more ps i page lt)
    ∙ joined_append (take i ps) (get_or ps i page ∷ [])
    ∙ ap (λ (l : Pairs). joined (take i ps) ++ l) (append-nil (get_or ps i page) ∙ sym is)

pub count_page : (ps : List Pairs) (i : ℕ) (page : Pairs) → i < length ps → page ≡ get_or ps i page
    → length (empties (joined (take (i + 1) ps))) ≡ length (empties (joined (take i ps))) + length (empties page)
count_page ps i page lt is =
    ap (λ (l : Pairs). length (empties l)) (page_taken ps i page lt is)
    ∙ ap length (empties-append (joined (take i ps)) page)
    ∙ length-append (empties (joined (take i ps))) (empties page)

pub count_fits : (ps : List Pairs) (i : ℕ) (page : Pairs) → i < length ps → page ≡ get_or ps i page
    → length (empties (joined (take i ps))) + length (empties page) ≤ length (joined ps)
count_fits ps i page lt is =
    omega (
      arith,
      count_page ps i page lt is,
      few_empties (joined (take (i + 1) ps)),
      ap length (cut_joined ps (i + 1)),
      length-append (joined (take (i + 1) ps)) (joined (drop (i + 1) ps)),
    )

-- the same in all of them, by their pairs with an empty value alone
pub empties_fit : (ps : List Pairs) (i : ℕ) (page : Pairs) → i < length ps → page ≡ get_or ps i page
    → length (empties (joined (take i ps))) + length (empties page) ≤ length (empties (joined ps))
empties_fit ps i page lt is =
    omega (
      arith,
      count_page ps i page lt is,
      ap (λ (l : Pairs). length (empties l)) (cut_joined ps (i + 1)),
      ap length (empties-append (joined (take (i + 1) ps)) (joined (drop (i + 1) ps))),
      length-append (empties (joined (take (i + 1) ps))) (empties (joined (drop (i + 1) ps))),
    )

-- those of the first pages, and those of the others
pub parts_fit : (ps : List Pairs) (n : ℕ) → length (empties (joined ps)) ≡ length (empties (joined (take n ps))) + length (empties (joined (drop n ps)))
parts_fit ps n =
    ap (λ (l : Pairs). length (empties l)) (cut_joined ps n)
    ∙ ap length (empties-append (joined (take n ps)) (joined (drop n ps)))
    ∙ length-append (empties (joined (take n ps))) (empties (joined (drop n ps)))

page_ahead : (ps : List Pairs) (i : ℕ) (page : Pairs) → i < length ps → page ≡ get_or ps i page → empties (joined (drop i ps)) ≡ empties page ++ empties (joined (drop (i + 1) ps))
page_ahead ps i page lt is =
    ap (λ (l : List Pairs). empties (joined l)) (drop_more ps i page lt)
    ∙ empties-append (get_or ps i page) (joined (drop (i + 1) ps))
    ∙ ap (λ (l : Pairs). empties l ++ empties (joined (drop (i + 1) ps))) (sym is)

pub nth_here : (ps : List Pairs) (i : ℕ) (page : Pairs) (n : ℕ) → i < length ps → page ≡ get_or ps i page → n < length (empties page)
    → slice_get (empties (joined (drop i ps))) n ≡ slice_get (empties page) n
nth_here ps i page n lt is here = ap (λ (l : List (List ℕ)). slice_get l n) (page_ahead ps i page lt is) ∙ get_left (empties page) (empties (joined (drop (i + 1) ps))) n here

pub nth_past : (ps : List Pairs) (i : ℕ) (page : Pairs) (n : ℕ) → i < length ps → page ≡ get_or ps i page → length (empties page) ≤ n
    → slice_get (empties (joined (drop i ps))) n ≡ slice_get (empties (joined (drop (i + 1) ps))) (n - length (empties page))
nth_past ps i page n lt is past = ap (λ (l : List (List ℕ)). slice_get l n) (page_ahead ps i page lt is) ∙ get_right (empties page) (empties (joined (drop (i + 1) ps))) n past

-- the pairs from a place in the first page on
pub rest_parts : (ps : List Pairs) (at : ℕ) (page : Pairs) → 0 < length ps → page ≡ get_or ps 0 page → at ≤ length page → drop at (joined ps) ≡ drop at page ++ joined (take (length ps - 1) (drop 1 ps))
rest_parts [] at page some is place = absurd (omega (arith, some))
rest_parts (p ∷ ps) at page some is place =
    drop-append-le at p (joined ps) (omega (arith, place, ap length is))
    ∙ ap (λ (l : Pairs). drop at l ++ joined ps) (sym is)
    ∙ ap (λ (l : List Pairs). drop at page ++ joined l) (sym (take_all (length (p ∷ ps) - 1) ps (omega arith)))

pub place_fits : (ps : List Pairs) (at : ℕ) (page : Pairs) → 0 < length ps → page ≡ get_or ps 0 page → IsPlace ps at → at ≤ length page
place_fits [] at page some is place = absurd (omega (arith, some))
place_fits (p ∷ ps) at page some is place = omega (arith, place, ap length is)

module _ (ps : List Pairs) (at : ℕ) (page now : Pairs) (some : 0 < length ps) (is : page ≡ get_or ps 0 page) (place : IsPlace ps at) (view : drop at (joined ps) ≡ now) where
  abbrev behind : Pairs
  behind = joined (take (length ps - 1) (drop 1 ps))

  now_is : now ≡ drop at page ++ behind
  now_is = sym view ∙ rest_parts ps at page some is (place_fits ps at page some is place)

  pub rest_count : length (empties now) ≡ length (empties (drop at page)) + length (empties (joined (take (length ps - 1) (drop 1 ps))))
  rest_count = ap (λ (l : Pairs). length (empties l)) now_is ∙ ap length (empties-append (drop at page) behind) ∙ length-append (empties (drop at page)) (empties behind)

  pub rest_size : length now ≡ length (drop at page) + length (joined (take (length ps - 1) (drop 1 ps)))
  rest_size = ap length now_is ∙ length-append (drop at page) behind

  pub nth_first : (n : ℕ) → n < length (empties (drop at page)) → slice_get (empties (drop at page)) n ≡ slice_get (empties now) n
  nth_first n lt = sym (ap (λ (l : Pairs). slice_get (empties l) n) now_is ∙ ap (λ (l : List (List ℕ)). slice_get l n) (empties-append (drop at page) behind) ∙ get_left (empties (drop at page)) (empties behind) n lt)

  pub nth_behind : (n : ℕ) → length (empties (drop at page)) ≤ n → slice_get (empties (joined (take (length ps - 1) (drop 1 ps)))) (n - length (empties (drop at page))) ≡ slice_get (empties now) n
  nth_behind n le = sym (ap (λ (l : Pairs). slice_get (empties l) n) now_is ∙ ap (λ (l : List (List ℕ)). slice_get l n) (empties-append (drop at page) behind) ∙ get_right (empties (drop at page)) (empties behind) n le)

-- ---- the pairs of a first chunk, and those of the chunks after it

pub walk_count : (pages behind now : Pairs) → pages ++ behind ≡ now → length (empties now) ≡ length (empties pages) + length (empties behind)
walk_count pages behind now view =
    ap (λ (l : Pairs). length (empties l)) (sym view) ∙ ap length (empties-append pages behind) ∙ length-append (empties pages) (empties behind)

pub walk_here : (pages behind now : Pairs) → pages ++ behind ≡ now → (n : ℕ) → n < length (empties pages) → slice_get (empties pages) n ≡ slice_get (empties now) n
walk_here pages behind now view n lt =
    sym (ap (λ (l : Pairs). slice_get (empties l) n) (sym view) ∙ ap (λ (l : List (List ℕ)). slice_get l n) (empties-append pages behind) ∙ get_left (empties pages) (empties behind) n lt)

pub walk_past : (pages behind now : Pairs) → pages ++ behind ≡ now → (n : ℕ) → length (empties pages) ≤ n → slice_get (empties behind) (n - length (empties pages)) ≡ slice_get (empties now) n
walk_past pages behind now view n le =
    sym (ap (λ (l : Pairs). slice_get (empties l) n) (sym view) ∙ ap (λ (l : List (List ℕ)). slice_get l n) (empties-append pages behind) ∙ get_right (empties pages) (empties behind) n le)

-- ---- between two keys

-- a key that is below the end, if there is one
abbrev pub kept_below : List ℕ → Option (List ℕ) → Option (List ℕ)
kept_below high None = None
kept_below high (Some key) = if is_lt (bytes_cmp key high) then Some key else None

none_kept : (es : Pairs) (high : List ℕ) (n : ℕ) → T (none_below es high) → kept_below high (slice_get (empties es) n) ≡ None
none_kept [] high n none = refl
none_kept (e ∷ es) high n none = none_more e es high n (is_empty e.1) refl (first _ _ none) (λ m. none_kept es high m (second _ _ none))
  where
    none_first : (b : Bool) (x : List ℕ) → T (not b) → (if b then Some x else None) ≡ None
    none_first true x h = absurd h
    none_first false x h = refl

    none_more : (e : List ℕ × List ℕ) (es : Pairs) (high : List ℕ) (n : ℕ) (b : Bool) → is_empty e.1 ≡ b → T (not (is_lt (bytes_cmp e.0 high))) → ((m : ℕ) → kept_below high (slice_get (empties es) m) ≡ None) → kept_below high (slice_get (empties (e ∷ es)) n) ≡ None
    none_more e es high n false is h later = ap (λ (l : List (List ℕ)). kept_below high (slice_get l n)) (empties_full e es is) ∙ later n
    none_more e es high zero true is h later = ap (λ (l : List (List ℕ)). kept_below high (slice_get l 0)) (empties_more e es is) ∙ none_first (is_lt (bytes_cmp e.0 high)) e.0 h
    none_more e es high (suc n) true is h later = ap (λ (l : List (List ℕ)). kept_below high (slice_get l (suc n))) (empties_more e es is) ∙ later n

-- sorted pairs are those below a key, and then those that are not
abbrev pub since : List ℕ → Pairs → Pairs
since key [] = []
since key (e ∷ es) = if is_lt (bytes_cmp e.0 key) then since key es else e ∷ es

pub until_since : (key : List ℕ) (es : Pairs) → es ≡ until key es ++ since key es
until_since key [] = refl
until_since key (e ∷ es) = until_by (is_lt (bytes_cmp e.0 key)) (until_since key es)
  where
    until_by : (b : Bool) → es ≡ until key es ++ since key es → e ∷ es ≡ (if b then e ∷ until key es else []) ++ (if b then since key es else e ∷ es)
    until_by true same = ap (λ (l : Pairs). e ∷ l) same
    until_by false same = refl

pub until_below : (key : List ℕ) (es : Pairs) → T (all_below (until key es) key)
until_below key [] = tt
until_below key (e ∷ es) = below_by (is_lt (bytes_cmp e.0 key)) refl (until_below key es)
  where
    below_by : (b : Bool) → is_lt (bytes_cmp e.0 key) ≡ b → T (all_below (until key es) key) → T (all_below (if b then e ∷ until key es else []) key)
    below_by true is rest = both _ _ (subst T (sym is) tt) rest
    below_by false is rest = tt

pub since_not : (key : List ℕ) (es : Pairs) → IsSorted es → T (none_below (since key es) key)
since_not key [] h = tt
since_not key (e ∷ es) h = not_by (is_lt (bytes_cmp e.0 key)) refl (since_not key es (second _ _ h))
  where
    not_by : (b : Bool) → is_lt (bytes_cmp e.0 key) ≡ b → T (none_below (since key es) key) → T (none_below (if b then since key es else e ∷ es) key)
    not_by true is rest = rest
    not_by false is rest =
        let above : bytes_cmp e.0 key ≢ Less = λ less. true≢false (sym (ap is_lt less) ∙ is) in
        both _ _ (from_not_less _ above) (none_below_next es e.0 key above (first _ _ h))

-- the one of a number below the end
pub nth_until : (high : List ℕ) (es : Pairs) (n : ℕ) → IsSorted es → slice_get (empties (until high es)) n ≡ kept_below high (slice_get (empties es) n)
nth_until high es n h =
    let cut : empties es ≡ empties (until high es) ++ empties (since high es) = ap empties (until_since high es) ∙ empties-append (until high es) (since high es) in
    nth_cut (until high es) (since high es) n (until_below high es) (since_not high es h)
    ∙ ap (λ (l : List (List ℕ)). kept_below high (slice_get l n)) (sym cut)
  where
    all_kept : (xs : Pairs) (n : ℕ) → T (all_below xs high) → kept_below high (slice_get (empties xs) n) ≡ slice_get (empties xs) n
    all_kept [] n below = refl
    all_kept (e ∷ xs) n below = kept_more e xs n (is_empty e.1) refl (first _ _ below) (λ m. all_kept xs m (second _ _ below))
      where
        kept_first : (b : Bool) (x : List ℕ) → T b → (if b then Some x else None) ≡ Some x
        kept_first true x h = refl
        kept_first false x h = absurd h

        kept_more : (e : List ℕ × List ℕ) (xs : Pairs) (n : ℕ) (b : Bool) → is_empty e.1 ≡ b → T (is_lt (bytes_cmp e.0 high)) → ((m : ℕ) → kept_below high (slice_get (empties xs) m) ≡ slice_get (empties xs) m)
            → kept_below high (slice_get (empties (e ∷ xs)) n) ≡ slice_get (empties (e ∷ xs)) n
        kept_more e xs n false is h later =
            ap (λ (l : List (List ℕ)). kept_below high (slice_get l n)) (empties_full e xs is) ∙ later n ∙ ap (λ (l : List (List ℕ)). slice_get l n) (sym (empties_full e xs is))
        kept_more e xs zero true is h later =
            ap (λ (l : List (List ℕ)). kept_below high (slice_get l 0)) (empties_more e xs is) ∙ kept_first (is_lt (bytes_cmp e.0 high)) e.0 h ∙ ap (λ (l : List (List ℕ)). slice_get l 0) (sym (empties_more e xs is))
        kept_more e xs (suc n) true is h later =
            ap (λ (l : List (List ℕ)). kept_below high (slice_get l (suc n))) (empties_more e xs is) ∙ later n ∙ ap (λ (l : List (List ℕ)). slice_get l (suc n)) (sym (empties_more e xs is))

    nth_cut : (xs ys : Pairs) (n : ℕ) → T (all_below xs high) → T (none_below ys high) → slice_get (empties xs) n ≡ kept_below high (slice_get (empties xs ++ empties ys) n)
    nth_cut xs ys n below not = elim (less_or_not n (length (empties xs))) [
      | inl lt ↦ sym (all_kept xs n below) ∙ ap (kept_below high) (sym (get_left (empties xs) (empties ys) n lt))
      | inr le ↦ slice_get_past (empties xs) n le ∙ sym (none_kept ys high (n - length (empties xs)) not) ∙ ap (kept_below high) (sym (get_right (empties xs) (empties ys) n le))
    ]

pub nth_none : (high : List ℕ) (es : Pairs) (n : ℕ) → IsSorted es → None ≡ slice_get (empties es) n → None ≡ slice_get (empties (until high es)) n
nth_none high es n h none = sym (nth_until high es n h ∙ ap (kept_below high) (sym none))

pub nth_some : (high : List ℕ) (es : Pairs) (n : ℕ) (key : List ℕ) (b : Bool) → IsSorted es → Some key ≡ slice_get (empties es) n → is_lt (bytes_cmp key high) ≡ b → (if b then Some key else None) ≡ slice_get (empties (until high es)) n
nth_some high es n key b h some is = sym (nth_until high es n h ∙ ap (kept_below high) (sym some) ∙ ap (λ (t : Bool). if t then Some key else None) is)

-- the rest has no more pairs than all, and is sorted as they are
pub rest_fits : (es : Pairs) (key : List ℕ) (rest : Pairs) → IsRestFrom es key rest → length rest ≤ length es
rest_fits es key rest from = omega (arith, ap length from.whole, length-append from.prefix rest)

pub sorted_from : (es : Pairs) (key : List ℕ) (rest : Pairs) → IsSorted es → IsRestFrom es key rest → IsSorted rest
sorted_from es key rest h from = sorted_rest from.prefix rest (subst IsSorted from.whole h)

-- two cuts of a list at one key are one
pub same_cut : (xs ys zs ws : Pairs) (key : List ℕ) → xs ++ ys ≡ zs ++ ws → T (all_below xs key) → T (none_below ys key) → T (all_below zs key) → T (none_below ws key) → ys ≡ ws
same_cut [] ys [] ws key same b n c m = same
same_cut (x ∷ xs) ys (z ∷ zs) ws key same b n c m = same_cut xs ys zs ws key (ap (drop 1) same) (second _ _ b) n (second _ _ c) m
same_cut [] ys (z ∷ zs) ws key same b n c m =
    absurd (not_both (is_lt (bytes_cmp z.0 key)) (first (is_lt (bytes_cmp z.0 key)) (all_below zs key) c) (first (not (is_lt (bytes_cmp z.0 key))) (none_below (zs ++ ws) key) (subst (λ (l : Pairs). T (none_below l key)) same n)))
same_cut (x ∷ xs) ys [] ws key same b n c m =
    absurd (not_both (is_lt (bytes_cmp x.0 key)) (first (is_lt (bytes_cmp x.0 key)) (all_below xs key) b) (first (not (is_lt (bytes_cmp x.0 key))) (none_below (xs ++ ys) key) (subst (λ (l : Pairs). T (none_below l key)) (sym same) m)))

-- what is not below a key is not below a lesser one
pub no_until : (low high : List ℕ) (es : Pairs) → bytes_cmp high low ≡ Less → T (none_below es low) → until high es ≡ []
no_until low high [] less none = refl
no_until low high (e ∷ es) less none =
    if_not (is_lt (bytes_cmp e.0 high)) (from_not_less (bytes_cmp e.0 high) (λ below. not_less _ (first (not (is_lt (bytes_cmp e.0 low))) (none_below es low) none) (less_trans e.0 high low below less)))
  where
    if_not : (b : Bool) → T (not b) → (if b then e ∷ until high es else []) ≡ []
    if_not true h = absurd h
    if_not false h = refl

module _ (es : Pairs) (h : IsSorted es) (low high : List ℕ) (rest end : Pairs) (from : IsRestFrom es low rest) (upto : IsRestFrom es high end) where
  rest_sorted : IsSorted rest
  rest_sorted = sorted_rest from.prefix rest (subst IsSorted from.whole h)

  -- the number of a range is a difference
  pub count_between : bytes_cmp high low ≢ Less → length (empties rest) ≡ length (empties (until high rest)) + length (empties end)
  count_between le =
      let same : since high rest ≡ end = same_cut (from.prefix ++ until high rest) (since high rest) upto.prefix end high
      (append_assoc from.prefix (until high rest) (since high rest) ∙ ap (λ (l : Pairs). from.prefix ++ l) (sym (until_since high rest)) ∙ sym from.whole ∙ upto.whole)
      (all_below_append from.prefix (until high rest) high (above_upto from.prefix low high le from.before) (until_below high rest))
      (since_not high rest rest_sorted) upto.before upto.after in
      ap (λ (l : Pairs). length (empties l)) (until_since high rest)
      ∙ ap length (empties-append (until high rest) (since high rest))
      ∙ length-append (empties (until high rest)) (empties (since high rest))
      ∙ ap (λ (l : Pairs). length (empties (until high rest)) + length (empties l)) same
