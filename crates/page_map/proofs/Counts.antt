-- How a change adds to the pairs with an empty value, and takes from them.
use Rattle.std.proofs.Common.{◌≡◌, ℕ, suc, ◌+◌, ◌≤◌, List, [], ◌∷◌, ◌++◌, Option, Some, None, Result, Ok, Err, IfOk, IfErr, OnOk, is_err, false, true≢false, sym, ap, ◌∙◌, arith, length, drop, take, length-append}
use Rattle.std.proofs.lemmas.List.{take-append-drop}
use Rattle.byte_map.specs.Sorted.{IsAt, IsGap, changed}
use Rattle.byte_map.proofs.Entries.{put_at, put_gap, gone_at}
use Rattle.byte_map.proofs.Search.{changed_nothing}
use Rattle.page_map.specs.Empties.{empties}
use Rattle.page_map.specs.inner.Counts.{empties_at, put_empty}
use Rattle.page_map.proofs.Empties.{Pairs, empties-append}

abbrev count : Pairs → ℕ
count es = length (empties es)

count_append : (xs ys : Pairs) → count (xs ++ ys) ≡ count xs + count ys
count_append xs ys = ap length (empties-append xs ys) ∙ length-append (empties xs) (empties ys)

parted : (xs ys : Pairs) (e : List ℕ × List ℕ) → count (xs ++ e ∷ ys) ≡ count xs + (count (e ∷ []) + count ys)
parted xs ys e = omega (arith, count_append xs (e ∷ ys), count_append (e ∷ []) ys)

module _ (es : Pairs) (k : List ℕ) (at : ℕ) where
  here_is : (is : IsAt es k at) → es ≡ take at es ++ (k, is.value) ∷ drop (suc at) es
  here_is is = sym (take-append-drop at es) ∙ ap (λ (l : Pairs). take at es ++ l) is.here

  here_counted : (is : IsAt es k at) → empties_at es (Ok at) ≡ count ((k, is.value) ∷ [])
  here_counted is = ap (λ (l : Pairs). count (take 1 l)) is.here

  changed_here : (is : IsAt es k at) (c : Option (List ℕ)) → count (changed es k c) + empties_at es (Ok at) ≡ count es + put_empty k c
  changed_here is None =
      omega (
        arith,
        ap (λ (l : Pairs). count (changed l k None)) (here_is is),
        ap count (gone_at (take at es) (drop (suc at) es) k is.value is.before is.after),
        count_append (take at es) (drop (suc at) es),
        ap count (here_is is),
        parted (take at es) (drop (suc at) es) (k, is.value),
        here_counted is,
      )
  changed_here is (Some v) =
      omega (
        arith,
        ap (λ (l : Pairs). count (changed l k (Some v))) (here_is is),
        ap count (put_at (take at es) (drop (suc at) es) k is.value v is.before),
        parted (take at es) (drop (suc at) es) (k, v),
        ap count (here_is is),
        parted (take at es) (drop (suc at) es) (k, is.value),
        here_counted is,
      )

  changed_gap : IsGap es k at → (c : Option (List ℕ)) → count (changed es k c) ≡ count es + put_empty k c
  changed_gap is None = omega (arith, ap count (changed_nothing es k at is))
  changed_gap is (Some v) =
      omega (
        arith,
        ap (λ (l : Pairs). count (changed l k (Some v))) (take-append-drop at es),
        ap count (put_gap (take at es) (drop at es) k v is.before is.after),
        parted (take at es) (drop at es) (k, v),
        ap count (take-append-drop at es),
        count_append (take at es) (drop at es),
      )

-- the pair that was at the place is counted no more, and the one that the change puts is
pub changed_count : (es : Pairs) (k : List ℕ) (place : Result ℕ ℕ) (c : Option (List ℕ)) → IfOk place (λ at. IsAt es k at) → IfErr place (λ at. IsGap es k at)
    → count (changed es k c) + empties_at es place ≡ count es + put_empty k c
changed_count es k (Ok at) c is gap = changed_here es k at is c
changed_count es k (Err at) c is gap = omega (arith, changed_gap es k at gap c)

-- a pair that is there is one of those that are counted
pub counted_at : (es : Pairs) (place : Result ℕ ℕ) → empties_at es place ≤ count es
counted_at es (Err at) = omega arith
counted_at es (Ok at) =
    omega (
      arith,
      ap count (take-append-drop at es),
      count_append (take at es) (drop at es),
      ap count (take-append-drop 1 (drop at es)),
      count_append (take 1 (drop at es)) (drop 1 (drop at es)),
    )

-- a step that did not fail
pub from_ok : {A B : Type 0} (r : Result A B) (P : Type 0) → OnOk r P → false ≡ is_err r → P
from_ok (Ok x) P h is = h
from_ok (Err e) P h is = absurd (true≢false (sym is))
