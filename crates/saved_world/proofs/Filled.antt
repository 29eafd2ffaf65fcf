-- The next page of pairs, of which some were taken already.
use Rattle.std.proofs.Common.{◌≡◌, ◌≢◌, ℕ, zero, suc, ◌≤◌, ◌⊎◌, inl, inr, List, [], ◌∷◌, ◌++◌, length, take, drop, refl, sym, ap, subst, ◌∙◌, arith, map as each}
use Rattle.std.specs.Borrow.{Bor}
use Rattle.row_map.specs.Rows.{Bytes}
use Rattle.entry_code.specs.Parts.{pairs_code, ArePairs}
use Rattle.saved_world.specs.Pages.{page_size, IsNextPage}
use Rattle.saved_world.specs.Taken.{plain}

abbrev pub Taken : Type 0
Taken = List (Bor (List ℕ) × Bor (List ℕ))

abbrev pub IsFilled : ℕ → Taken → List (Bytes × Bytes) → Type 0
IsFilled n ts ls = (n ≤ length ts) ⊎ (ls ≡ [])

-- of one pair less
fewer : (n : ℕ) (t : Bor (List ℕ) × Bor (List ℕ)) (ts : Taken) (ls : List (Bytes × Bytes)) → IsFilled (suc n) (t ∷ ts) ls → IsFilled n ts ls
fewer n t ts ls (inl le) = inl (omega (arith, le))
fewer n t ts ls (inr none) = inr none

pub take_filled : (n : ℕ) (ts : Taken) (ls : List (Bytes × Bytes)) → IsFilled n ts ls → take n (each plain ts ++ ls) ≡ each plain (take n ts)
take_filled zero ts ls is = refl
take_filled (suc n) [] ls (inl le) = absurd (omega (arith, le))
take_filled (suc n) [] ls (inr none) = ap (take (suc n)) none
take_filled (suc n) (t ∷ ts) ls is = ap (λ (l : List (Bytes × Bytes)). plain t ∷ l) (take_filled n ts ls (fewer n t ts ls is))

pub drop_filled : (n : ℕ) (ts : Taken) (ls : List (Bytes × Bytes)) → IsFilled n ts ls → drop n (each plain ts ++ ls) ≡ each plain (drop n ts) ++ ls
drop_filled zero ts ls is = refl
drop_filled (suc n) [] ls (inl le) = absurd (omega (arith, le))
drop_filled (suc n) [] ls (inr none) = ap (drop (suc n)) none ∙ sym none
drop_filled (suc n) (t ∷ ts) ls is = drop_filled n ts ls (fewer n t ts ls is)

-- none were taken where none are left
pub none_left : (n : ℕ) (ts : Taken) (ls : List (Bytes × Bytes)) → 1 ≤ n → ts ≡ [] → IsFilled n ts ls → each plain ts ++ ls ≡ []
none_left n ts ls some none (inl le) = absurd (omega (arith, some, subst (λ (l : Taken). n ≤ length l) none le))
none_left n ts ls some none (inr end) = ap (λ (l : Taken). each plain l ++ ls) none ∙ end

pub some_left : (ts : Taken) (ls : List (Bytes × Bytes)) → ts ≢ [] → each plain ts ++ ls ≢ []
some_left [] ls some is = some refl
some_left (t ∷ ts) ls some is = cc

-- ---- a page of them

pub next_page : (limit size : ℕ) (before now behind : Taken) (old left copy : List (Bytes × Bytes)) (bytes : List ℕ)
    → size ≡ page_size limit → each plain now ++ left ≡ each plain before ++ old → IsFilled size now left → now ≢ []
    → copy ≡ each plain (take size now) → bytes ≡ pairs_code copy → ArePairs copy → behind ≡ drop size now
    → IsNextPage limit (each plain before ++ old) bytes (each plain behind ++ left)
next_page limit size before now behind old left copy bytes sized kept filled some copied code known gone =
    let page : copy ≡ take (page_size limit) (each plain before ++ old) =
    copied ∙ sym (take_filled size now left filled) ∙ ap (take size) kept ∙ ap (λ n. take n (each plain before ++ old)) sized in
    record {
      some = λ none. some_left now left some (kept ∙ none);
      code = code ∙ ap pairs_code page;
      known = subst ArePairs page known;
      left =
          ap (λ (l : Taken). each plain l ++ left) gone
          ∙ sym (drop_filled size now left filled)
          ∙ ap (drop size) kept
          ∙ ap (λ n. drop n (each plain before ++ old)) sized;
    }
