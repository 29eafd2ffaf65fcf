-- Reading items one after the other, as a loop does.
use Rattle.std.proofs.Common.{◌≡◌, ℕ, suc, ◌-◌, ◌+◌, ◌≤◌, ◌<◌, List, [], ◌∷◌, ◌++◌, Result, Ok, refl, sym, ap, subst, ◌∙◌, arith}
use Rattle.collections.specs.Answers.{FailsOr, ◌>>>=◌}
use Rattle.collections.proofs.Tries.{FailsOr-bind}
use Rattle.entry_code.specs.declared.fault.CodeFault.{CodeFault}
use Rattle.entry_code.specs.declared.fault.CodeFault.TheVariants.{Memory}
use Rattle.entry_code.specs.inner.At.{At, items_at}

-- one item more is left
unrolled : {X : Type 0} (at : At X) (before : List X) (count i : ℕ) (bytes : List ℕ) → i < count
    → items_at at before (count - i) bytes ≡ (at bytes >>>= λ x. items_at at (before ++ x.0 ∷ []) (count - (i + 1)) x.1)
unfolding items_at
unrolled at before count i bytes lt =
    let k : count - i ≡ suc (count - (i + 1)) = omega arith in
    rw k refl

pub goes_on : {X : Type 0} (at : At X) (before : List X) (count i : ℕ) (bytes : List ℕ) (x : X) (after : List ℕ) (total : Result (List X × List ℕ) CodeFault) → i < count → at bytes ≡ Ok (x, after)
    → items_at at before (count - i) bytes ≡ total → items_at at (before ++ x ∷ []) (count - (i + 1)) after ≡ total
goes_on at before count i bytes x after total lt h so_far =
    sym (unrolled at before count i bytes lt ∙ ap (λ r. r >>>= λ y. items_at at (before ++ y.0 ∷ []) (count - (i + 1)) y.1) h) ∙ so_far

pub ends : {X : Type 0} (at : At X) (e : CodeFault) (before : List X) (count i : ℕ) (bytes : List ℕ) (total : Result (List X × List ℕ) CodeFault) → i < count → FailsOr Memory e (at bytes)
    → items_at at before (count - i) bytes ≡ total → FailsOr Memory e total
ends at e before count i bytes total lt h so_far =
    subst (FailsOr Memory e) (sym (unrolled at before count i bytes lt) ∙ so_far) (FailsOr-bind Memory e (at bytes) (λ y. items_at at (before ++ y.0 ∷ []) (count - (i + 1)) y.1) h)

pub is_done : {X : Type 0} (at : At X) (before : List X) (count i : ℕ) (bytes : List ℕ) (total : Result (List X × List ℕ) CodeFault) → count ≤ i → items_at at before (count - i) bytes ≡ total → total ≡ Ok (before, bytes)
unfolding items_at
is_done at before count i bytes total le so_far =
    let k : count - i ≡ 0 = omega arith in
    let one : items_at at before (count - i) bytes ≡ Ok (before, bytes) = rw k refl in
    sym so_far ∙ one
