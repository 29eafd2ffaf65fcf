-- What each worker slot's run keeps, all keep.
use Rattle.std.proofs.Common.{◌≡◌, ℕ, ◌+◌, ◌<◌, ◌≤◌, List, [], ◌∷◌, length, map, All, suc, refl, ◌∙◌, sum_by, sym, subst, arith}
use Rattle.std.proofs.lemmas.List.Sums.{sum_by-cons}
use Rattle.std.specs.Prelude.{slice_index_or}
use Rattle.tasks.specs.Outcomes.{held_in, held_all, AreFit, IsOnPlan, StaysOnPlan}

stays : {W P O : Type 0} (plan_of : W → P) (fits : P → ℕ → O → Type 0) (plan : P) (v : W) (os : List (ℕ × O)) (w : W) (ps : List (ℕ × O))
    → StaysOnPlan plan_of fits v os w ps → IsOnPlan plan_of fits plan v os → IsOnPlan plan_of fits plan w ps
unfolding StaysOnPlan
stays plan_of fits plan v os w ps kept_receipts on = (kept_receipts.0 ∙ on.0, subst (λ p. AreFit (fits p) ps) on.0 (kept_receipts.1 (subst (λ p. AreFit (fits p) os) (sym on.0) on.1)))

pub all_stay : {S W P O : Type 0} (worker : S → W) (done : S → List (ℕ × O)) (plan_of : W → P) (fits : P → ℕ → O → Type 0) (plan : P) (vs ws : List S) → length ws ≡ length vs
    → ((i : ℕ) (d : S) → i < length vs
    → StaysOnPlan plan_of fits (worker (slice_index_or vs i d)) (done (slice_index_or vs i d)) (worker (slice_index_or ws i d)) (done (slice_index_or ws i d)))
    → All (λ s. IsOnPlan plan_of fits plan (worker s) (done s)) vs → All (λ s. IsOnPlan plan_of fits plan (worker s) (done s)) ws
all_stay worker done plan_of fits plan vs ws len each all i d lt = stays plan_of fits plan _ _ _ _ (each i d (omega arith)) (all i d (omega arith))

pub all_same : {S A : Type 0} (f : S → A) (vs ws : List S) → length ws ≡ length vs
    → ((i : ℕ) (d : S) → i < length vs → f (slice_index_or ws i d) ≡ f (slice_index_or vs i d)) → map f ws ≡ map f vs
all_same f [] [] e each = refl
all_same f [] (w ∷ ws) e each = absurd (omega arith)
all_same f (v ∷ vs) [] e each = absurd (omega arith)
all_same f (v ∷ vs) (w ∷ ws) e each =
    let head : f w ≡ f v = each 0 v (omega arith) in
    let tail : map f ws ≡ map f vs = all_same f vs ws (omega arith) (λ i d lt. each (suc i) d (omega arith)) in cc

-- the counts rise by the receipts
pub all_count : {S W O : Type 0} (worker : S → W) (done : S → List (ℕ × O)) (count kept_receipts : W → ℕ) (held : O → ℕ) (vs ws : List S) → length ws ≡ length vs
    → ((i : ℕ) (d : S) → i < length vs
    → count (worker (slice_index_or ws i d)) + kept_receipts (worker (slice_index_or vs i d)) + held_in held (done (slice_index_or vs i d)) ≡ count (worker (slice_index_or vs i d)) + kept_receipts (worker (slice_index_or ws i d)) + held_in held (done (slice_index_or ws i d)))
    → sum_by count (map worker ws) + sum_by kept_receipts (map worker vs) + held_all held (map done vs) ≡ sum_by count (map worker vs) + sum_by kept_receipts (map worker ws) + held_all held (map done ws)
all_count worker done count kept_receipts held [] [] e each = refl
all_count worker done count kept_receipts held [] (w ∷ ws) e each = absurd (omega arith)
all_count worker done count kept_receipts held (v ∷ vs) [] e each = absurd (omega arith)
all_count worker done count kept_receipts held (v ∷ vs) (w ∷ ws) e each =
    omega (
      arith,
      each 0 v (omega arith),
      all_count worker done count kept_receipts held vs ws (omega arith) (λ i d lt. each (suc i) d (omega arith)),
      sum_by-cons count (worker v) (map worker vs),
      sum_by-cons count (worker w) (map worker ws),
      sum_by-cons kept_receipts (worker v) (map worker vs),
      sum_by-cons kept_receipts (worker w) (map worker ws),
    )

-- the failed tries rise by at least those that the outcomes tell of
pub all_tried : {S W O : Type 0} (worker : S → W) (done : S → List (ℕ × O)) (failed : W → ℕ) (reported : O → ℕ) (vs ws : List S) → length ws ≡ length vs
    → ((i : ℕ) (d : S) → i < length vs
    → failed (worker (slice_index_or vs i d)) + held_in reported (done (slice_index_or ws i d)) ≤ failed (worker (slice_index_or ws i d)) + held_in reported (done (slice_index_or vs i d)))
    → sum_by failed (map worker vs) + held_all reported (map done ws) ≤ sum_by failed (map worker ws) + held_all reported (map done vs)
all_tried worker done failed reported [] [] e each = omega arith
all_tried worker done failed reported [] (w ∷ ws) e each = absurd (omega arith)
all_tried worker done failed reported (v ∷ vs) [] e each = absurd (omega arith)
all_tried worker done failed reported (v ∷ vs) (w ∷ ws) e each =
    omega (
      arith,
      each 0 v (omega arith),
      all_tried worker done failed reported vs ws (omega arith) (λ i d lt. each (suc i) d (omega arith)),
      sum_by-cons failed (worker v) (map worker vs),
      sum_by-cons failed (worker w) (map worker ws),
    )
