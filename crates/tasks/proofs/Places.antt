-- Outcomes that go to their places.
use Rattle.std.proofs.Common.{◌≡◌, ◌≢◌, ℕ, ◌+◌, ◌<◌, ◌≤◌, List, [], ◌∷◌, ◌++◌, length, All, suc, zero, set, Bool, true, false, refl, sym, ap, ◌∙◌, subst, arith, rules, get_or-set_same, get_or-set_other, length-set, length-append}
use Rattle.std.specs.Prelude.{slice_index_or, nat_lt, if◌then◌else◌}
use Rattle.std.proofs.lemmas.List.Elements.{All-cons}
use mathlib.Core.Logic.{dite}
use native.Mathlib.Decide.{ℕ_discrete}
use Rattle.claims.specs.Draws.{times, one_if, once_below}
use Rattle.claims.specs.Seats.{Drawer, all_drawn}
use Rattle.claims.proofs.Totals.{times_append, all_drawn_push}
use Rattle.tasks.specs.Outcomes.{held_in, numbers_of, early, IsRow, AreFree, AreOnce}
use Rattle.tasks.proofs.Done.{numbers_of_push, held_in_push}

-- one outcome more, at the end

in_front : {A : Type 0} (os : List A) (a : A) (k : ℕ) (d : A) → k < length os → slice_index_or (os ++ a ∷ []) k d ≡ slice_index_or os k d
in_front [] a k d lt = absurd (omega arith)
in_front (y ∷ os) a zero d lt = refl
in_front (y ∷ os) a (suc k) d lt = in_front os a k d (omega arith)

at_end : {A : Type 0} (os : List A) (a : A) (k : ℕ) (d : A) → k ≡ length os → slice_index_or (os ++ a ∷ []) k d ≡ a
at_end [] a zero d e = refl
at_end [] a (suc k) d e = absurd (omega arith)
at_end (y ∷ os) a zero d e = absurd (omega arith)
at_end (y ∷ os) a (suc k) d e = at_end os a k d (omega arith)

pub all_init : {A : Type 0} (P : A → Type 0) (all init : List A) (x : A) → all ≡ init ++ x ∷ [] → All P all → All P init
all_init P all init x is each k d lt =
    subst P (ap (λ l. slice_index_or l k d) is ∙ in_front init x k d lt) (each k d (omega (arith, ap length is, length-append init (x ∷ []))))

pub all_last : {A : Type 0} (P : A → Type 0) (all init : List A) (x : A) → all ≡ init ++ x ∷ [] → All P all → P x
all_last P all init x is each =
    subst P (ap (λ l. slice_index_or l (length init) x) is ∙ at_end init x (length init) x refl) (each (length init) x (omega (arith, ap length is, length-append init (x ∷ []))))

pub row_more : {O : Type 0} (n : ℕ) (os now : List (ℕ × O)) (o : O) → now ≡ os ++ (n, o) ∷ [] → IsRow n os → IsRow (n + 1) now
row_more {O = O} n os now o is row = (
  ap length is ∙ omega (arith, length-append os ((n, o) ∷ []), row.0),
  λ k d lt. ap (λ (l : List (ℕ × O)). (slice_index_or l k d).0) is
      ∙ dite (ℕ_discrete k n) (λ e. ap (λ (y : ℕ × O). y.0) (at_end os (n, o) k d (omega (arith, row.0))) ∙ sym e)
      (λ ne. ap (λ (y : ℕ × O). y.0) (in_front os (n, o) k d (omega (arith, row.0))) ∙ row.1 k d (omega arith)),
)

pub none_more : {O : Type 0} (held : O → ℕ) (os now : List (ℕ × O)) (n : ℕ) (o : O) → now ≡ os ++ (n, o) ∷ [] → held_in held os ≡ 0 → held o ≡ 0 → held_in held now ≡ 0
none_more held os now n o is none one = ap (held_in held) is ∙ omega (arith, held_in_push held os (n, o), none, one)

-- one outcome at its place

held_set : {O : Type 0} (held : O → ℕ) (os : List (ℕ × O)) (k : ℕ) (o d : ℕ × O) → k < length os → held_in held (set os k o) + held (slice_index_or os k d).1 ≡ held_in held os + held o.1
held_set held [] k o d lt = absurd (omega arith)
held_set held (y ∷ os) zero o d lt = omega arith
held_set held (y ∷ os) (suc k) o d lt = omega (arith, held_set held os k o d (omega arith))

times_last : {O : Type 0} (x : ℕ) (ds done : List (ℕ × O)) (k : ℕ) (o : O) → done ≡ ds ++ (k, o) ∷ [] → times x (numbers_of done) ≡ times x (numbers_of ds) + one_if x k
times_last {O = O} x ds done k o is = ap (λ (l : List (ℕ × O)). times x (numbers_of l)) is ∙ ap (times x) (numbers_of_push ds (k, o)) ∙ times_append x (numbers_of ds) (k ∷ []) ∙ omega arith

one_if_same : (k : ℕ) → one_if k k ≡ 1
one_if_same k = grind (arith, rules)

pub fewer_more : {O : Type 0} (whole : List ℕ) (ds done : List (ℕ × O)) (k : ℕ) (o : O) → done ≡ ds ++ (k, o) ∷ []
    → ((x : ℕ) → times x (numbers_of done) ≤ times x whole) → (x : ℕ) → times x (numbers_of ds) ≤ times x whole
fewer_more whole ds done k o is fewer x = omega (arith, times_last x ds done k o is, fewer x)

pub row_set : {O : Type 0} (n : ℕ) (os : List (ℕ × O)) (k : ℕ) (o : O) → k < n → IsRow n os → IsRow n (set os k (k, o))
row_set {O = O} n os k o lt row =
    let len = row.0 in
    let inside : k < length os = omega arith in (
      length-set os k (k, o) ∙ len,
      λ j d below. dite (ℕ_discrete j k)
          (λ e. ap (λ (y : ℕ). (slice_index_or (set os k (k, o)) y d).0) e ∙ ap (λ (y : ℕ × O). y.0) (get_or-set_same os k (k, o) d inside) ∙ sym e)
          (λ ne. ap (λ (y : ℕ × O). y.0) (get_or-set_other os k j (k, o) d ne) ∙ row.1 j d below),
    )

-- another place than that of a number that is there
other : {O : Type 0} (whole : List ℕ) (ds done : List (ℕ × O)) (k : ℕ) (o : O) → done ≡ ds ++ (k, o) ∷ []
    → ((x : ℕ) → times x (numbers_of done) ≤ times x whole) → (x : ℕ) → times x whole ≡ 0 → x ≢ k
other whole ds done k o is fewer x none e =
    let here : times k whole ≡ 0 = subst (λ y. times y whole ≡ 0) e none in
    let last = times_last k ds done k o is in
    let one = one_if_same k in
    let few = fewer k in omega arith

pub others_more : {O : Type 0} (whole : List ℕ) (start os now ds done : List (ℕ × O)) (k : ℕ) (o : O) → done ≡ ds ++ (k, o) ∷ [] → now ≡ set os k (k, o)
    → ((x : ℕ) → times x (numbers_of done) ≤ times x whole)
    → ((x : ℕ) → times x whole ≡ 0 → (d : ℕ × O) → slice_index_or os x d ≡ slice_index_or start x d)
    → (x : ℕ) → times x whole ≡ 0 → (d : ℕ × O) → slice_index_or now x d ≡ slice_index_or start x d
others_more {O = O} whole start os now ds done k o is now_is fewer same x none d =
    ap (λ (l : List (ℕ × O)). slice_index_or l x d) now_is ∙ get_or-set_other os k x (k, o) d (other whole ds done k o is fewer x none) ∙ same x none d

-- the places of numbers that are still to come stay free, and no receipt is written over
pub free_more : {O : Type 0} (held : O → ℕ) (whole : List ℕ) (os ds done : List (ℕ × O)) (k : ℕ) (o : O) → done ≡ ds ++ (k, o) ∷ [] → k < length os
    → ((x : ℕ) → times x (numbers_of done) ≤ times x whole) → AreOnce whole → AreFree held (numbers_of done) os
    → AreFree held (numbers_of ds) (set os k (k, o)) × (held_in held (set os k (k, o)) ≡ held_in held os + held o)
free_more {O = O} held whole os ds done k o is inside fewer once free =
    let last = times_last k ds done k o is in
    let one = one_if_same k in
    let few = fewer k in
    let most = once k in
    let gone : times k (numbers_of ds) ≡ 0 = omega arith in
    let some_here : 0 < times k (numbers_of done) = omega arith in (
      (λ x d some within.
          let ne : x ≢ k = λ (e : x ≡ k). let none : times x (numbers_of ds) ≡ 0 = subst (λ y. times y (numbers_of ds) ≡ 0) (sym e) gone in omega arith in
          let more : 0 < times x (numbers_of done) = omega (arith, times_last x ds done k o is) in
          ap (λ (y : ℕ × O). held y.1) (get_or-set_other os k x (k, o) d ne) ∙ free x d more (omega (arith, length-set os k (k, o)))),
      omega (arith, held_set held os k (k, o) (k, o) inside, free k (k, o) some_here inside),
    )

-- the outcomes of one worker

early_times : (x t : ℕ) (xs : List ℕ) → times x (early t xs) ≤ times x xs
early_times x t [] = omega arith
early_times x t (y ∷ xs) = go (nat_lt y t) (early t xs) (early_times x t xs)
  where
    go : (b : Bool) (l : List ℕ) → times x l ≤ times x xs → times x (if b then y ∷ l else l) ≤ one_if x y + times x xs
    go true l h = omega arith
    go false l h = omega arith

below_early : (t : ℕ) (xs : List ℕ) → All (λ y. y < t) (early t xs)
below_early t [] = λ k d lt. absurd (omega arith)
below_early t (y ∷ xs) = go (nat_lt y t) refl (early t xs) (below_early t xs)
  where
    go : (b : Bool) → nat_lt y t ≡ b → (l : List ℕ) → All (λ z. z < t) l → All (λ z. z < t) (if b then y ∷ l else l)
    go true e l all = All-cons (λ z. z < t) y l (grind (arith, rules)) all
    go false e l all = all

numbers_below : {O : Type 0} (t : ℕ) (os : List (ℕ × O)) → All (λ y. y < t) (numbers_of os) → All (λ o. o.0 < t) os
numbers_below t [] all k d lt = absurd (omega arith)
numbers_below t (o ∷ os) all zero d lt = all 0 0 (omega arith)
numbers_below t (o ∷ os) all (suc k) d lt = numbers_below t os (λ j e l. all (suc j) e (omega arith)) k d (omega arith)

pub done_inside : {O : Type 0} (t : ℕ) (os : List (ℕ × O)) (xs : List ℕ) → numbers_of os ≡ early t xs → All (λ o. o.0 < t) os
done_inside t os xs is = numbers_below t os (subst (λ l. All (λ y. y < t) l) (sym is) (below_early t xs))

done_times : {O : Type 0} (x t : ℕ) (os : List (ℕ × O)) (xs : List ℕ) → numbers_of os ≡ early t xs → times x (numbers_of os) ≤ times x xs
done_times x t os xs is = omega (arith, ap (times x) is, early_times x t xs)

-- a row without receipts is free at each place
pub held_none : {O : Type 0} (held : O → ℕ) (os : List (ℕ × O)) → held_in held os ≡ 0 → (x : ℕ) (d : ℕ × O) → x < length os → held (slice_index_or os x d).1 ≡ 0
held_none held [] none x d lt = absurd (omega arith)
held_none held (o ∷ os) none zero d lt = omega arith
held_none held (o ∷ os) none (suc x) d lt = held_none held os (omega arith) x d (omega arith)

times_seats : (x : ℕ) (ss now : List Drawer) (s : Drawer) → now ≡ ss ++ s ∷ [] → times x (all_drawn now) ≡ times x (all_drawn ss) + times x s.drawn
times_seats x ss now s is = ap (λ (l : List Drawer). times x (all_drawn l)) is ∙ ap (times x) (all_drawn_push ss s) ∙ times_append x (all_drawn ss) s.drawn

-- places of numbers that no seat so far has drawn stay as they were
pub still_free : {O : Type 0} (held : O → ℕ) (t : ℕ) (ss seats : List Drawer) (s : Drawer) (os now done : List (ℕ × O)) → seats ≡ ss ++ s ∷ [] → numbers_of done ≡ early t s.drawn
    → length now ≡ length os
    → ((x : ℕ) → times x (numbers_of done) ≡ 0 → (d : ℕ × O) → slice_index_or now x d ≡ slice_index_or os x d)
    → ((x : ℕ) (d : ℕ × O) → times x (all_drawn ss) ≡ 0 → x < length os → held (slice_index_or os x d).1 ≡ 0)
    → (x : ℕ) (d : ℕ × O) → times x (all_drawn seats) ≡ 0 → x < length now → held (slice_index_or now x d).1 ≡ 0
still_free {O = O} held t ss seats s os now done is numbers len others free x d none lt =
    let sum = times_seats x ss seats s is in
    let few = done_times x t done s.drawn numbers in
    ap (λ (y : ℕ × O). held y.1) (others x (omega arith) d) ∙ free x d (omega arith) (omega arith)

-- where all that was drawn was drawn once, so were a worker's numbers, and their places are free
pub once_here : {O : Type 0} (t : ℕ) (ss seats : List Drawer) (s : Drawer) (done : List (ℕ × O)) → seats ≡ ss ++ s ∷ [] → numbers_of done ≡ early t s.drawn → AreOnce (all_drawn seats)
    → AreOnce (all_drawn ss) × AreOnce (numbers_of done)
once_here t ss seats s done is numbers once = (
  (λ x. omega (arith, times_seats x ss seats s is, once x)),
  (λ x. omega (arith, times_seats x ss seats s is, once x, done_times x t done s.drawn numbers)),
)

pub free_here : {O : Type 0} (held : O → ℕ) (t : ℕ) (ss seats : List Drawer) (s : Drawer) (os done : List (ℕ × O)) → seats ≡ ss ++ s ∷ [] → numbers_of done ≡ early t s.drawn
    → AreOnce (all_drawn seats)
    → ((x : ℕ) (d : ℕ × O) → times x (all_drawn ss) ≡ 0 → x < length os → held (slice_index_or os x d).1 ≡ 0)
    → AreFree held (numbers_of done) os
free_here held t ss seats s os done is numbers once free x d some lt =
    free x d (omega (arith, times_seats x ss seats s is, once x, done_times x t done s.drawn numbers)) lt

pub are_once : (xs : List ℕ) (n : ℕ) → ((x : ℕ) → times x xs ≡ once_below x n) → AreOnce xs
are_once xs n is x = let e = is x in let few : once_below x n ≤ 1 = grind (arith, rules) in omega arith
