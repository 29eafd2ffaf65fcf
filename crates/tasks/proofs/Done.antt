-- One more outcome.
use Rattle.std.proofs.Common.{◌≡◌, ℕ, ◌+◌, ◌<◌, ◌≤◌, List, [], ◌∷◌, ◌++◌, Bool, true, false, refl, sym, ap, ◌∙◌, arith, rules, append-nil}
use Rattle.std.specs.Prelude.{nat_lt, if◌then◌else◌, Some, None}
use Rattle.std.proofs.lemmas.List.Elements.{All-same, All-push}
use Rattle.claims.specs.Seats.{Drawer, Claimed}
use Rattle.tasks.specs.Outcomes.{held_in, numbers_of, early, AreFit}

pub numbers_of_push : {O : Type 0} (os : List (ℕ × O)) (o : ℕ × O) → numbers_of (os ++ o ∷ []) ≡ numbers_of os ++ o.0 ∷ []
numbers_of_push [] o = refl
numbers_of_push (x ∷ os) o = ap (λ l. x.0 ∷ l) (numbers_of_push os o)

pub held_in_push : {O : Type 0} (held : O → ℕ) (os : List (ℕ × O)) (o : ℕ × O) → held_in held (os ++ o ∷ []) ≡ held_in held os + held o.1
held_in_push held [] o = omega arith
held_in_push held (x ∷ os) o = omega (arith, held_in_push held os o)

pub early_push : (t : ℕ) (xs : List ℕ) (x : ℕ) → early t (xs ++ x ∷ []) ≡ early t xs ++ early t (x ∷ [])
early_push t [] x = refl
early_push t (y ∷ xs) x = go (nat_lt y t) (early t xs) (early t (x ∷ [])) (early t (xs ++ x ∷ [])) (early_push t xs x)
  where
    go : (b : Bool) (l r m : List ℕ) → m ≡ l ++ r → (if b then y ∷ m else m) ≡ (if b then y ∷ l else l) ++ r
    go true l r m e = ap (λ k. y ∷ k) e
    go false l r m e = e

pub early_more : (t : ℕ) (xs : List ℕ) (x : ℕ) → x < t → early t (xs ++ x ∷ []) ≡ early t xs ++ x ∷ []
early_more t xs x lt = early_push t xs x ∙ ap (λ l. early t xs ++ l) (grind (arith, rules))

pub early_same : (t : ℕ) (xs : List ℕ) (x : ℕ) → t ≤ x → early t (xs ++ x ∷ []) ≡ early t xs
early_same t xs x le = early_push t xs x ∙ ap (λ l. early t xs ++ l) (grind (arith, rules)) ∙ append-nil (early t xs)

pub one_more : {O : Type 0} (t : ℕ) (os now : List (ℕ × O)) (o : O) (v w : Drawer) (n : ℕ) → numbers_of os ≡ early t v.drawn → now ≡ os ++ (n, o) ∷ [] → Claimed t v (Some n) w
    → numbers_of now ≡ early t w.drawn
one_more t os now o v w n kept_receipts is k =
    ap numbers_of is ∙ numbers_of_push os (n, o) ∙ ap (λ l. l ++ n ∷ []) kept_receipts ∙ sym (early_more t v.drawn n k.1) ∙ ap (λ (d : Drawer). early t d.drawn) (sym k.2)

pub none_more : {O : Type 0} (t : ℕ) (os : List (ℕ × O)) (v w : Drawer) → numbers_of os ≡ early t v.drawn → Claimed t v None w → numbers_of os ≡ early t w.drawn
none_more t os v w kept_receipts k = go v.done refl
  where
    go : (b : Bool) → v.done ≡ b → numbers_of os ≡ early t w.drawn
    go true e = kept_receipts ∙ ap (λ (d : Drawer). early t d.drawn) (sym (k.0 e))
    go false e = let m = k.1 e in kept_receipts ∙ sym (early_same t v.drawn m.0 m.1) ∙ ap (λ (d : Drawer). early t d.drawn) (sym m.2)

pub fit_more : {O : Type 0} (fits : ℕ → O → Type 0) (os now : List (ℕ × O)) (n : ℕ) (o : O) → now ≡ os ++ (n, o) ∷ [] → AreFit fits os → fits n o → AreFit fits now
fit_more {O = O} fits os now n o is all one = All-same (λ (x : ℕ × O). fits x.0 x.1) now (os ++ (n, o) ∷ []) is (All-push (λ (x : ℕ × O). fits x.0 x.1) os (n, o) all one)

pub held_more : {O : Type 0} (held : O → ℕ) (os now : List (ℕ × O)) (n : ℕ) (o : O) → now ≡ os ++ (n, o) ∷ [] → held_in held now ≡ held_in held os + held o
held_more held os now n o is = ap (held_in held) is ∙ held_in_push held os (n, o)
