-- A loop of steps that may fail.
use Rattle.std.proofs.Common.{◌≡◌, ℕ, ◌+◌, ◌<◌, ◌≤◌, List, length, get_or, drop, Result, Ok, sym, ap, subst, ◌∙◌, inl, inr}
use Rattle.std.proofs.lemmas.List.{at_drop_more, at_drop_all}
use Rattle.collections.specs.Answers.{FailsOr, ◌>>>=◌, try_fold}

-- a fault goes past the steps after
pub FailsOr-bind : {A B E : Type 0} (memory e : E) (r : Result A E) (f : A → Result B E) → FailsOr memory e r → FailsOr memory e (r >>>= f)
FailsOr-bind memory e r f (inl m) = inl m
FailsOr-bind memory e r f (inr h) = inr (ap (λ x. x >>>= f) h)

-- the step at the place i
pub try_step : {S X E : Type 0} (f : S → X → Result S E) (s : S) (xs : List X) (i : ℕ) (d x : X) (total : Result S E) → i < length xs → x ≡ get_or xs i d → try_fold f s (drop i xs) ≡ total → (f s x >>>= λ t. try_fold f t (drop (i + 1) xs)) ≡ total
try_step f s xs i d x total lt is so_far =
    ap (λ y. f s y >>>= λ t. try_fold f t (drop (i + 1) xs)) is ∙ sym (at_drop_more (try_fold f s) xs i d lt) ∙ so_far

pub try_more : {S X E : Type 0} (f : S → X → Result S E) (s : S) (xs : List X) (i : ℕ) (d x : X) (t : S) (total : Result S E) → i < length xs → x ≡ get_or xs i d → f s x ≡ Ok t → try_fold f s (drop i xs) ≡ total → try_fold f t (drop (i + 1) xs) ≡ total
try_more f s xs i d x t total lt is h so_far = sym (ap (λ r. r >>>= λ t. try_fold f t (drop (i + 1) xs)) h) ∙ try_step f s xs i d x total lt is so_far

pub try_fails : {S X E : Type 0} (memory e : E) (f : S → X → Result S E) (s : S) (xs : List X) (i : ℕ) (d x : X) (total : Result S E) → i < length xs → x ≡ get_or xs i d → FailsOr memory e (f s x) → try_fold f s (drop i xs) ≡ total → FailsOr memory e total
try_fails memory e f s xs i d x total lt is h so_far =
    subst (FailsOr memory e) (try_step f s xs i d x total lt is so_far) (FailsOr-bind memory e (f s x) (λ t. try_fold f t (drop (i + 1) xs)) h)

pub try_done : {S X E : Type 0} (f : S → X → Result S E) (s : S) (xs : List X) (i : ℕ) (total : Result S E) → length xs ≤ i → try_fold f s (drop i xs) ≡ total → total ≡ Ok s
try_done f s xs i total le so_far = sym so_far ∙ at_drop_all (try_fold f s) xs i le
