-- Cited by the contracts of row_map::row_from_pairs, script_grammar::read_command.
-- What a function answers that may be refused memory.
use Rattle.std.specs.Prelude.{◌≡◌, ◌⊎◌, List, [], ◌∷◌, Result, Ok, Err}

-- the fault of what is meant, or out of memory
abbrev pub FailsOr : {Y E : Type 0} → E → E → Result Y E → Type 0
FailsOr memory e meant = (e ≡ memory) ⊎ (meant ≡ Err e)

-- What a function answered, seen by view, is what is meant, unless memory ran out.
abbrev pub GivesOr : {X Y E : Type 0} → E → (X → Y) → Result X E → Result Y E → Type 0
GivesOr memory view (Ok x) meant = meant ≡ Ok (view x)
GivesOr memory view (Err e) meant = FailsOr memory e meant

-- one step after another, as `?`
infixl 10 ◌>>>=◌
abbrev pub ◌>>>=◌ : {A B E : Type 0} → Result A E → (A → Result B E) → Result B E
(Ok x) >>>= f = f x
(Err e) >>>= f = Err e

-- a loop of such steps
abbrev pub try_fold : {S X E : Type 0} → (S → X → Result S E) → S → List X → Result S E
try_fold f s [] = Ok s
try_fold f s (x ∷ xs) = f s x >>>= λ t. try_fold f t xs
