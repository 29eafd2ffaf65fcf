-- Small facts on options and numbers.
use Rattle.std.proofs.Common.{◌≡◌, ℕ, ◌<◌, ◌≤◌, Option, Some, None, ◌⊎◌, inl, inr, arith}
use Rattle.std.proofs.lemmas.Bool.{cases_order}

pub some_one : {A : Type 0} {v w : A} → Some v ≡ (let o : Option A = Some w in o) → v ≡ w
some_one e = cc

pub none_some : {A B : Type 0} {v : A} → None ≡ Some v → B
none_some e = absurd cc

pub order : (a b : ℕ) → (a ≤ b) ⊎ (b < a)
order a b = elim (cases_order a b) [
  | inl e ↦ inl (omega (arith, e))
  | inr o ↦ elim o [ inl lt ↦ inl (omega (arith, lt)) | inr gt ↦ inr gt ]
]
