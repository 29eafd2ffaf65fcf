-- Cited by proofs and by the specs that need them: Tables, Clears, RequiredLaws, Effects and 3 more.
-- Values that differ: small facts without tactics, for the other files of specs.
use Rattle.std.specs.Prelude.{◌≡◌, ◌≢◌, ℕ, ◌+◌, ◌<◌, true, false, Option, Some, None, unwrap_or}
use Rattle.std.specs.declared.cmp.Ordering.{Ordering}
use Rattle.std.specs.declared.cmp.Ordering.TheVariants.{Less, Equal, Greater}
use Rattle.std.proofs.Common.{true≢false, sym, ap, subst, ◌∙◌}
use Rattle.std.proofs.Math.Nat.{lt_trans}
use Rattle.std.proofs.Math.Numerals.{lt-add-one}
use Rattle.schema_version.specs.declared.element.ElementState.{ElementState}
use Rattle.schema_version.specs.declared.element.ElementState.TheVariants.{Absent, DeleteOnly, WriteOnly, Public}

-- there is no value
abbrev IsNothing : {A : Type 0} → Option A → Type 0
IsNothing None = Unit {0}
IsNothing (Some v) = ⊥

pub none_some : {A : Type 0} (v : A) → None ≡ Some v → ⊥
none_some v e = subst IsNothing e tt

pub some_one : {A : Type 0} (v w : A) → Some v ≡ Some w → v ≡ w
some_one v w e = ap (λ o. unwrap_or o v) e

pub not_none : {A : Type 0} (v : A) (o : Option A) → o ≡ Some v → o ≡ None → ⊥
not_none v o e f = none_some v (sym f ∙ e)

pub false_true : false ≡ true → ⊥
false_true e = true≢false (sym e)

-- an order other than `Less`
abbrev pub IsNotLess : Ordering → Type 0
IsNotLess Less = ⊥
IsNotLess Equal = Unit {0}
IsNotLess Greater = Unit {0}

pub other_not_less : (o : Ordering) → IsNotLess o → o ≢ Less
other_not_less o h e = subst IsNotLess e h

-- a state other than public
abbrev pub IsHidden : ElementState → Type 0
IsHidden Absent = Unit {0}
IsHidden DeleteOnly = Unit {0}
IsHidden WriteOnly = Unit {0}
IsHidden Public = ⊥

pub hidden_not_public : (q : ElementState) → IsHidden q → q ≢ Public
hidden_not_public q h e = subst IsHidden e h

pub below_next : (n m : ℕ) → n + 1 < m → n < m
below_next n m h = lt_trans (lt-add-one n) h
