-- The element of a check has the number by which it is found.
use Rattle.std.proofs.Common.{◌≡◌, ℕ, ◌==◌, Bool, true, false, cond, List, [], ◌∷◌, Some, refl, sym, ap, ◌∙◌, eqb-true}
use Rattle.std.specs.List.{find}
use Rattle.std.proofs.lemmas.Option.{same_Some}
use Rattle.schema_version.specs.declared.element.ElementDef.{ElementDef}
use Rattle.schema_version.specs.Version.{Version}
use Rattle.element_state.specs.lemmas.Apart.{none_some}
use Rattle.audit.specs.Audit.{numbered}

find_true : {X : Type 0} (p : X → Bool) (xs : List X) (x : X) → find p xs ≡ Some x → p x ≡ true
find_true p [] x e = absurd (none_some x e)
find_true p (y ∷ ys) x e =
    elim (p y) as (λ b. p y ≡ b → cond b (Some y) (find p ys) ≡ Some x → p x ≡ true) [
      | true ↦ λ is s. ap p (sym (same_Some y x s)) ∙ is
      | false ↦ λ is s. find_true p ys x s
    ] refl e

-- an element that is found by a number has it
pub found_by_own : (version : Version) (number : ℕ) (element : ElementDef) → numbered version number ≡ Some element → numbered version element.number ≡ Some element
found_by_own version number element e =
    let own : element.number ≡ number = eqb-true element.number number (find_true (λ (d : ElementDef). d.number == number) _ element e) in
    ap (numbered version) own ∙ e
