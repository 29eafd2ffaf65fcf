-- What is known of a number bounds it, if it is known of this number. Assumes `Logic`.
use Rattle.std.proofs.Common.{◌≡◌, ◌≢◌, ℕ, ◌≤◌, [], ◌∷◌, sym, subst, ⊎_elim}
use Rattle.std.proofs.lemmas.Bool.Decides.{eqb_tells}
use seplogic.Ra.Ura.{Ura}
use base.Fraction.{full_share}
use base.Logic.{SProp, ent, sep, guard}
use base.Growing.{numbers, latest, at_least}
use types.Growing.{latest_bounds}
use types.Logic.{Logic, sem}
use types.Kit.{‵, ◌⊛◌, given, ◌$◌, ◌∵◌, !, qed, done, check, learn, split, use2}

module _ {M : Type 1} {𝓤 : Ura M} (𝓛 : Logic 𝓤) (γ m n : ℕ) where
  abbrev Both : ℕ → SProp 𝓤
  Both δ = sep 𝓤 (sem 𝓛 (latest numbers full_share γ m)) (sem 𝓛 (at_least numbers δ n))

  abbrev Bounds : ℕ → Type 1
  Bounds δ = ent 𝓤 (Both δ) (guard 𝓤 (δ ≡ γ → n ≤ m) (Both δ))

  same : Bounds γ
  same = qed 𝓛 (‵ (latest numbers full_share γ m) ∷ ‵ (at_least numbers γ n) ∷ []) ∵
      use2 𝓛 (given (n ≤ m) (‵ (latest numbers full_share γ m) ⊛ ‵ (at_least numbers γ n))) (latest_bounds numbers 𝓛 full_share γ m n) $ learn ! (λ below. split ! $ check ! (λ _. below) $ done !)

  other : (δ : ℕ) → δ ≢ γ → Bounds δ
  other δ differ = qed 𝓛 (‵ (latest numbers full_share γ m) ∷ ‵ (at_least numbers δ n) ∷ []) ∵ check ! (λ e. absurd (differ e)) $ done !

  pub bounded : (δ : ℕ) → Bounds δ
  bounded δ = ⊎_elim (λ t. subst Bounds (sym t.1) same) (λ t. other δ t.1) (eqb_tells δ γ)
