-- The columns that a live index lists don't change in an allowed step.
use Rattle.std.proofs.Common.{◌≡◌, ℕ, true, false, List, ◌∷◌, ◌++◌, Option, Some, inl, inr, sym, ap, subst, ◌∙◌, Contains}
use Rattle.schema_version.proofs.Decides.{column_depends}
use Rattle.schema_version.specs.declared.element.ElementState.{ElementState}
use Rattle.schema_version.specs.declared.element.ElementDef.{ElementDef}
use Rattle.schema_version.specs.declared.element.NewElement.{NewElement}
use Rattle.schema_version.specs.declared.step.Move.{Move}
use Rattle.schema_version.specs.declared.step.Move.TheVariants.{Enter, Go, Turn}
use Rattle.schema_version.specs.declared.step.StepFault.TheVariants.{Dependent}
use Rattle.schema_version.specs.Version.{Version, element_at, state_of, state_or_absent, is_public, indexed_columns, type_of_kind}
use Rattle.schema_version.specs.Moves.{after_step, is_move_of, moves_element, IsAllowed}
use Rattle.schema_version.specs.Steps.{Change, Stays, Enters, Goes, Turns, StepsStaySound, IndexedColumnsStay}
use Rattle.schema_version.specs.Sound.{IsSoundVersion}
use Rattle.schema_version.proofs.Lists.{some_same, not_both, any_from}
use Rattle.schema_version.proofs.Changes.{none_there, its_go, its_turn}
use Rattle.schema_version.proofs.StepEffects.{split_at, clear, may_turn, change_at}
use Rattle.schema_version.proofs.Along.{least_there, ready, step_sound, ordered_of, same_else}

module _ (v : Version) (step : List Move) (sound : IsSoundVersion v) (allowed : IsAllowed v step) where
  -- of an index that was there
  under_old : (n c : ℕ) (index : ElementDef) → element_at v n ≡ Some index → Contains (indexed_columns index.kind) c → element_at (after_step v step) c ≡ element_at v c
  under_old n c index at there = by (change_at v step allowed (ordered_of v sound) c)
    where
      by : Change step v.next c (element_at v c) (element_at (after_step v step) c) → element_at (after_step v step) c ≡ element_at v c
      by (Stays same) = same
      by (Enters fresh to among le none is) = let column = (sound.elements n index at).columns c there in absurd (none_there column.0 (element_at v c) none column.2)
      by (Goes x to among was is) =
          let column = (sound.elements n index at).columns c there in
          let type = ap (λ (e : ElementDef). type_of_kind e.kind) (some_same (sym was ∙ column.2)) ∙ column.4 in
          let s = split_at step (Go c to) among in
          let least = least_there v c n (λ m e at_m. (sound.elements m e at_m).own) (index, at, there) in
          absurd (clear v step allowed s.0 s.1 c to x (Dependent least.0) s.2 was (column_depends v step c x.kind column.1 least.0 type least.1))
      by (Turns x among was is) =
          let column = (sound.elements n index at).columns c there in
          let s = split_at step (Turn c) among in
          absurd ((may_turn v step allowed s.0 s.1 c x s.2 was).0 (ap (λ (e : ElementDef). e.state) (some_same (sym was ∙ column.2)) ∙ column.5))

  -- of one that enters
  under_new : (c : ℕ) (fresh : NewElement) (to : ElementState) → Contains step (Enter fresh to) → Contains (indexed_columns fresh.kind) c → element_at (after_step v step) c ≡ element_at v c
  under_new c fresh to among there = by (change_at v step allowed (ordered_of v sound) c)
    where
      s : (before after : List Move) × (step ≡ before ++ Enter fresh to ∷ after)
      s = split_at step (Enter fresh to) among

      r : (is_public (state_of v c) ≡ true) × (moves_element step c ≡ false)
      r = ready v step sound allowed s.0 s.1 fresh to s.2 c there

      by : Change step v.next c (element_at v c) (element_at (after_step v step) c) → element_at (after_step v step) c ≡ element_at v c
      by (Stays same) = same
      by (Enters f t _ le none is) = let wrong : false ≡ true = sym (ap (λ (o : Option ElementDef). is_public (state_or_absent o)) none) ∙ r.0 in cc
      by (Goes x t moved was is) = absurd (not_both (any_from (is_move_of c) step (Go c t) moved (its_go c t)) r.1)
      by (Turns x turned was is) = absurd (not_both (any_from (is_move_of c) step (Turn c) turned (its_turn c)) r.1)

  stay : (n c : ℕ) (index : ElementDef) → element_at (after_step v step) n ≡ Some index → Contains (indexed_columns index.kind) c → element_at (after_step v step) c ≡ element_at v c
  stay n c index at there = by (change_at v step allowed (ordered_of v sound) n)
    where
      by : Change step v.next n (element_at v n) (element_at (after_step v step) n) → element_at (after_step v step) c ≡ element_at v c
      by (Stays same) = under_old n c index (sym same ∙ at) there
      by (Enters fresh to among le none is) = under_new c fresh to among (subst (λ (e : ElementDef). Contains (indexed_columns e.kind) c) (some_same (sym at ∙ is)) there)
      by (Goes x to among was is) = under_old n c x was (subst (λ k. Contains (indexed_columns k) c) (same_else x index to (sym is ∙ at)).2 there)
      by (Turns x among was is) = under_old n c x was (subst (λ (e : ElementDef). Contains (indexed_columns e.kind) c) (some_same (sym at ∙ is)) there)

pub indexed_columns_stay : IndexedColumnsStay
indexed_columns_stay v step sound allowed n c index (inl old) there = under_old v step sound allowed n c index old there
indexed_columns_stay v step sound allowed n c index (inr new) there = stay v step sound allowed n c index new there

pub steps_stay_sound : StepsStaySound
steps_stay_sound v step sound allowed = step_sound v step sound allowed
