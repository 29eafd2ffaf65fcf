-- No two begun reorganisations are of one element: what a step, a begin and a piece leave of that.
use Rattle.std.proofs.Common.{◌≡◌, ℕ, List, [], ◌∷◌, ◌++◌, Some, None, refl, sym, ap, subst, ◌∙◌, Bool, true, false, cond, eq-eqb, true≢false}
use Rattle.std.specs.Prelude.{◌≢◌, filter}
use Rattle.std.specs.List.{AllByRecursion}
use mathlib.Core.List.{map as each}
use Rattle.collections.proofs.Steps.{AllByRecursion-append}
use Rattle.row_map.specs.Rows.{Bytes}
use Rattle.schema_version.specs.declared.step.Move.{Move}
use Rattle.reorganise.specs.declared.work.Progress.{Progress}
use Rattle.replay.specs.Replay.{is_of, progress_of, stays, moved_to}
use Rattle.replay.specs.Kept.{IsOfAnother, AreOfDifferentElements}
use Rattle.replay.proofs.Begun.{all_stayed, moved_number}

-- ---- a step

-- those that stay differ as they did
pub stay_different : (step : List Move) (begun : List Progress) → AreOfDifferentElements begun → AreOfDifferentElements (filter (stays step) begun)
stay_different step [] different = tt
stay_different step (p ∷ ps) different = by (stays step p) (stay_different step ps different.1)
  where
    by : (b : Bool) → AreOfDifferentElements (filter (stays step) ps) → AreOfDifferentElements (cond b (p ∷ filter (stays step) ps) (filter (stays step) ps))
    by true rest = (all_stayed (IsOfAnother p) (IsOfAnother p) step ps (λ q other still. other) different.0, rest)
    by false rest = rest

-- ---- a begin

-- one more, at the end, of an element of which there is none
pub begin_different : (ps : List Progress) (b : Progress) → progress_of ps b.element.number ≡ None → AreOfDifferentElements ps → AreOfDifferentElements (ps ++ b ∷ [])
begin_different [] b none different = (tt, tt)
begin_different (p ∷ ps) b none different = by (λ is. begin_different ps b is different.1) (is_of b.element.number p) refl none
  where
    by : (progress_of ps b.element.number ≡ None → AreOfDifferentElements (ps ++ b ∷ [])) → (c : Bool) → is_of b.element.number p ≡ c → cond c (Some p) (progress_of ps b.element.number) ≡ None → AreOfDifferentElements ((p ∷ ps) ++ b ∷ [])
    by rest true of is = absurd cc
    by rest false of is = (
      AllByRecursion-append (IsOfAnother p) ps (b ∷ []) different.0 (λ same. true≢false (sym (eq-eqb p.element.number b.element.number (sym same)) ∙ of), tt),
      rest is,
    )

-- ---- a piece

-- to move a cursor leaves each of its element
pub move_different : (number piece : ℕ) (cursor : Bytes) (ps : List Progress) → AreOfDifferentElements ps → AreOfDifferentElements (each (moved_to number piece cursor) ps)
move_different number piece cursor [] different = tt
move_different number piece cursor (p ∷ ps) different = (others ps different.0, move_different number piece cursor ps different.1)
  where
    own : (q : Progress) → q.element.number ≡ (moved_to number piece cursor q).element.number
    own q = sym (moved_number number piece cursor q (is_of number q) refl)

    others : (qs : List Progress) → AllByRecursion (IsOfAnother p) qs → AllByRecursion (IsOfAnother (moved_to number piece cursor p)) (each (moved_to number piece cursor) qs)
    others [] all = tt
    others (q ∷ qs) all = (subst (λ (m : ℕ). (moved_to number piece cursor q).element.number ≢ m) (own p) (subst (λ (m : ℕ). m ≢ p.element.number) (own q) all.0), others qs all.1)
