-- What a step waits for, move by move.
use Rattle.std.proofs.Common.{◌≡◌, ℕ, suc, ◌+◌, ◌<◌, List, [], ◌∷◌, ◌++◌, length, Some, refl, sym, ap, subst, ◌∙◌, inl, inr, take, drop, Contains, zero, arith}
use Rattle.std.proofs.Math.ListN.{get_or}
use Rattle.std.proofs.Math.Seq.{take-suc, split_at}
use Rattle.std.proofs.lemmas.List.Elements.{Contains-append_cases, Contains-append_right}
use Rattle.schema_version.specs.declared.element.ElementState.{ElementState}
use Rattle.schema_version.specs.declared.element.ElementDef.{ElementDef}
use Rattle.schema_version.specs.declared.step.Move.{Move}
use Rattle.schema_version.specs.declared.step.Move.TheVariants.{Enter, Go, Turn}
use Rattle.schema_version.specs.Edges.{needed_work}
use Rattle.schema_version.specs.Version.{element_at}
use Rattle.schema_version.specs.declared.element.Work.{Work}
use Rattle.replay.specs.Replay.{Facts}
use Rattle.replay.specs.Laws.{IsDone, IsFinished, Needs, AreFinished}
use Rattle.world.specs.Publish.{IsReady, Lacks, IsUnfinished}

-- ---- one move

pub lacks_work : (facts : Facts) (move : Move) (number : ℕ) (to : ElementState) (element : ElementDef) (work : Work) → move ≡ Go number to → element_at facts.newest number ≡ Some element → needed_work element.kind to ≡ Some work → ¬ (IsDone facts number work) → Lacks facts move number
lacks_work facts move number to element work is there needs undone = subst (λ (m : Move). Lacks facts m number) (sym is) (refl, element, there, λ n. undone (subst (IsFinished facts number) needs n))

-- ---- a step

ready_go : (facts : Facts) (move : Move) (number : ℕ) (to : ElementState) (element : ElementDef) → move ≡ Go number to → element_at facts.newest number ≡ Some element → IsReady facts move → Needs facts element.kind number to
ready_go facts move number to element is there ready = (subst (IsReady facts) is ready) element there

one_move : (move other : Move) → Contains (move ∷ []) other → move ≡ other
one_move move other (zero, below, is) = is
one_move move other (suc k, below, is) = absurd (omega (arith, below))

more : (facts : Facts) (earlier : List Move) (move : Move) → AreFinished facts earlier → IsReady facts move → AreFinished facts (earlier ++ move ∷ [])
more facts earlier move before ready number to element there at = elim (Contains-append_cases earlier (move ∷ []) (Go number to) there) [
  | inl here ↦ before number to element here at
  | inr here ↦ ready_go facts move number to element (one_move move (Go number to) here) at ready
]

pub none_yet : (facts : Facts) (step : List Move) → AreFinished facts (take 0 step)
none_yet facts step number to element there at = absurd (none there)
  where
    none : Contains [] (Go number to) → ⊥
    none (k, below, is) = absurd (omega (arith, below))

pub one_more : (facts : Facts) (step : List Move) (i : ℕ) (move : Move) → i < length step → get_or step i move ≡ move → AreFinished facts (take i step) → IsReady facts move → AreFinished facts (take (i + 1) step)
one_more facts step i move below is before ready =
    subst (AreFinished facts) (sym (ap (λ (n : ℕ). take n step) (next i) ∙ take-suc step i move below ∙ ap (λ (m : Move). take i step ++ m ∷ []) is)) (more facts (take i step) move before ready)
  where
    next : (n : ℕ) → n + 1 ≡ suc n
    next n = omega arith

pub first_lacking : (facts : Facts) (step : List Move) (i : ℕ) (move : Move) (number : ℕ) → i < length step → get_or step i move ≡ move → AreFinished facts (take i step) → Lacks facts move number → IsUnfinished facts step number
first_lacking facts step i move number below is before lacks = record {
  earlier = take i step;
  move = move;
  rest = drop (suc i) step;
  split = split_at step i move below ∙ ap (λ (m : Move). take i step ++ m ∷ drop (suc i) step) is;
  lacks = lacks;
  finished = before;
}

-- a finished step has no such element
pub not_unfinished : (facts : Facts) (step : List Move) (number : ℕ) → AreFinished facts step → ¬ (IsUnfinished facts step number)
not_unfinished facts step number finished u = by u.move u.split u.lacks
  where
    by : (move : Move) → step ≡ u.earlier ++ move ∷ u.rest → Lacks facts move number → ⊥
    by (Enter fresh to) split lacks = lacks
    by (Turn moving) split lacks = lacks
    by (Go moving to) split lacks = lacks.3 (finished moving to lacks.1 (subst (λ (ms : List Move). Contains ms (Go moving to)) (sym split) (there u.earlier)) lacks.2)
      where
        there : (earlier : List Move) → Contains (earlier ++ Go moving to ∷ u.rest) (Go moving to)
        there earlier = Contains-append_right earlier (Go moving to ∷ u.rest) (Go moving to) (zero, omega arith, refl)
