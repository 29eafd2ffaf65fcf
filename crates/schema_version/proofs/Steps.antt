-- The tests of a step decide whether it is allowed, and why it isn't.
use Rattle.std.proofs.Common.{◌≡◌, ◌+◌, ◌≤◌, List, [], ◌∷◌, ◌++◌, Ok, Err, refl, sym, ap, subst, ◌∙◌, arith, append_assoc, append-nil, add-zero, cond, count_by, Bool, true, false}
use Rattle.std.specs.Prelude.{OnOk, IfErr}
use Rattle.std.specs.Bool.{Decides}
use Rattle.std.proofs.lemmas.List.Sums.{sum_by-cons, sum_by-append}
use Rattle.schema_version.specs.declared.step.Move.TheVariants.{Enter, Go, Turn}
use Rattle.schema_version.specs.declared.step.StepFault.TheVariants.{Limit}
use Rattle.schema_version.specs.Names.{max_elements}
use Rattle.collections.specs.Answers.{◌>>>=◌}
use Rattle.schema_version.specs.declared.step.Move.{Move}
use Rattle.schema_version.specs.declared.step.StepFault.{StepFault}
use Rattle.schema_version.specs.Version.{Version}
use Rattle.schema_version.specs.Moves.{MoveFault, IsAllowed, IsRefused, IsWithinLimits, is_entry, rank}
use Rattle.collections.specs.Refusal.{IsFirst}
use Rattle.schema_version.specs.Checks.{Answer, move_check, moves_check, step_check, is_within_limits}
use Rattle.schema_version.proofs.Chain.{Says}
use Rattle.schema_version.proofs.Decides.{AreNumbered, move_says, within}

-- what isn't false
pub truly : {P : Type 0} (b : Bool) → Decides b P → ¬ (¬ P) → P
truly true d h = d.0 refl
truly false d h = absurd (h (λ p. let wrong : false ≡ true = d.1 p in cc))

-- no move of a list has a fault, after these earlier ones
NoneFaulty : Version → List Move → List Move → List Move → Type 0
NoneFaulty v step earlier moves = (before after : List Move) (m : Move) (fault : StepFault) → moves ≡ before ++ m ∷ after → ¬ (MoveFault v step (earlier ++ before) m fault)

heads : {X : Type 0} {x y : X} {xs ys : List X} → x ∷ xs ≡ y ∷ ys → (x ≡ y) × (xs ≡ ys)
heads e = (cc, cc)

-- a move in start that has none either
one_more : (v : Version) (step earlier moves : List Move) (m : Move) → ((fault : StepFault) → ¬ (MoveFault v step earlier m fault)) → NoneFaulty v step (earlier ++ m ∷ []) moves → NoneFaulty v step earlier (m ∷ moves)
unfolding NoneFaulty
one_more v step earlier moves m clear rest [] after a fault split h =
    clear fault (subst (λ (b : Move). MoveFault v step earlier b fault) (sym (heads split).0) (subst (λ e. MoveFault v step e a fault) (append-nil earlier) h))
one_more v step earlier moves m clear rest (x ∷ before) after a fault split h =
    let is = heads split in
    rest before after a fault is.1 (subst (λ e. MoveFault v step e a fault) (ap (λ (b : Move). earlier ++ b ∷ before) (sym is.0) ∙ sym (append_assoc earlier (m ∷ []) before)) h)

-- one of these moves is the first that has a fault
record IsRefusedBehind (v : Version) (step earlier moves : List Move) (fault : StepFault) : Type 0 where
  before : List Move
  move : Move
  after : List Move
  split : moves ≡ before ++ move ∷ after
  first : NoneFaulty v step earlier before
  lowest : IsFirst rank (MoveFault v step (earlier ++ before) move) fault

-- what the tests answer of the moves after these earlier ones
Outcome : Version → List Move → List Move → List Move → Answer → Type 0
Outcome v step earlier moves (Ok done) = NoneFaulty v step earlier moves
Outcome v step earlier moves (Err fault) = IsRefusedBehind v step earlier moves fault

none_of_none : (v : Version) (step earlier : List Move) → NoneFaulty v step earlier []
unfolding NoneFaulty
none_of_none v step earlier [] after m fault split h = cc
none_of_none v step earlier (x ∷ before) after m fault split h = cc

behind_one : (v : Version) (step earlier moves : List Move) (m : Move) (first then : Answer) → Says (MoveFault v step earlier m) first → Outcome v step (earlier ++ m ∷ []) moves then → Outcome v step earlier (m ∷ moves) (first >>>= λ _. then)
unfolding Outcome
behind_one v step earlier moves m (Err fault) then says rest =
    record { before = []; move = m; after = moves; split = refl; first = none_of_none v step earlier; lowest = subst (λ e. IsFirst rank (MoveFault v step e m) fault) (sym (append-nil earlier)) says }
behind_one v step earlier moves m (Ok done) (Ok end) says rest = one_more v step earlier moves m says rest
behind_one v step earlier moves m (Ok done) (Err fault) says rest =
    record {
      before = m ∷ rest.before;
      move = rest.move;
      after = rest.after;
      split = ap (λ l. m ∷ l) rest.split;
      first = one_more v step earlier rest.before m says rest.first;
      lowest = subst (λ e. IsFirst rank (MoveFault v step e rest.move) fault) (append_assoc earlier (m ∷ []) rest.before) rest.lowest;
    }

moves_say : (v : Version) (step earlier moves : List Move) → AreNumbered v → Outcome v step earlier moves (moves_check v step earlier moves)
unfolding Outcome
moves_say v step earlier [] numbered = none_of_none v step earlier
moves_say v step earlier (m ∷ moves) numbered =
    behind_one v step earlier moves m (move_check v step earlier m) (moves_check v step (earlier ++ m ∷ []) moves) (move_says v step earlier m numbered) (moves_say v step (earlier ++ m ∷ []) moves numbered)

pub step_allowed : (v : Version) (step : List Move) → AreNumbered v → step_check v step ≡ Ok tt → IsAllowed v step
unfolding Outcome NoneFaulty
step_allowed v step numbered is = λ earlier later move fault split. subst (Outcome v step [] step) is (moves_say v step [] step numbered) earlier later move fault split

pub step_refused : (v : Version) (step : List Move) (fault : StepFault) → AreNumbered v → step_check v step ≡ Err fault → IsRefused v step fault
unfolding Outcome NoneFaulty
step_refused v step fault numbered is =
    let r = subst (Outcome v step [] step) is (moves_say v step [] step numbered) in
    record { earlier = r.before; move = r.move; later = r.after; split = r.split; first = r.first; lowest = r.lowest }

-- ---- the numbers that a step gives

a_number : (v : Version) (step earlier : List Move) (m : Move) → ((fault : StepFault) → ¬ (MoveFault v step earlier m fault)) → v.next + count_by is_entry earlier ≤ max_elements + 1 → v.next + (count_by is_entry earlier + cond (is_entry m) 1 0) ≤ max_elements + 1
a_number v step earlier (Go n to) clear few = omega arith
a_number v step earlier (Turn n) clear few = omega arith
a_number v step earlier (Enter fresh to) clear few =
    let limits : IsWithinLimits v earlier fresh = truly (is_within_limits v earlier fresh) (within v earlier fresh) (clear Limit) in
    let room : v.next + count_by is_entry earlier ≤ max_elements = limits.3 in
    omega (arith, room)

count_behind : (earlier : List Move) (m : Move) → count_by is_entry (earlier ++ m ∷ []) ≡ count_by is_entry earlier + cond (is_entry m) 1 0
count_behind earlier m =
    sum_by-append (λ a. cond (is_entry a) 1 0) earlier (m ∷ [])
    ∙ ap (λ n. count_by is_entry earlier + n) (sum_by-cons (λ a. cond (is_entry a) 1 0) m [] ∙ add-zero (cond (is_entry m) 1 0))

numbers_left : (v : Version) (step earlier moves : List Move) → NoneFaulty v step earlier moves → v.next + count_by is_entry earlier ≤ max_elements + 1 → v.next + count_by is_entry (earlier ++ moves) ≤ max_elements + 1
unfolding NoneFaulty
numbers_left v step earlier [] clear few = subst (λ l. v.next + count_by is_entry l ≤ max_elements + 1) (sym (append-nil earlier)) few
numbers_left v step earlier (m ∷ moves) clear few =
    let here = a_number v step earlier m (λ fault h. clear [] moves m fault refl (subst (λ e. MoveFault v step e m fault) (sym (append-nil earlier)) h)) few in
    let rest = numbers_left v step (earlier ++ m ∷ []) moves
    (λ before after a fault split h. clear (m ∷ before) after a fault (ap (λ l. m ∷ l) split) (subst (λ e. MoveFault v step e a fault) (append_assoc earlier (m ∷ []) before) h))
    (subst (λ n. v.next + n ≤ max_elements + 1) (sym (count_behind earlier m)) here) in
    subst (λ l. v.next + count_by is_entry l ≤ max_elements + 1) (append_assoc earlier (m ∷ []) moves) rest

pub step_numbers : (v : Version) (step : List Move) → IsAllowed v step → v.next ≤ max_elements + 1 → v.next + count_by is_entry step ≤ max_elements + 1
unfolding NoneFaulty
step_numbers v step allowed few = numbers_left v step [] step (λ before after m fault split. allowed before after m fault split) (omega arith)

-- ---- at what the code answers

pub allowed_by : (v : Version) (step : List Move) → AreNumbered v → (r : Answer) → r ≡ step_check v step → OnOk r (IsAllowed v step)
allowed_by v step numbered (Ok done) e = step_allowed v step numbered (sym e)
allowed_by v step numbered (Err fault) e = tt

pub refused_by : (v : Version) (step : List Move) → AreNumbered v → (r : Answer) → r ≡ step_check v step → IfErr r (λ fault. IsRefused v step fault)
refused_by v step numbered (Ok done) e = tt
refused_by v step numbered (Err fault) e = step_refused v step fault numbered (sym e)

pub room_by : (v : Version) (step : List Move) → AreNumbered v → v.next ≤ max_elements + 1 → (r : Answer) → r ≡ step_check v step → OnOk r (v.next + count_by is_entry step ≤ max_elements + 1)
room_by v step numbered few (Ok done) e = step_numbers v step (step_allowed v step numbered (sym e)) few
room_by v step numbered few (Err fault) e = tt
