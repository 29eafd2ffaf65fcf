-- The tests of a batch decide whether it can be planned, and why it can't.
use Rattle.std.proofs.Common.{◌≡◌, ◌+◌, ◌≤◌, List, [], ◌∷◌, ◌++◌, Ok, Err, ◌⊎◌, inl, inr, refl, sym, ap, subst, ◌∙◌, arith, append_assoc, append-nil, count_by}
use Rattle.std.specs.Prelude.{OnOk, IfErr}
use Rattle.std.proofs.lemmas.Bool.{cases_lt}
use Rattle.change_plan.proofs.EntryNumbers.{count_first}
use Rattle.collections.specs.Answers.{◌>>>=◌}
use Rattle.collections.specs.Refusal.{IsFirst}
use Rattle.schema_version.specs.Names.{max_elements}
use Rattle.schema_version.specs.Version.{Version}
use Rattle.change_plan.specs.declared.change.Change.{Change}
use Rattle.change_plan.specs.declared.change.Change.TheVariants.{AddIndex, AddColumn}
use Rattle.change_plan.specs.declared.fault.PlanFault.{PlanFault}
use Rattle.change_plan.specs.declared.fault.PlanFault.TheVariants.{Limit}
use Rattle.change_plan.specs.Refusals.{ChangeFault, IsPlannable, IsRefused, is_addition, rank}
use Rattle.change_plan.specs.inner.Checks.{Answer, change_check, changes_check, batch_check}
use Rattle.change_plan.proofs.Chain.{Says}
use Rattle.change_plan.proofs.Decides.{change_says}

-- no change of a list has a fault, after these earlier ones
NoneFaulty : Version → List Change → List Change → List Change → Type 0
NoneFaulty old all earlier changes = (before after : List Change) (x : Change) (fault : PlanFault) → changes ≡ before ++ x ∷ after → ¬ (ChangeFault old all (earlier ++ before) x fault)

heads : {X : Type 0} {x y : X} {xs ys : List X} → x ∷ xs ≡ y ∷ ys → (x ≡ y) × (xs ≡ ys)
heads e = (cc, cc)

one_more : (old : Version) (all earlier changes : List Change) (x : Change) → ((fault : PlanFault) → ¬ (ChangeFault old all earlier x fault)) → NoneFaulty old all (earlier ++ x ∷ []) changes → NoneFaulty old all earlier (x ∷ changes)
unfolding NoneFaulty
one_more old all earlier changes x clear rest [] after a fault split h =
    clear fault (subst (λ (b : Change). ChangeFault old all earlier b fault) (sym (heads split).0) (subst (λ e. ChangeFault old all e a fault) (append-nil earlier) h))
one_more old all earlier changes x clear rest (y ∷ before) after a fault split h =
    let is = heads split in
    rest before after a fault is.1 (subst (λ e. ChangeFault old all e a fault) (ap (λ (b : Change). earlier ++ b ∷ before) (sym is.0) ∙ sym (append_assoc earlier (x ∷ []) before)) h)

-- one of these changes is the first that has a fault
record IsRefusedBehind (old : Version) (all earlier changes : List Change) (fault : PlanFault) : Type 0 where
  before : List Change
  change : Change
  after : List Change
  split : changes ≡ before ++ change ∷ after
  first : NoneFaulty old all earlier before
  lowest : IsFirst rank (ChangeFault old all (earlier ++ before) change) fault

-- what the tests answer of the changes after these earlier ones
Outcome : Version → List Change → List Change → List Change → Answer → Type 0
Outcome old all earlier changes (Ok done) = NoneFaulty old all earlier changes
Outcome old all earlier changes (Err fault) = IsRefusedBehind old all earlier changes fault

none_of_none : (old : Version) (all earlier : List Change) → NoneFaulty old all earlier []
unfolding NoneFaulty
none_of_none old all earlier [] after x fault split h = cc
none_of_none old all earlier (y ∷ before) after x fault split h = cc

behind_one : (old : Version) (all earlier changes : List Change) (x : Change) (first last : Answer) → Says (ChangeFault old all earlier x) first → Outcome old all (earlier ++ x ∷ []) changes last → Outcome old all earlier (x ∷ changes) (first >>>= λ _. last)
unfolding Outcome
behind_one old all earlier changes x (Err fault) last says rest =
    record { before = []; change = x; after = changes; split = refl; first = none_of_none old all earlier; lowest = subst (λ e. IsFirst rank (ChangeFault old all e x) fault) (sym (append-nil earlier)) says }
behind_one old all earlier changes x (Ok done) (Ok end) says rest = one_more old all earlier changes x says rest
behind_one old all earlier changes x (Ok done) (Err fault) says rest =
    record {
      before = x ∷ rest.before;
      change = rest.change;
      after = rest.after;
      split = ap (λ l. x ∷ l) rest.split;
      first = one_more old all earlier rest.before x says rest.first;
      lowest = subst (λ e. IsFirst rank (ChangeFault old all e rest.change) fault) (append_assoc earlier (x ∷ []) rest.before) rest.lowest;
    }

changes_say : (old : Version) (all earlier changes : List Change) → Outcome old all earlier changes (changes_check old all earlier changes)
unfolding Outcome
changes_say old all earlier [] = none_of_none old all earlier
changes_say old all earlier (x ∷ changes) =
    behind_one old all earlier changes x (change_check old all earlier x) (changes_check old all (earlier ++ x ∷ []) changes) (change_says old all earlier x) (changes_say old all (earlier ++ x ∷ []) changes)

plannable : (old : Version) (all : List Change) → batch_check old all ≡ Ok tt → IsPlannable old all
unfolding Outcome NoneFaulty
plannable old all is = λ earlier later change fault split. subst (Outcome old all [] all) is (changes_say old all [] all) earlier later change fault split

refused : (old : Version) (all : List Change) (fault : PlanFault) → batch_check old all ≡ Err fault → IsRefused old all fault
unfolding Outcome NoneFaulty
refused old all fault is =
    let r = subst (Outcome old all [] all) is (changes_say old all [] all) in
    record { earlier = r.before; change = r.change; later = r.after; split = r.split; first = r.first; lowest = r.lowest }

-- ---- the numbers that a batch gives

-- a batch with an addition has one that isn't over the limit
HasNumber : Version → List Change → List Change → Type 0
HasNumber old all changes = (old.next + count_by is_addition all ≤ max_elements + 1) ⊎ (count_by is_addition changes ≡ 0)

one_has_number : (old : Version) (all earlier changes : List Change) (x : Change) → all ≡ earlier ++ x ∷ changes → IsPlannable old all → HasNumber old all changes → HasNumber old all (x ∷ changes)
unfolding HasNumber
one_has_number old all earlier changes (AddIndex table name columns) split clear rest = elim (cases_lt (max_elements + 1) (old.next + count_by is_addition all)) [
  | inl over ↦ absurd (clear earlier changes (AddIndex table name columns) Limit split (inr (inr (inr over))))
  | inr room ↦ inl room
]
one_has_number old all earlier changes (AddColumn table name kind) split clear rest = elim (cases_lt (max_elements + 1) (old.next + count_by is_addition all)) [
  | inl over ↦ absurd (clear earlier changes (AddColumn table name kind) Limit split (inr (inr (inr over))))
  | inr room ↦ inl room
]
one_has_number old all earlier changes change split clear (inl room) = inl room
one_has_number old all earlier changes change split clear (inr rest) = inr (omega (arith, rest, count_first is_addition change changes))

has_number : (old : Version) (all changes earlier : List Change) → all ≡ earlier ++ changes → IsPlannable old all → HasNumber old all changes
unfolding HasNumber
has_number old all [] earlier split clear = inr refl
has_number old all (x ∷ changes) earlier split clear =
    one_has_number old all earlier changes x split clear (has_number old all changes (earlier ++ x ∷ []) (split ∙ sym (append_assoc earlier (x ∷ []) changes)) clear)

-- there is a number for each addition
numbers : (old : Version) (all : List Change) → old.next ≤ max_elements + 1 → IsPlannable old all → old.next + count_by is_addition all ≤ max_elements + 1
unfolding HasNumber
numbers old all few clear = elim (has_number old all all [] refl clear) [
  | inl room ↦ room
  | inr none ↦ omega (arith, few, none)
]

-- ---- at what the code answers

pub plannable_by : (old : Version) (all : List Change) (r : Answer) → r ≡ batch_check old all → OnOk r (IsPlannable old all)
plannable_by old all (Ok done) e = plannable old all (sym e)
plannable_by old all (Err fault) e = tt

pub refused_by : (old : Version) (all : List Change) (r : Answer) → r ≡ batch_check old all → IfErr r (λ fault. IsRefused old all fault)
refused_by old all (Ok done) e = tt
refused_by old all (Err fault) e = refused old all fault (sym e)

pub room_by : (old : Version) (all : List Change) → old.next ≤ max_elements + 1 → (r : Answer) → r ≡ batch_check old all → OnOk r (old.next + count_by is_addition all ≤ max_elements + 1)
room_by old all few (Ok done) e = numbers old all few (plannable old all (sym e))
room_by old all few (Err fault) e = tt
