-- The last number is given, and none after it.
use Rattle.std.proofs.Common.{◌≡◌, ℕ, ◌≤◌, List, [], ◌∷◌, ◌++◌, Some, Ok, Err, inl, inr, refl, ap, subst, arith, count_by}
use Rattle.std.specs.Prelude.{◌&&◌, ◌==◌}
use mathlib.Core.List.{map as each}
use Rattle.std.specs.FinMap as map
use Rattle.std.specs.Ordering.{nat_cmp}
use Rattle.std.specs.Cmp.{nat_cmp_total}
use Rattle.std.specs.FinMap.Entries.{find, put}
use Rattle.std.proofs.lemmas.Bool.Decides.{eqb_tells, leb_tells}
use Rattle.collections.specs.Refusal.{IsFirst}
use Rattle.schema_version.specs.declared.element.ElementState.TheVariants.{DeleteOnly}
use Rattle.schema_version.specs.declared.element.ElementDef.{ElementDef}
use Rattle.schema_version.specs.declared.step.Move.{Move}
use Rattle.schema_version.specs.declared.step.StepFault.{StepFault}
use Rattle.schema_version.specs.declared.step.StepFault.TheVariants.{Limit}
use Rattle.schema_version.specs.Version.{Version, element_at, is_like}
use Rattle.schema_version.specs.Sound.{IsSoundVersion}
use Rattle.schema_version.specs.Moves.{MoveFault, IsAllowed, IsRefused, after_step, as_element, is_entry, rank}
use Rattle.schema_version.specs.Checks.{step_check}
use Rattle.schema_version.specs.Numbers.{bare, column_a, entry_of_a, LastIsGiven, NoneIsLeft, NumbersEnd}
use Rattle.schema_version.proofs.Maps.{entries-empty}
use Rattle.schema_version.proofs.Decides.{AreNumbered}
use Rattle.schema_version.proofs.DeclaredSound.{nothing_yet}
use Rattle.schema_version.proofs.Steps.{step_allowed, step_refused, step_numbers}

get_element : (m : map.FinMap nat_cmp ElementDef) (q : ℕ) → map.get m q ≡ find nat_cmp q (map.entries m)
get_element m q = map.get-entries m q

insert_element : (m : map.FinMap nat_cmp ElementDef) (k : ℕ) (v : ElementDef) → map.entries (map.insert m k v) ≡ put nat_cmp k v (map.entries m)
insert_element m k v = map.entries-insert nat_cmp_total m k v

empty_element : map.entries (map.empty {X = ElementDef} {R = nat_cmp}) ≡ []
empty_element = entries-empty nat_cmp

ruleset computed = (get_element, insert_element, empty_element)

-- ---- the tests of the entry

allows : step_check (bare 1000000) entry_of_a ≡ Ok tt
allows = simp (computed) refl

refuses : step_check (bare 1000001) entry_of_a ≡ Err Limit
refuses = simp (computed) refl

gives : element_at (after_step (bare 1000000) entry_of_a) 1000000 ≡ Some (as_element 1000000 column_a DeleteOnly)
gives = simp (computed) refl

numbered : (n : ℕ) → AreNumbered (bare n)
numbered n m e there = absurd (nothing_yet m e there)

-- ---- a version without elements is sound

bare_sound : (n : ℕ) → 1 ≤ n → n ≤ 1000001 → IsSoundVersion (bare n)
bare_sound n begun few =
    record {
      begun = begun;
      few_elements = few;
      some_tables = omega arith;
      few_tables = omega arith;
      tables = (record { name = (refl, refl, omega arith); some_key = omega arith; short_key = omega arith; names = ((refl, refl, omega arith), tt); distinct = refl }, tt);
      table_names = refl;
      elements = λ m e there. absurd (nothing_yet m e there);
      names = λ m k d e there _ _ _. absurd (nothing_yet m d there);
      counts = λ table index. (let none = ap (count_by (λ (e : ElementDef). (e.table == table) && is_like index e.kind)) (ap (λ es. each (λ e. e.1) es) empty_element) in omega (arith, none));
    }

-- ---- Limit is the only fault

is_limit : (fault : StepFault) → rank fault ≡ 6 → fault ≡ Limit
is_limit Limit e = refl
is_limit _ e = absurd (omega (arith, e))

-- of a rank below Limit's or above it one of the two isn't first
one_first : (C : StepFault → Type 0) (fault : StepFault) → IsFirst rank C Limit → IsFirst rank C fault → fault ≡ Limit
one_first C fault limit other =
    elim (eqb_tells (rank fault) 6) [
      | inl same ↦ is_limit fault same.1
      | inr differ ↦ (elim (leb_tells (rank fault) 6) [
        | inl below ↦ absurd (limit.1 fault (omega (arith, below.1, differ.1)) other.0)
        | inr above ↦ absurd (other.1 Limit (omega (arith, above.1)) limit.0)
      ])
    ]

-- a step of one move is refused for that move
alone : (v : Version) (step : List Move) (m move : Move) (earlier later : List Move) (fault : StepFault) → m ∷ [] ≡ earlier ++ move ∷ later → IsFirst rank (MoveFault v step earlier move) fault → IsFirst rank (MoveFault v step [] m) fault
alone v step m move [] later fault split first = subst (λ a. IsFirst rank (MoveFault v step [] a) fault) (is_head split) first
  where
    is_head : {x y : Move} {xs ys : List Move} → x ∷ xs ≡ y ∷ ys → y ≡ x
    is_head e = cc
alone v step m move (x ∷ []) later fault split first = cc
alone v step m move (x ∷ y ∷ earlier) later fault split first = cc

only_limit : (v : Version) (m : Move) (fault : StepFault) → IsRefused v (m ∷ []) Limit → IsRefused v (m ∷ []) fault → fault ≡ Limit
only_limit v m fault limit other =
    one_first (MoveFault v (m ∷ []) [] m) fault
    (alone v (m ∷ []) m limit.move limit.earlier limit.later Limit limit.split limit.lowest)
    (alone v (m ∷ []) m other.move other.earlier other.later fault other.split other.lowest)

-- ---- all of it

last_is_given : LastIsGiven
last_is_given =
    record {
      sound = bare_sound 1000000 (omega arith) (omega arith);
      allowed = step_allowed (bare 1000000) entry_of_a (numbered 1000000) allows;
      given = gives;
      next = refl;
    }

refused : IsRefused (bare 1000001) entry_of_a Limit
refused = step_refused (bare 1000001) entry_of_a Limit (numbered 1000001) refuses

none_left : (v : Version) (step : List Move) → v.next ≡ 1000001 → IsAllowed v step → count_by is_entry step ≡ 0
none_left v step is allowed = let room = step_numbers v step allowed (omega (arith, is)) in omega (arith, is, room)

none_is_left : NoneIsLeft
none_is_left =
    record {
      sound = bare_sound 1000001 (omega arith) (omega arith);
      refused = refused;
      only = λ fault other. only_limit (bare 1000001) _ fault refused other;
      none = none_left;
    }

pub numbers_end : NumbersEnd
numbers_end = (last_is_given, none_is_left)
