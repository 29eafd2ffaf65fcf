-- The begun reorganisations as a list, and as the map that the elements' laws see.
use Rattle.std.proofs.Common.{◌≡◌, ℕ, List, [], ◌∷◌, Option, Some, None, option_map, refl, sym, ap, subst, ◌∙◌, inl, inr, Bool, true, false, cond, eqb, eqb-true, eq-eqb, ne_eqb}
use Rattle.std.specs.Prelude.{not, filter}
use Rattle.std.specs.List.{AllByRecursion}
use mathlib.Core.List.{map as each}
use Rattle.std.specs.FinMap as map
use Rattle.std.specs.FinMap.{nat_cmp-IsAntisymmetric, get-from_entries}
use Rattle.std.specs.Cmp.{nat_cmp_total}
use Rattle.std.specs.Ordering.{nat_cmp, eq_by_cmp}
use Rattle.byte_map.proofs.Written.{tied, apart}
use Rattle.schema_version.specs.declared.step.Move.{Move}
use Rattle.schema_version.specs.Moves.{moves_element}
use Rattle.element_state.specs.Core as core
use Rattle.element_state.proofs.Whole.{number_one}
use Rattle.reorganise.specs.declared.work.Progress.{Progress}
use Rattle.row_map.specs.Rows.{Bytes}
use Rattle.replay.specs.Replay.{is_of, progress_of, stays, come_to, moved_to}
use Rattle.replay.specs.Kept.{passed, all_passed}

some_one : {A : Type 0} {v w : A} → Some v ≡ (let o : Option A = Some w in o) → v ≡ w
some_one e = cc

none_some : {A B : Type 0} {v : A} → None ≡ Some v → B
none_some e = absurd cc

-- one test of two numbers, and the other
same_test : (n m : ℕ) → eq_by_cmp nat_cmp n m ≡ eqb m n
same_test n m = elim (number_one n m) [
  | inl e ↦ subst (λ (x : ℕ). eq_by_cmp nat_cmp n x ≡ eqb x n) e (tied nat_cmp_total nat_cmp-IsAntisymmetric n ∙ sym (eq-eqb n n refl))
  | inr ne ↦ apart nat_cmp_total nat_cmp-IsAntisymmetric n m ne ∙ sym (ne_eqb m n (λ e. ne (sym e)))
]

map_cond : {A B : Type 0} (f : A → B) (b : Bool) (x : A) (o : Option A) → cond b (Some (f x)) (option_map f o) ≡ option_map f (cond b (Some x) o)
map_cond f true x o = refl
map_cond f false x o = refl

find_passed : (ps : List Progress) (n : ℕ) → map.find nat_cmp n (each (λ (p : Progress). (p.element.number, passed p)) ps) ≡ option_map passed (progress_of ps n)
find_passed [] n = refl
find_passed (p ∷ ps) n =
    ap (λ (b : Bool). cond b (Some (passed p)) (map.find nat_cmp n (each (λ (q : Progress). (q.element.number, passed q)) ps))) (same_test n p.element.number)
    ∙ ap (cond (is_of n p) (Some (passed p))) (find_passed ps n)
    ∙ map_cond passed (is_of n p) p (progress_of ps n)

-- what the map has of an element is its reorganisation
pub get_passed : (ps : List Progress) (n : ℕ) → map.get (all_passed ps) n ≡ option_map passed (progress_of ps n)
get_passed ps n = get-from_entries nat_cmp_total (each (λ (p : Progress). (p.element.number, passed p)) ps) n ∙ find_passed ps n

pub passed_at : (ps : List Progress) (n : ℕ) (p : Progress) → progress_of ps n ≡ Some p → map.get (all_passed ps) n ≡ Some (passed p)
passed_at ps n p at = get_passed ps n ∙ ap (option_map passed) at

-- and is nowhere else from
pub from_passed : (ps : List Progress) (n : ℕ) (c : core.CoreProgress) → map.get (all_passed ps) n ≡ Some c → (p : Progress) × (progress_of ps n ≡ Some p) × (passed p ≡ c)
from_passed ps n c at = by (progress_of ps n) refl (sym (get_passed ps n) ∙ at)
  where
    by : (o : Option Progress) → progress_of ps n ≡ o → option_map passed o ≡ Some c → (p : Progress) × (progress_of ps n ≡ Some p) × (passed p ≡ c)
    by None is e = none_some e
    by (Some p) is e = (p, is, some_one e)

found_step : (P : Progress → Type 0) (ps : List Progress) (n : ℕ) (q p : Progress) → P q → (progress_of ps n ≡ Some p → P p × (p.element.number ≡ n)) → (b : Bool) → is_of n q ≡ b → cond b (Some q) (progress_of ps n) ≡ Some p → P p × (p.element.number ≡ n)
found_step P ps n q p here rest true e is = let same : q ≡ p = some_one is in (subst P same here, ap (λ (r : Progress). r.element.number) (sym same) ∙ eqb-true q.element.number n e)
found_step P ps n q p here rest false e is = rest is

-- what holds of all holds of the one that is found, which is the element's
pub found : (P : Progress → Type 0) (ps : List Progress) (n : ℕ) (p : Progress) → AllByRecursion P ps → progress_of ps n ≡ Some p → P p × (p.element.number ≡ n)
found P [] n p all at = none_some at
found P (q ∷ ps) n p all at = found_step P ps n q p all.0 (found P ps n p all.1) (is_of n q) refl at

-- ---- the reorganisations that stay

not_false : (b : Bool) → not b ≡ true → b ≡ false
not_false true e = absurd cc
not_false false e = refl

not_true : (b : Bool) → not b ≡ false → b ≡ true
not_true true e = refl
not_true false e = absurd cc

both_ways : {B : Type 0} (b : Bool) → b ≡ true → b ≡ false → B
both_ways b t f = absurd cc

moves_at : (step : List Move) (n : ℕ) (q : Progress) (b : Bool) → is_of n q ≡ true → moves_element step q.element.number ≡ b → moves_element step n ≡ b
moves_at step n q b e is = subst (λ (m : ℕ). moves_element step m ≡ b) (eqb-true q.element.number n e) is

abbrev pub IsStayed : List Move → Option Progress → ℕ → Progress → Type 0
IsStayed step was n p = (was ≡ Some p) × (moves_element step n ≡ false)

stayed_step : (step : List Move) (ps : List Progress) (n : ℕ) (q p : Progress) → (progress_of (filter (stays step) ps) n ≡ Some p → IsStayed step (progress_of ps n) n p) → (s b : Bool) → stays step q ≡ s → is_of n q ≡ b
    → progress_of (cond s (q ∷ filter (stays step) ps) (filter (stays step) ps)) n ≡ Some p → IsStayed step (cond b (Some q) (progress_of ps n)) n p
stayed_step step ps n q p rest true true s b is = (sym (ap (λ (c : Bool). cond c (Some q) (progress_of (filter (stays step) ps) n)) b) ∙ is, moves_at step n q false b (not_false (moves_element step q.element.number) s))
stayed_step step ps n q p rest true false s b is = rest (sym (ap (λ (c : Bool). cond c (Some q) (progress_of (filter (stays step) ps) n)) b) ∙ is)
stayed_step step ps n q p rest false true s b is = both_ways (moves_element step n) (moves_at step n q true b (not_true (moves_element step q.element.number) s)) (rest is).1
stayed_step step ps n q p rest false false s b is = rest is

-- a reorganisation that stays was there, and its element doesn't move
pub stayed : (step : List Move) (ps : List Progress) (n : ℕ) (p : Progress) → progress_of (filter (stays step) ps) n ≡ Some p → IsStayed step (progress_of ps n) n p
stayed step [] n p at = none_some at
stayed step (q ∷ ps) n p at = stayed_step step ps n q p (stayed step ps n p) (stays step q) (is_of n q) refl refl at

all_step : (Q : Progress → Type 0) (step : List Move) (ps : List Progress) (p : Progress) → (moves_element step p.element.number ≡ false → Q p) → AllByRecursion Q (filter (stays step) ps) → (b : Bool) → stays step p ≡ b
    → AllByRecursion Q (cond b (p ∷ filter (stays step) ps) (filter (stays step) ps))
all_step Q step ps p here rest true e = (here (not_false (moves_element step p.element.number) e), rest)
all_step Q step ps p here rest false e = rest

-- what all have, those have that stay
pub all_stayed : (P Q : Progress → Type 0) (step : List Move) (ps : List Progress) → ((p : Progress) → P p → moves_element step p.element.number ≡ false → Q p) → AllByRecursion P ps → AllByRecursion Q (filter (stays step) ps)
all_stayed P Q step [] f all = tt
all_stayed P Q step (p ∷ ps) f all = all_step Q step ps p (f p all.0) (all_stayed P Q step ps f all.1) (stays step p) refl

-- ---- a cursor that comes on

-- it is of the same element
pub moved_number : (n piece : ℕ) (cursor : Bytes) (p : Progress) (b : Bool) → is_of n p ≡ b → (moved_to n piece cursor p).element.number ≡ p.element.number
moved_number n piece cursor p true e = ap (λ (b : Bool). (let q : Progress = cond b (come_to piece cursor p) p in q).element.number) e
moved_number n piece cursor p false e = ap (λ (b : Bool). (let q : Progress = cond b (come_to piece cursor p) p in q).element.number) e

-- a reorganisation is found where it was, with its cursor moved
pub progress_moved : (n piece : ℕ) (cursor : Bytes) (ps : List Progress) (m : ℕ) → progress_of (each (moved_to n piece cursor) ps) m ≡ option_map (moved_to n piece cursor) (progress_of ps m)
progress_moved n piece cursor [] m = refl
progress_moved n piece cursor (p ∷ ps) m =
    ap (λ (x : ℕ). cond (eqb x m) (Some (moved_to n piece cursor p)) (progress_of (each (moved_to n piece cursor) ps) m)) (moved_number n piece cursor p (is_of n p) refl)
    ∙ ap (cond (is_of m p) (Some (moved_to n piece cursor p))) (progress_moved n piece cursor ps m)
    ∙ map_cond (is_of m p)
  where
    map_cond : (b : Bool) → cond b (Some (moved_to n piece cursor p)) (option_map (moved_to n piece cursor) (progress_of ps m)) ≡ option_map (moved_to n piece cursor) (cond b (Some p) (progress_of ps m))
    map_cond true = refl
    map_cond false = refl
