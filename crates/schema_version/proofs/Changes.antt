-- What the moves of a step do to each element, one by one.
use Rattle.std.proofs.Common.{◌≡◌, ◌≢◌, ℕ, ◌+◌, ◌<◌, ◌≤◌, true, false, cond, List, [], ◌∷◌, Option, Some, None, ◌⊎◌, inl, inr, refl, sym, ap, subst, ◌∙◌, arith, nat_eq, Contains}
use Rattle.std.specs.Ordering.{nat_cmp, eq_by_cmp}
use Rattle.std.specs.Cmp.{unsigned_tied}
use Rattle.std.proofs.lemmas.Cmp.{nat_cmp_total}
use Rattle.std.proofs.lemmas.Bool.Decides.{Decides-eqb}
use Rattle.std.specs.FinMap as map
use Rattle.schema_version.specs.declared.element.ElementState.{ElementState}
use Rattle.schema_version.specs.declared.element.ElementState.TheVariants.{Absent, DeleteOnly, WriteOnly, Public}
use Rattle.schema_version.specs.declared.element.ElementDef.{ElementDef}
use Rattle.schema_version.specs.declared.step.Move.{Move}
use Rattle.schema_version.specs.declared.step.Move.TheVariants.{Enter, Go, Turn}
use Rattle.schema_version.specs.Version.{Version, element_at}
use Rattle.schema_version.specs.Moves.{as_element, in_state, moved, turned_back, turned, after_move, after_step, is_move_of, moves_element}
use Rattle.schema_version.specs.Steps.{Change, Stays, Enters, Goes, Turns, in_state_or_none, IsOrdered}
use Rattle.schema_version.proofs.Entries.{tells}
use Rattle.schema_version.proofs.Lists.{here, later, some_same, not_both, any_from}

-- a map after a write at k, at k and elsewhere
pub inserted_here : (m : map.FinMap nat_cmp ElementDef) (k n : ℕ) (e : ElementDef) → n ≡ k → map.get (map.insert m k e) n ≡ Some e
inserted_here m k n e is = map.get-insert nat_cmp_total m k e n ∙ ap (λ b. cond b (Some e) (map.get m n)) (unsigned_tied n k ∙ at (tells n k))
  where
    at : ((nat_eq n k ≡ true) × (n ≡ k)) ⊎ ((nat_eq n k ≡ false) × (n ≢ k)) → nat_eq n k ≡ true
    at (inl p) = p.0
    at (inr p) = absurd (p.1 is)

apart : (n k : ℕ) → n ≢ k → eq_by_cmp nat_cmp n k ≡ false
apart n k ne = unsigned_tied n k ∙ at (tells n k)
  where
    at : ((nat_eq n k ≡ true) × (n ≡ k)) ⊎ ((nat_eq n k ≡ false) × (n ≢ k)) → nat_eq n k ≡ false
    at (inl p) = absurd (ne p.1)
    at (inr p) = p.0

pub inserted_apart : (m : map.FinMap nat_cmp ElementDef) (k n : ℕ) (e : ElementDef) → n ≢ k → map.get (map.insert m k e) n ≡ map.get m n
inserted_apart m k n e ne = map.get-insert nat_cmp_total m k e n ∙ ap (λ b. cond b (Some e) (map.get m n)) (apart n k ne)

pub removed_here : (m : map.FinMap nat_cmp ElementDef) (k n : ℕ) → n ≡ k → map.get (map.remove m k) n ≡ None
removed_here m k n is = map.get-remove nat_cmp_total m k n ∙ ap (λ b. cond b None (map.get m n)) (unsigned_tied n k ∙ at (tells n k))
  where
    at : ((nat_eq n k ≡ true) × (n ≡ k)) ⊎ ((nat_eq n k ≡ false) × (n ≢ k)) → nat_eq n k ≡ true
    at (inl p) = p.0
    at (inr p) = absurd (p.1 is)

pub removed_apart : (m : map.FinMap nat_cmp ElementDef) (k n : ℕ) → n ≢ k → map.get (map.remove m k) n ≡ map.get m n
removed_apart m k n ne = map.get-remove nat_cmp_total m k n ∙ ap (λ b. cond b None (map.get m n)) (apart n k ne)

-- ---- one move

pub moved_here : (u : Version) (e : ElementDef) (n : ℕ) (to : ElementState) → e.number ≡ n → element_at (moved u (Some e) to) n ≡ in_state_or_none e to
moved_here u e n Absent own = removed_here u.elements e.number n (sym own)
moved_here u e n DeleteOnly own = inserted_here u.elements e.number n (in_state e DeleteOnly) (sym own)
moved_here u e n WriteOnly own = inserted_here u.elements e.number n (in_state e WriteOnly) (sym own)
moved_here u e n Public own = inserted_here u.elements e.number n (in_state e Public) (sym own)

pub moved_apart : (u : Version) (o : Option ElementDef) (k n : ℕ) (to : ElementState) → ((e : ElementDef) → o ≡ Some e → e.number ≡ k) → n ≢ k → element_at (moved u o to) n ≡ element_at u n
moved_apart u None k n to own ne = refl
moved_apart u (Some e) k n Absent own ne = removed_apart u.elements e.number n (λ is. ne (is ∙ own e refl))
moved_apart u (Some e) k n DeleteOnly own ne = inserted_apart u.elements e.number n (in_state e DeleteOnly) (λ is. ne (is ∙ own e refl))
moved_apart u (Some e) k n WriteOnly own ne = inserted_apart u.elements e.number n (in_state e WriteOnly) (λ is. ne (is ∙ own e refl))
moved_apart u (Some e) k n Public own ne = inserted_apart u.elements e.number n (in_state e Public) (λ is. ne (is ∙ own e refl))

pub turned_here : (u : Version) (e : ElementDef) (n : ℕ) → e.number ≡ n → element_at (turned u (Some e)) n ≡ Some (turned_back e)
turned_here u e n own = inserted_here u.elements e.number n (turned_back e) (sym own)

pub turned_apart : (u : Version) (o : Option ElementDef) (k n : ℕ) → ((e : ElementDef) → o ≡ Some e → e.number ≡ k) → n ≢ k → element_at (turned u o) n ≡ element_at u n
turned_apart u None k n own ne = refl
turned_apart u (Some e) k n own ne = inserted_apart u.elements e.number n (turned_back e) (λ is. ne (is ∙ own e refl))

-- ---- a version stays in order

pub none_there : {X : Type 0} (x : X) (o : Option X) → o ≡ None → o ≡ Some x → ⊥
none_there x o a b = let wrong : None ≡ Some x = sym a ∙ b in cc

pub in_state_number : (e x : ElementDef) (to : ElementState) → in_state_or_none e to ≡ Some x → x.number ≡ e.number
in_state_number e x Absent is = cc
in_state_number e x DeleteOnly is = ap (λ (y : ElementDef). y.number) (sym (some_same is))
in_state_number e x WriteOnly is = ap (λ (y : ElementDef). y.number) (sym (some_same is))
in_state_number e x Public is = ap (λ (y : ElementDef). y.number) (sym (some_same is))

pub moved_next : (u : Version) (o : Option ElementDef) (to : ElementState) → (moved u o to).next ≡ u.next
moved_next u None to = refl
moved_next u (Some e) Absent = refl
moved_next u (Some e) DeleteOnly = refl
moved_next u (Some e) WriteOnly = refl
moved_next u (Some e) Public = refl

moved_number : (u : Version) (k n : ℕ) (x : ElementDef) (to : ElementState) (o : Option ElementDef) → IsOrdered u → element_at u k ≡ o → element_at (moved u o to) n ≡ Some x → (x.number ≡ n) × (n < u.next)
moved_number u k n x to None ordered is at = (ordered.numbered n x at, ordered.below n x at)
moved_number u k n x to (Some e) ordered is at =
    elim (tells n k) [
      | inl p ↦ (let own : e.number ≡ n = ordered.numbered k e is ∙ sym p.1 in (in_state_number e x to (sym (moved_here u e n to own) ∙ at) ∙ own, subst (λ m. m < u.next) (sym p.1) (ordered.below k e is)))
      | inr p ↦ (let old : element_at u n ≡ Some x = sym (moved_apart u (Some e) k n to (λ f same. ordered.numbered k f (is ∙ same)) p.1) ∙ at in (ordered.numbered n x old, ordered.below n x old))
    ]

pub turned_next : (u : Version) (o : Option ElementDef) → (turned u o).next ≡ u.next
turned_next u None = refl
turned_next u (Some e) = refl

turned_number : (u : Version) (k n : ℕ) (x : ElementDef) (o : Option ElementDef) → IsOrdered u → element_at u k ≡ o → element_at (turned u o) n ≡ Some x → (x.number ≡ n) × (n < u.next)
turned_number u k n x None ordered is at = (ordered.numbered n x at, ordered.below n x at)
turned_number u k n x (Some e) ordered is at =
    elim (tells n k) [
      | inl p ↦ (let own : e.number ≡ n = ordered.numbered k e is ∙ sym p.1 in (ap (λ (y : ElementDef). y.number) (sym (some_same (sym (turned_here u e n own) ∙ at))) ∙ own, subst (λ m. m < u.next) (sym p.1) (ordered.below k e is)))
      | inr p ↦ (let old : element_at u n ≡ Some x = sym (turned_apart u (Some e) k n (λ f same. ordered.numbered k f (is ∙ same)) p.1) ∙ at in (ordered.numbered n x old, ordered.below n x old))
    ]

entered_number : (u : Version) (e x : ElementDef) (n : ℕ) → e.number ≡ u.next → IsOrdered u → map.get (map.insert u.elements u.next e) n ≡ Some x → (x.number ≡ n) × (n < u.next + 1)
entered_number u e x n own ordered at =
    elim (tells n u.next) [
      | inl p ↦ (ap (λ (y : ElementDef). y.number) (some_same (sym at ∙ inserted_here u.elements u.next n e p.1)) ∙ own ∙ sym p.1, omega (arith, p.1))
      | inr p ↦ (let old : element_at u n ≡ Some x = sym (inserted_apart u.elements u.next n e p.1) ∙ at in (ordered.numbered n x old, (let lt : n < u.next = ordered.below n x old in omega (arith, lt))))
    ]

pub stays_ordered : (u : Version) (m : Move) → IsOrdered u → IsOrdered (after_move u m)
stays_ordered u (Enter fresh to) ordered =
    record {
      numbered = λ n x at. (entered_number u (as_element u.next fresh to) x n refl ordered at).0;
      below = λ n x at. (entered_number u (as_element u.next fresh to) x n refl ordered at).1;
    }
stays_ordered u (Go k to) ordered =
    record {
      numbered = λ n x at. (moved_number u k n x to (element_at u k) ordered refl at).0;
      below = λ n x at. subst (λ m. n < m) (sym (moved_next u (element_at u k) to)) (moved_number u k n x to (element_at u k) ordered refl at).1;
    }
stays_ordered u (Turn k) ordered =
    record {
      numbered = λ n x at. (turned_number u k n x (element_at u k) ordered refl at).0;
      below = λ n x at. subst (λ m. n < m) (sym (turned_next u (element_at u k))) (turned_number u k n x (element_at u k) ordered refl at).1;
    }

-- ---- all moves of a step

-- only elements below the bound are moved
abbrev pub AreKnown : ℕ → List Move → Type 0
AreKnown bound moves = (n : ℕ) (m : Move) → Contains moves m → is_move_of n m ≡ true → n < bound

-- no element is moved twice
abbrev pub AreMovedOnce : List Move → Type 0
AreMovedOnce [] = Unit {0}
AreMovedOnce (m ∷ moves) = ((n : ℕ) → is_move_of n m ≡ true → moves_element moves n ≡ false) × AreMovedOnce moves

-- a move of an element is one of its moves
pub its_go : (n : ℕ) (to : ElementState) → is_move_of n (Go n to) ≡ true
its_go n to = (Decides-eqb n n).1 refl

pub its_turn : (n : ℕ) → is_move_of n (Turn n) ≡ true
its_turn n = (Decides-eqb n n).1 refl

not_again : {A : Type 0} (moves : List Move) (n : ℕ) (m : Move) → is_move_of n m ≡ true → Contains moves m → moves_element moves n ≡ false → A
not_again moves n m its there once = absurd (not_both (any_from (is_move_of n) moves m there its) once)

lifted : (m : Move) (moves : List Move) (next n : ℕ) (old now new : Option ElementDef) → now ≡ old → Change moves next n now new → Change (m ∷ moves) next n old new
lifted m moves next n old now new is (Stays e) = Stays (e ∙ is)
lifted m moves next n old now new is (Enters fresh to there le none e) = Enters fresh to (later m (Enter fresh to) moves there) le (sym is ∙ none) e
lifted m moves next n old now new is (Goes x to there was e) = Goes x to (later m (Go n to) moves there) (sym is ∙ was) e
lifted m moves next n old now new is (Turns x there was e) = Turns x (later m (Turn n) moves there) (sym is ∙ was) e

entering : (moves : List Move) (fresh : _) (to : ElementState) (next n k : ℕ) (old now new : Option ElementDef) → next ≤ k → n ≡ k → old ≡ None → now ≡ Some (as_element k fresh to) → AreKnown next moves → Change moves next n now new → Change (Enter fresh to ∷ moves) next n old new
entering moves fresh to next n k old now new le is none entered known (Stays e) =
    Enters fresh to (here (Enter fresh to) moves) (omega (arith, le, is)) none (e ∙ entered ∙ ap (λ i. Some (as_element i fresh to)) (sym is))
entering moves fresh to next n k old now new le is none entered known (Enters f t there le' was e) = absurd (none_there (as_element k fresh to) now was entered)
entering moves fresh to next n k old now new le is none entered known (Goes x t there was e) = let lt = known n (Go n t) there (its_go n t) in absurd (omega (arith, lt, le, is))
entering moves fresh to next n k old now new le is none entered known (Turns x there was e) = let lt = known n (Turn n) there (its_turn n) in absurd (omega (arith, lt, le, is))

going : (moves : List Move) (x : ElementDef) (to : ElementState) (next n : ℕ) (old now new : Option ElementDef) → n < next → old ≡ Some x → now ≡ in_state_or_none x to → moves_element moves n ≡ false → Change moves next n now new → Change (Go n to ∷ moves) next n old new
going moves x to next n old now new lt was is once (Stays e) = Goes x to (here (Go n to) moves) was (e ∙ is)
going moves x to next n old now new lt was is once (Enters f t there le none e) = absurd (omega (arith, lt, le))
going moves x to next n old now new lt was is once (Goes y t there _ e) = not_again moves n (Go n t) (its_go n t) there once
going moves x to next n old now new lt was is once (Turns y there _ e) = not_again moves n (Turn n) (its_turn n) there once

turning : (moves : List Move) (x : ElementDef) (next n : ℕ) (old now new : Option ElementDef) → n < next → old ≡ Some x → now ≡ Some (turned_back x) → moves_element moves n ≡ false → Change moves next n now new → Change (Turn n ∷ moves) next n old new
turning moves x next n old now new lt was is once (Stays e) = Turns x (here (Turn n) moves) was (e ∙ is)
turning moves x next n old now new lt was is once (Enters f t there le none e) = absurd (omega (arith, lt, le))
turning moves x next n old now new lt was is once (Goes y t there _ e) = not_again moves n (Go n t) (its_go n t) there once
turning moves x next n old now new lt was is once (Turns y there _ e) = not_again moves n (Turn n) (its_turn n) there once

go_on : (u : Version) (moves : List Move) (next k n : ℕ) (to : ElementState) (o : Option ElementDef) (new : Option ElementDef) → IsOrdered u → k < next → element_at u k ≡ o → moves_element moves k ≡ false
    → Change moves next n (element_at (moved u o to) n) new → Change (Go k to ∷ moves) next n (element_at u n) new
go_on u moves next k n to None new ordered lt is once change = lifted (Go k to) moves next n (element_at u n) (element_at u n) new refl change
go_on u moves next k n to (Some e) new ordered lt is once change =
    elim (tells n k) [
      | inl p ↦ subst (λ j. Change (Go j to ∷ moves) next n (element_at u n) new) p.1
          (going moves e to next n (element_at u n) (element_at (moved u (Some e) to) n) new (subst (λ m. m < next) (sym p.1) lt) (ap (element_at u) p.1 ∙ is) (moved_here u e n to (ordered.numbered k e is ∙ sym p.1))
          (subst (λ j. moves_element moves j ≡ false) (sym p.1) once) change)
      | inr p ↦ lifted (Go k to) moves next n (element_at u n) (element_at (moved u (Some e) to) n) new (moved_apart u (Some e) k n to (λ f same. ordered.numbered k f (is ∙ same)) p.1) change
    ]

turn_on : (u : Version) (moves : List Move) (next k n : ℕ) (o : Option ElementDef) (new : Option ElementDef) → IsOrdered u → k < next → element_at u k ≡ o → moves_element moves k ≡ false
    → Change moves next n (element_at (turned u o) n) new → Change (Turn k ∷ moves) next n (element_at u n) new
turn_on u moves next k n None new ordered lt is once change = lifted (Turn k) moves next n (element_at u n) (element_at u n) new refl change
turn_on u moves next k n (Some e) new ordered lt is once change =
    elim (tells n k) [
      | inl p ↦ subst (λ j. Change (Turn j ∷ moves) next n (element_at u n) new) p.1
          (turning moves e next n (element_at u n) (element_at (turned u (Some e)) n) new (subst (λ m. m < next) (sym p.1) lt) (ap (element_at u) p.1 ∙ is) (turned_here u e n (ordered.numbered k e is ∙ sym p.1))
          (subst (λ j. moves_element moves j ≡ false) (sym p.1) once) change)
      | inr p ↦ lifted (Turn k) moves next n (element_at u n) (element_at (turned u (Some e)) n) new (turned_apart u (Some e) k n (λ f same. ordered.numbered k f (is ∙ same)) p.1) change
    ]

pub nothing_above : (u : Version) (n : ℕ) (o : Option ElementDef) → IsOrdered u → u.next ≤ n → element_at u n ≡ o → o ≡ None
nothing_above u n None ordered le is = refl
nothing_above u n (Some e) ordered le is = let lt = ordered.below n e is in absurd (omega (arith, lt, le))

enter_on : (u : Version) (moves : List Move) (next n : ℕ) (fresh : _) (to : ElementState) (new : Option ElementDef) → IsOrdered u → next ≤ u.next → AreKnown next moves
    → Change moves next n (element_at (after_move u (Enter fresh to)) n) new → Change (Enter fresh to ∷ moves) next n (element_at u n) new
enter_on u moves next n fresh to new ordered le known change =
    elim (tells n u.next) [
      | inl p ↦ entering moves fresh to next n u.next (element_at u n) (element_at (after_move u (Enter fresh to)) n) new le p.1 (nothing_above u n (element_at u n) ordered (omega (arith, p.1)) refl) (inserted_here u.elements u.next n (as_element u.next fresh to) p.1) known change
      | inr p ↦ lifted (Enter fresh to) moves next n (element_at u n) (element_at (after_move u (Enter fresh to)) n) new (inserted_apart u.elements u.next n (as_element u.next fresh to) p.1) change
    ]

pub change_of : (u : Version) (moves : List Move) (next n : ℕ) → IsOrdered u → next ≤ u.next → AreKnown next moves → AreMovedOnce moves → Change moves next n (element_at u n) (element_at (after_step u moves) n)
change_of u [] next n ordered le known once = Stays refl
change_of u (Enter fresh to ∷ moves) next n ordered le known once =
    let behind : AreKnown next moves = λ k m there its. known k m (later (Enter fresh to) m moves there) its in
    enter_on u moves next n fresh to _ ordered le behind
    (change_of (after_move u (Enter fresh to)) moves next n (stays_ordered u (Enter fresh to) ordered) (omega (arith, le)) behind once.1)
change_of u (Go k to ∷ moves) next n ordered le known once =
    go_on u moves next k n to (element_at u k) _ ordered (known k (Go k to) (here (Go k to) moves) (its_go k to)) refl (once.0 k (its_go k to))
    (change_of (after_move u (Go k to)) moves next n (stays_ordered u (Go k to) ordered) (subst (λ m. next ≤ m) (sym (moved_next u (element_at u k) to)) le) (λ j m there its. known j m (later (Go k to) m moves there) its) once.1)
change_of u (Turn k ∷ moves) next n ordered le known once =
    turn_on u moves next k n (element_at u k) _ ordered (known k (Turn k) (here (Turn k) moves) (its_turn k)) refl (once.0 k (its_turn k))
    (change_of (after_move u (Turn k)) moves next n (stays_ordered u (Turn k) ordered) (subst (λ m. next ≤ m) (sym (turned_next u (element_at u k))) le) (λ j m there its. known j m (later (Turn k) m moves there) its) once.1)
