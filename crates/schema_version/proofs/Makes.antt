-- The entries that a step leaves are those of the version that it gives.
use Rattle.std.proofs.Common.{◌≡◌, ℕ, ◌+◌, ◌<◌, ◌≤◌, cond, List, [], ◌∷◌, Option, Some, None, inl, inr, refl, sym, ap, subst, ◌∙◌, arith, nat_eq, count_by, add-zero, length, drop}
use Rattle.std.proofs.lemmas.List.{at_drop_all}
use Rattle.std.proofs.lemmas.List.Sums.{sum_by-cons}
use Rattle.std.specs.Map.{lookup}
use Rattle.std.specs.FinMap as map
use Rattle.indexmap.specs.IndexMap.{insert_entry}
use Rattle.schema_version.specs.declared.element.ElementState.{ElementState}
use Rattle.schema_version.specs.declared.element.ElementState.TheVariants.{Absent, DeleteOnly, WriteOnly, Public}
use Rattle.schema_version.specs.declared.element.ElementDef.{ElementDef}
use Rattle.schema_version.specs.declared.step.Move.{Move}
use Rattle.schema_version.specs.declared.step.Move.TheVariants.{Enter, Go, Turn}
use Rattle.schema_version.specs.Names.{max_elements}
use Rattle.schema_version.specs.Version.{Version}
use Rattle.schema_version.specs.Moves.{as_element, in_state, moved, turned_back, turned, after_move, after_step, is_entry}
use Rattle.schema_version.specs.Held.{IsNumbered, IsHeld, holding, moved_entries, turned_entries, made, all_made}
use Rattle.schema_version.proofs.Entries.{Fits, map_insert, map_remove, map_get, rising_insert, rising_remove, All-found, All-insert, All-remove, All-weaker}
use Rattle.schema_version.proofs.Decides.{AreNumbered}

-- the next number is above all
new_fits : (es : List (ℕ × ElementDef)) (next : ℕ) → IsHeld es next → Fits next es
new_fits es next held = inl (All-weaker (IsNumbered next) (λ e. e.0 < next) es (λ e p. p.given) held.numbered)

pub numbered_of : (es : List (ℕ × ElementDef)) (next n : ℕ) (e : ElementDef) → IsHeld es next → lookup (nat_eq n) es ≡ Some e → IsNumbered next (n, e)
numbered_of es next n e held found = All-found (IsNumbered next) n e es held.numbered found

pub are_numbered : (v : Version) (es : List (ℕ × ElementDef)) (next : ℕ) → IsHeld es next → AreNumbered (holding v es next)
are_numbered v es next held = λ n e at. (numbered_of es next n e held (sym (map_get es n held.rising) ∙ at)).own

-- ---- an entry

enter_held : (es : List (ℕ × ElementDef)) (next : ℕ) (e : ElementDef) → IsHeld es next → e.number ≡ next → next + 1 ≤ max_elements + 1 → IsHeld (insert_entry nat_eq es next e) (next + 1)
enter_held es next e held own few =
    record {
      rising = rising_insert next e es held.rising (new_fits es next held);
      numbered = All-insert (IsNumbered (next + 1)) next e es
          (All-weaker (IsNumbered next) (IsNumbered (next + 1)) es (λ x p. record { above = p.above; given = omega (arith, p.given); own = p.own }) held.numbered)
          (record { above = held.begun; given = omega arith; own = own });
      begun = omega arith;
      few = few;
    }

-- ---- a move of a live element

put_held : (es : List (ℕ × ElementDef)) (next n : ℕ) (e x : ElementDef) → x.number ≡ e.number → IsHeld es next → lookup (nat_eq n) es ≡ Some e → IsHeld (insert_entry nat_eq es n x) next
put_held es next n e x own held found =
    let p = numbered_of es next n e held found in
    record {
      rising = rising_insert n x es held.rising (inr (e, found));
      numbered = All-insert (IsNumbered next) n x es held.numbered (record { above = p.above; given = p.given; own = own ∙ p.own });
      begun = held.begun;
      few = held.few;
    }

put_is : (v : Version) (es : List (ℕ × ElementDef)) (next n : ℕ) (e x : ElementDef) → IsHeld es next → lookup (nat_eq n) es ≡ Some e
    → holding v (insert_entry nat_eq es n x) next ≡ record (holding v es next) { elements = map.insert (map.from_sorted es) e.number x }
put_is v es next n e x held found =
    ap (λ m. record v { elements = m; next = next }) (sym (map_insert n x es held.rising (inr (e, found))) ∙ ap (λ k. map.insert (map.from_sorted es) k x) (sym (numbered_of es next n e held found).own))

moved_held : (es : List (ℕ × ElementDef)) (next n : ℕ) (o : Option ElementDef) (to : ElementState) → IsHeld es next → lookup (nat_eq n) es ≡ o → IsHeld (moved_entries es n o to) next
moved_held es next n None to held found = held
moved_held es next n (Some e) Absent held found =
    record {
      rising = rising_remove n es held.rising;
      numbered = All-remove (IsNumbered next) n es held.numbered;
      begun = held.begun;
      few = held.few;
    }
moved_held es next n (Some e) DeleteOnly held found = put_held es next n e (in_state e DeleteOnly) refl held found
moved_held es next n (Some e) WriteOnly held found = put_held es next n e (in_state e WriteOnly) refl held found
moved_held es next n (Some e) Public held found = put_held es next n e (in_state e Public) refl held found

moved_is : (v : Version) (es : List (ℕ × ElementDef)) (next n : ℕ) (o : Option ElementDef) (to : ElementState) → IsHeld es next → lookup (nat_eq n) es ≡ o → holding v (moved_entries es n o to) next ≡ moved (holding v es next) o to
moved_is v es next n None to held found = refl
moved_is v es next n (Some e) Absent held found =
    ap (λ m. record v { elements = m; next = next }) (sym (map_remove n es held.rising) ∙ ap (map.remove (map.from_sorted es)) (sym (numbered_of es next n e held found).own))
moved_is v es next n (Some e) DeleteOnly held found = put_is v es next n e (in_state e DeleteOnly) held found
moved_is v es next n (Some e) WriteOnly held found = put_is v es next n e (in_state e WriteOnly) held found
moved_is v es next n (Some e) Public held found = put_is v es next n e (in_state e Public) held found

turned_held : (es : List (ℕ × ElementDef)) (next n : ℕ) (o : Option ElementDef) → IsHeld es next → lookup (nat_eq n) es ≡ o → IsHeld (turned_entries es n o) next
turned_held es next n None held found = held
turned_held es next n (Some e) held found = put_held es next n e (turned_back e) refl held found

turned_is : (v : Version) (es : List (ℕ × ElementDef)) (next n : ℕ) (o : Option ElementDef) → IsHeld es next → lookup (nat_eq n) es ≡ o → holding v (turned_entries es n o) next ≡ turned (holding v es next) o
turned_is v es next n None held found = refl
turned_is v es next n (Some e) held found = put_is v es next n e (turned_back e) held found

-- ---- moves

made_held : (es : List (ℕ × ElementDef)) (next : ℕ) (m : Move) → IsHeld es next → next + cond (is_entry m) 1 0 ≤ max_elements + 1 → IsHeld (made es next m).0 (made es next m).1
made_held es next (Enter fresh to) held few = enter_held es next (as_element next fresh to) held refl few
made_held es next (Go n to) held few = moved_held es next n (lookup (nat_eq n) es) to held refl
made_held es next (Turn n) held few = turned_held es next n (lookup (nat_eq n) es) held refl

made_is : (v : Version) (es : List (ℕ × ElementDef)) (next : ℕ) (m : Move) → IsHeld es next → holding v (made es next m).0 (made es next m).1 ≡ after_move (holding v es next) m
made_is v es next (Enter fresh to) held = ap (λ m. record v { elements = m; next = next + 1 }) (sym (map_insert next (as_element next fresh to) es held.rising (new_fits es next held)))
made_is v es next (Go n to) held = moved_is v es next n (lookup (nat_eq n) es) to held refl ∙ ap (λ o. moved (holding v es next) o to) (sym (map_get es n held.rising))
made_is v es next (Turn n) held = turned_is v es next n (lookup (nat_eq n) es) held refl ∙ ap (λ o. turned (holding v es next) o) (sym (map_get es n held.rising))

pub all_made_held : (es : List (ℕ × ElementDef)) (next : ℕ) (ms : List Move) → IsHeld es next → next + count_by is_entry ms ≤ max_elements + 1 → IsHeld (all_made es next ms).0 (all_made es next ms).1
all_made_held es next [] held few = held
all_made_held es next (Enter fresh to ∷ ms) held few =
    let count : count_by is_entry (Enter fresh to ∷ ms) ≡ 1 + count_by is_entry ms = sum_by-cons (λ m. cond (is_entry m) 1 0) (Enter fresh to) ms in
    let room : next + (1 + count_by is_entry ms) ≤ max_elements + 1 = subst (λ n. next + n ≤ max_elements + 1) count few in
    all_made_held (made es next (Enter fresh to)).0 (next + 1) ms (made_held es next (Enter fresh to) held (omega (arith, room))) (omega (arith, room))
all_made_held es next (Go n to ∷ ms) held few = all_made_held (made es next (Go n to)).0 next ms (made_held es next (Go n to) held (subst (λ k. k ≤ max_elements + 1) (sym (add-zero next)) held.few)) few
all_made_held es next (Turn n ∷ ms) held few = all_made_held (made es next (Turn n)).0 next ms (made_held es next (Turn n) held (subst (λ k. k ≤ max_elements + 1) (sym (add-zero next)) held.few)) few

pub all_made_is : (v : Version) (es : List (ℕ × ElementDef)) (next : ℕ) (ms : List Move) → IsHeld es next → next + count_by is_entry ms ≤ max_elements + 1 → holding v (all_made es next ms).0 (all_made es next ms).1 ≡ after_step (holding v es next) ms
all_made_is v es next [] held few = refl
all_made_is v es next (Enter fresh to ∷ ms) held few =
    let count : count_by is_entry (Enter fresh to ∷ ms) ≡ 1 + count_by is_entry ms = sum_by-cons (λ m. cond (is_entry m) 1 0) (Enter fresh to) ms in
    let room : next + (1 + count_by is_entry ms) ≤ max_elements + 1 = subst (λ n. next + n ≤ max_elements + 1) count few in
    all_made_is v (made es next (Enter fresh to)).0 (next + 1) ms (made_held es next (Enter fresh to) held (omega (arith, room))) (omega (arith, room)) ∙ ap (λ w. after_step w ms) (made_is v es next (Enter fresh to) held)
all_made_is v es next (Go n to ∷ ms) held few =
    all_made_is v (made es next (Go n to)).0 next ms (made_held es next (Go n to) held (subst (λ k. k ≤ max_elements + 1) (sym (add-zero next)) held.few)) few ∙ ap (λ w. after_step w ms) (made_is v es next (Go n to) held)
all_made_is v es next (Turn n ∷ ms) held few =
    all_made_is v (made es next (Turn n)).0 next ms (made_held es next (Turn n) held (subst (λ k. k ≤ max_elements + 1) (sym (add-zero next)) held.few)) few ∙ ap (λ w. after_step w ms) (made_is v es next (Turn n) held)

-- a loop over the moves that has come to the end
pub done_is : (es first_es : List (ℕ × ElementDef)) (next first i : ℕ) (ms : List Move) → length ms ≤ i → all_made es next (drop i ms) ≡ all_made first_es first ms → (es, next) ≡ all_made first_es first ms
done_is es first_es next first i ms le so_far = sym (at_drop_all (all_made es next) ms i le) ∙ so_far

pub all_made_next : (es : List (ℕ × ElementDef)) (next : ℕ) (ms : List Move) → (all_made es next ms).1 ≡ next + count_by is_entry ms
all_made_next es next [] = sym (add-zero next)
all_made_next es next (Enter fresh to ∷ ms) =
    let count : count_by is_entry (Enter fresh to ∷ ms) ≡ 1 + count_by is_entry ms = sum_by-cons (λ m. cond (is_entry m) 1 0) (Enter fresh to) ms in
    let rest = all_made_next (made es next (Enter fresh to)).0 (next + 1) ms in
    omega (arith, count, rest)
all_made_next es next (Go n to ∷ ms) = all_made_next (made es next (Go n to)).0 next ms
all_made_next es next (Turn n ∷ ms) = all_made_next (made es next (Turn n)).0 next ms
