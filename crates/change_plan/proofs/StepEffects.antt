-- What an allowed step makes of each element.
use Rattle.std.specs.Prelude.{◌≡◌, ◌≢◌, ℕ, suc, ◌+◌, ◌<◌, ◌≤◌, List, [], ◌∷◌, ◌++◌, Bool, true, false, ◌||◌, ◌==◌, Option, Some, None, ◌⊎◌, cond, count_by, refl}
use Rattle.std.proofs.Common.{sym, ap, subst, ◌∙◌, inl, inr, true≢false, arith, eq-eqb}
use Rattle.std.proofs.lemmas.List.Folds.{list_any-append}
use Rattle.std.proofs.lemmas.List.{append_assoc, append-nil}
use Rattle.std.proofs.lemmas.List.Sums.{sum_by-append}
use Rattle.std.proofs.lemmas.Bool.Decides.{Decides-eqb}
use Rattle.std.proofs.Math.Nat.{eq-or-lt_of_le}
use Rattle.std.proofs.lemmas.Bool.{cases_lt}
use Rattle.schema_version.specs.declared.element.ElementState.{ElementState}
use Rattle.schema_version.specs.declared.element.ElementState.TheVariants.{Absent, DeleteOnly, WriteOnly, Public}
use Rattle.schema_version.specs.declared.element.ElementDef.{ElementDef}
use Rattle.schema_version.specs.declared.element.NewElement.{NewElement}
use Rattle.schema_version.specs.declared.step.Move.{Move}
use Rattle.schema_version.specs.declared.step.Move.TheVariants.{Enter, Go, Turn}
use Rattle.schema_version.specs.declared.step.StepFault.{StepFault}
use Rattle.schema_version.specs.Version.{Version, element_at, count_live}
use Rattle.schema_version.specs.Steps.{IsOrdered, in_state_or_none}
use Rattle.schema_version.specs.Moves.{as_element, turned_back, entered, moved, turned, after_move, after_step, is_move_of, moves_element, MoveFault, IsAllowed, is_entry, is_entry_like}
use Rattle.change_plan.proofs.MoveEffects.{AreReady, not_true, MayGo, MayEnter, moved_here, same_or_apart, like_moved, may_turn, like_written, moved_apart, entered_here, moved_tables, put_apart, MayTurn, may_enter, may_go, put_here, moved_next, entered_apart, like_entered}

-- what the first moves of a step have made of a number, and which of them
pub data Becomes (old : Version) (step earlier : List Move) (next number : ℕ) (now : Option ElementDef) : Type 0 where
  Stays : now ≡ element_at old number → moves_element earlier number ≡ false → ((number < old.next) ⊎ (next ≤ number)) → Becomes old step earlier next number now
  Comes : (before after : List Move) (fresh : NewElement) → step ≡ before ++ Enter fresh DeleteOnly ∷ after → number ≡ old.next + count_by is_entry before → element_at old number ≡ None → now ≡ Some (as_element number fresh DeleteOnly) → AreReady old step fresh.kind → Becomes old step earlier next number now
  Turns : (before after : List Move) → step ≡ before ++ Turn number ∷ after → (may : MayTurn old before number) → now ≡ Some (turned_back may.element) → Becomes old step earlier next number now
  Goes : (before after : List Move) (to : ElementState) → step ≡ before ++ Go number to ∷ after → (may : MayGo old step before number to) → now ≡ in_state_or_none may.element to → Becomes old step earlier next number now

-- the version after the first moves of a step
pub record Midway (old : Version) (step earlier : List Move) (now : Version) : Type 0 where
  pub numbered : IsOrdered now
  pub next : now.next ≡ old.next + count_by is_entry earlier
  pub tables : now.tables ≡ old.tables
  pub same : (number : ℕ) → number < old.next → moves_element earlier number ≡ false → element_at now number ≡ element_at old number
  pub becomes : (number : ℕ) → Becomes old step earlier now.next number (element_at now number)
  pub like : (table : ℕ) (index : Bool) → count_live now table index ≤ count_live old table index + count_by (is_entry_like table index) earlier

-- a number that hasn't been given names nothing
pub not_given : (v : Version) → IsOrdered v → (n : ℕ) → v.next ≤ n → element_at v n ≡ None
not_given v w n above = pick (element_at v n) refl
  where
    pick : (o : Option ElementDef) → element_at v n ≡ o → element_at v n ≡ None
    pick None at = at
    pick (Some e) at = let below : n < v.next = w.below n e at in absurd (omega arith)

or_false_left : (a b : Bool) → (a || b) ≡ false → a ≡ false
or_false_left true b e = e
or_false_left false b e = refl

or_false_right : (a b : Bool) → (a || b) ≡ false → b ≡ false
or_false_right true b e = absurd (true≢false e)
or_false_right false b e = e

before_last : (earlier : List Move) (move : Move) (n : ℕ) → moves_element (earlier ++ move ∷ []) n ≡ false → moves_element earlier n ≡ false
before_last earlier move n e = or_false_left _ _ (sym (list_any-append (is_move_of n) earlier (move ∷ [])) ∙ e)

last_of : (earlier : List Move) (move : Move) (n : ℕ) → moves_element (earlier ++ move ∷ []) n ≡ false → is_move_of n move ≡ false
last_of earlier move n e = or_false_left _ _ (or_false_right (moves_element earlier n) _ (sym (list_any-append (is_move_of n) earlier (move ∷ [])) ∙ e))

not_itself : (n : ℕ) → (n == n) ≡ false → ⊥
not_itself n e = true≢false (sym (eq-eqb n n refl) ∙ e)

moves_both : (earlier : List Move) (move : Move) (n : ℕ) → moves_element earlier n ≡ false → is_move_of n move ≡ false → moves_element (earlier ++ move ∷ []) n ≡ false
moves_both earlier move n one two = list_any-append (is_move_of n) earlier (move ∷ []) ∙ ap (λ b. b || (is_move_of n move || false)) one ∙ ap (λ b. b || false) two

count_append : (one two : List Move) → count_by is_entry (one ++ two) ≡ count_by is_entry one + count_by is_entry two
count_append one two = sum_by-append (λ (m : Move). cond (is_entry m) 1 0) one two

count_entry : (earlier : List Move) (fresh : NewElement) (to : ElementState) → count_by is_entry (earlier ++ Enter fresh to ∷ []) ≡ suc (count_by is_entry earlier)
count_entry earlier fresh to = let e : count_by is_entry (earlier ++ Enter fresh to ∷ []) ≡ count_by is_entry earlier + 1 = count_append earlier (Enter fresh to ∷ []) in omega arith

count_go : (earlier : List Move) (number : ℕ) (to : ElementState) → count_by is_entry (earlier ++ Go number to ∷ []) ≡ count_by is_entry earlier
count_go earlier number to = let e : count_by is_entry (earlier ++ Go number to ∷ []) ≡ count_by is_entry earlier + 0 = count_append earlier (Go number to ∷ []) in omega arith

count_turn : (earlier : List Move) (number : ℕ) → count_by is_entry (earlier ++ Turn number ∷ []) ≡ count_by is_entry earlier
count_turn earlier number = let e : count_by is_entry (earlier ++ Turn number ∷ []) ≡ count_by is_entry earlier + 0 = count_append earlier (Turn number ∷ []) in omega arith

count_likes : (table : ℕ) (index : Bool) (earlier : List Move) (move : Move) → count_by (is_entry_like table index) (earlier ++ move ∷ []) ≡ count_by (is_entry_like table index) earlier + cond (is_entry_like table index move) 1 0
count_likes table index earlier move =
    let e : count_by (is_entry_like table index) (earlier ++ move ∷ []) ≡ count_by (is_entry_like table index) earlier + (0 + cond (is_entry_like table index move) 1 0) = sum_by-append (λ (m : Move). cond (is_entry_like table index m) 1 0) earlier (move ∷ []) in
    omega arith

module _ (old : Version) (step : List Move) (numbered : IsOrdered old) where
  mid_enter : (earlier later : List Move) (now : Version) → Midway old step earlier now → (fresh : NewElement) → step ≡ earlier ++ Enter fresh DeleteOnly ∷ later → AreReady old step fresh.kind → Midway old step (earlier ++ Enter fresh DeleteOnly ∷ []) (entered now fresh DeleteOnly)
  mid_enter earlier later now mid fresh split ready = record {
    numbered = record { numbered = own; below = given };
    next = let e : now.next ≡ old.next + count_by is_entry earlier = mid.next in let f : count_by is_entry (earlier ++ Enter fresh DeleteOnly ∷ []) ≡ suc (count_by is_entry earlier) = count_entry earlier fresh DeleteOnly in omega arith;
    tables = mid.tables;
    same = same;
    becomes = becomes;
    like = λ table index. omega (arith, mid.like table index, like_entered table index now fresh DeleteOnly, count_likes table index earlier (Enter fresh DeleteOnly));
  }
    where
      own : (number : ℕ) (element : ElementDef) → element_at (entered now fresh DeleteOnly) number ≡ Some element → element.number ≡ number
      own n e at = elim (same_or_apart n now.next) [
        | inl is ↦ let h : Some (as_element now.next fresh DeleteOnly) ≡ Some e = sym (entered_here now fresh DeleteOnly) ∙ ap (element_at (entered now fresh DeleteOnly)) (sym is) ∙ at in cc
        | inr ne ↦ mid.numbered.numbered n e (sym (entered_apart now fresh DeleteOnly n ne) ∙ at)
      ]

      given : (number : ℕ) (element : ElementDef) → element_at (entered now fresh DeleteOnly) number ≡ Some element → number < now.next + 1
      given n e at = elim (same_or_apart n now.next) [
        | inl is ↦ omega arith
        | inr ne ↦ let h : n < now.next = mid.numbered.below n e (sym (entered_apart now fresh DeleteOnly n ne) ∙ at) in omega arith
      ]

      same : (number : ℕ) → number < old.next → moves_element (earlier ++ Enter fresh DeleteOnly ∷ []) number ≡ false → element_at (entered now fresh DeleteOnly) number ≡ element_at old number
      same n below none = let l : now.next ≡ old.next + count_by is_entry earlier = mid.next in entered_apart now fresh DeleteOnly n (λ (is : n ≡ now.next). omega arith) ∙ mid.same n below (before_last earlier _ n none)

      becomes : (number : ℕ) → Becomes old step (earlier ++ Enter fresh DeleteOnly ∷ []) (now.next + 1) number (element_at (entered now fresh DeleteOnly) number)
      becomes n = elim (same_or_apart n now.next) [
        | inl is ↦
            let l : now.next ≡ old.next + count_by is_entry earlier = mid.next in
            let above : old.next ≤ n = omega arith in
            let here : element_at (entered now fresh DeleteOnly) n ≡ Some (as_element n fresh DeleteOnly) = subst (λ k. element_at (entered now fresh DeleteOnly) k ≡ Some (as_element k fresh DeleteOnly)) (sym is) (entered_here now fresh DeleteOnly) in
            Comes earlier later fresh split (is ∙ l) (not_given old numbered n above) here ready
        | inr ne ↦ subst (Becomes old step (earlier ++ Enter fresh DeleteOnly ∷ []) (now.next + 1) n) (sym (entered_apart now fresh DeleteOnly n ne)) (on n ne (mid.becomes n))
      ]
        where
          on : (n : ℕ) → n ≢ now.next → Becomes old step earlier now.next n (element_at now n) → Becomes old step (earlier ++ Enter fresh DeleteOnly ∷ []) (now.next + 1) n (element_at now n)
          on n ne (Stays same unmoved outside) = Stays same (moves_both earlier (Enter fresh DeleteOnly) n unmoved refl) (elim outside [ inl below ↦ inl below | inr above ↦ inr (strictly above) ])
            where
              strictly : now.next ≤ n → now.next + 1 ≤ n
              strictly above = elim (eq-or-lt_of_le above) [ inl is ↦ absurd (ne (sym is)) | inr more ↦ omega (arith, more) ]
          on n ne (Comes before after fresh split place at_old at_now ready) = Comes before after fresh split place at_old at_now ready
          on n ne (Goes before after to split may at_now) = Goes before after to split may at_now
          on n ne (Turns before after split may at_now) = Turns before after split may at_now

  mid_go : (earlier later : List Move) (now : Version) → Midway old step earlier now → (number : ℕ) (to : ElementState) → step ≡ earlier ++ Go number to ∷ later → MayGo old step earlier number to → Midway old step (earlier ++ Go number to ∷ []) (after_move now (Go number to))
  mid_go earlier later now mid number to split may = subst (λ (o : Option ElementDef). Midway old step (earlier ++ Go number to ∷ []) (moved now o to)) (sym at_now) (record {
    numbered = record { numbered = own; below = given };
    next = moved_next now e to ∙ mid.next ∙ ap (λ c. old.next + c) (sym (count_go earlier number to));
    tables = moved_tables now e to ∙ mid.tables;
    same = same;
    becomes = becomes;
    like = λ table index. omega (arith, mid.like table index, like_moved table index now may.element (subst (λ k. element_at now k ≡ Some may.element) (sym is_own) at_now) to, count_likes table index earlier (Go number to));
  })
    where
      e : ElementDef
      e = may.element

      below : number < old.next
      below = numbered.below number may.element may.there

      is_own : may.element.number ≡ number
      is_own = numbered.numbered number may.element may.there

      at_now : element_at now number ≡ Some may.element
      at_now = mid.same number below may.first ∙ may.there

      here : element_at (moved now (Some may.element) to) number ≡ in_state_or_none may.element to
      here = subst (λ k. element_at (moved now (Some may.element) to) k ≡ in_state_or_none may.element to) is_own (moved_here now may.element to)

      apart_at : (n : ℕ) → n ≢ number → element_at (moved now (Some may.element) to) n ≡ element_at now n
      apart_at n ne = moved_apart now may.element to n (λ (is : n ≡ may.element.number). ne (is ∙ is_own))

      turned_own : (to : ElementState) (f : ElementDef) → in_state_or_none may.element to ≡ Some f → f.number ≡ may.element.number
      turned_own Absent f is = cc
      turned_own DeleteOnly f is = cc
      turned_own WriteOnly f is = cc
      turned_own Public f is = cc

      own : (n : ℕ) (f : ElementDef) → element_at (moved now (Some may.element) to) n ≡ Some f → f.number ≡ n
      own n f at = elim (same_or_apart n number) [
        | inl is ↦
            let at_number : element_at (moved now (Some may.element) to) number ≡ Some f = subst (λ k. element_at (moved now (Some may.element) to) k ≡ Some f) is at in
            turned_own to f (sym here ∙ at_number) ∙ is_own ∙ sym is
        | inr ne ↦ mid.numbered.numbered n f (sym (apart_at n ne) ∙ at)
      ]

      given : (n : ℕ) (f : ElementDef) → element_at (moved now (Some may.element) to) n ≡ Some f → n < (moved now (Some may.element) to).next
      given n f at = subst (λ x. n < x) (sym (moved_next now may.element to)) (elim (same_or_apart n number) [
        | inl is ↦ let l : now.next ≡ old.next + count_by is_entry earlier = mid.next in let b : number < old.next = below in omega arith
        | inr ne ↦ mid.numbered.below n f (sym (apart_at n ne) ∙ at)
      ])

      same : (n : ℕ) → n < old.next → moves_element (earlier ++ Go number to ∷ []) n ≡ false → element_at (moved now (Some may.element) to) n ≡ element_at old n
      same n small none = apart_at n (λ (is : n ≡ number). not_itself number (subst (λ k. (number == k) ≡ false) is (last_of earlier (Go number to) n none))) ∙ mid.same n small (before_last earlier _ n none)

      becomes : (n : ℕ) → Becomes old step (earlier ++ Go number to ∷ []) (moved now (Some may.element) to).next n (element_at (moved now (Some may.element) to) n)
      becomes n = subst (λ next. Becomes old step (earlier ++ Go number to ∷ []) next n (element_at (moved now (Some may.element) to) n)) (sym (moved_next now may.element to)) (elim (same_or_apart n number) [
        | inl is ↦ subst (λ k. Becomes old step (earlier ++ Go number to ∷ []) now.next k (element_at (moved now (Some may.element) to) k)) (sym is)
            (Goes earlier later to split may here)
        | inr ne ↦ subst (Becomes old step (earlier ++ Go number to ∷ []) now.next n) (sym (apart_at n ne)) (on n ne (mid.becomes n))
      ])
        where
          on : (n : ℕ) → n ≢ number → Becomes old step earlier now.next n (element_at now n) → Becomes old step (earlier ++ Go number to ∷ []) now.next n (element_at now n)
          on n ne (Stays same unmoved outside) = Stays same (moves_both earlier (Go number to) n unmoved (not_true (number == n) (λ t. ne (sym ((Decides-eqb number n).0 t))))) outside
          on n ne (Comes before after fresh split place at_old at_now ready) = Comes before after fresh split place at_old at_now ready
          on n ne (Goes before after to split may at_now) = Goes before after to split may at_now
          on n ne (Turns before after split may at_now) = Turns before after split may at_now

  mid_turn : (earlier later : List Move) (now : Version) → Midway old step earlier now → (number : ℕ) → step ≡ earlier ++ Turn number ∷ later → MayTurn old earlier number → Midway old step (earlier ++ Turn number ∷ []) (after_move now (Turn number))
  mid_turn earlier later now mid number split may = subst (λ (o : Option ElementDef). Midway old step (earlier ++ Turn number ∷ []) (turned now o)) (sym at_now) (record {
    numbered = record { numbered = own; below = given };
    next = mid.next ∙ ap (λ c. old.next + c) (sym (count_turn earlier number));
    tables = mid.tables;
    same = same;
    becomes = becomes;
    like = λ table index. omega (arith, mid.like table index, like_written table index now may.element (subst (λ k. element_at now k ≡ Some may.element) (sym is_own) at_now) (turned_back may.element) refl, count_likes table index earlier (Turn number));
  })
    where
      below : number < old.next
      below = numbered.below number may.element may.there

      is_own : may.element.number ≡ number
      is_own = numbered.numbered number may.element may.there

      at_now : element_at now number ≡ Some may.element
      at_now = mid.same number below may.first ∙ may.there

      here : element_at (turned now (Some may.element)) number ≡ Some (turned_back may.element)
      here = subst (λ k. element_at (turned now (Some may.element)) k ≡ Some (turned_back may.element)) is_own (put_here now.elements may.element.number (turned_back may.element))

      apart_at : (n : ℕ) → n ≢ number → element_at (turned now (Some may.element)) n ≡ element_at now n
      apart_at n ne = put_apart now.elements may.element.number (turned_back may.element) n (λ (is : n ≡ may.element.number). ne (is ∙ is_own))

      own : (n : ℕ) (f : ElementDef) → element_at (turned now (Some may.element)) n ≡ Some f → f.number ≡ n
      own n f at = elim (same_or_apart n number) [
        | inl is ↦
            let one : Some (turned_back may.element) ≡ Some f = sym here ∙ subst (λ k. element_at (turned now (Some may.element)) k ≡ Some f) is at in
            let same : turned_back may.element ≡ f = cc in
            ap (λ (x : ElementDef). x.number) (sym same) ∙ is_own ∙ sym is
        | inr ne ↦ mid.numbered.numbered n f (sym (apart_at n ne) ∙ at)
      ]

      given : (n : ℕ) (f : ElementDef) → element_at (turned now (Some may.element)) n ≡ Some f → n < now.next
      given n f at = elim (same_or_apart n number) [
        | inl is ↦ let l : now.next ≡ old.next + count_by is_entry earlier = mid.next in let b : number < old.next = below in omega arith
        | inr ne ↦ mid.numbered.below n f (sym (apart_at n ne) ∙ at)
      ]

      same : (n : ℕ) → n < old.next → moves_element (earlier ++ Turn number ∷ []) n ≡ false → element_at (turned now (Some may.element)) n ≡ element_at old n
      same n small none = apart_at n (λ (is : n ≡ number). not_itself number (subst (λ k. (number == k) ≡ false) is (last_of earlier (Turn number) n none))) ∙ mid.same n small (before_last earlier _ n none)

      becomes : (n : ℕ) → Becomes old step (earlier ++ Turn number ∷ []) now.next n (element_at (turned now (Some may.element)) n)
      becomes n = elim (same_or_apart n number) [
        | inl is ↦ subst (λ k. Becomes old step (earlier ++ Turn number ∷ []) now.next k (element_at (turned now (Some may.element)) k)) (sym is) (Turns earlier later split may here)
        | inr ne ↦ subst (Becomes old step (earlier ++ Turn number ∷ []) now.next n) (sym (apart_at n ne)) (on n ne (mid.becomes n))
      ]
        where
          on : (n : ℕ) → n ≢ number → Becomes old step earlier now.next n (element_at now n) → Becomes old step (earlier ++ Turn number ∷ []) now.next n (element_at now n)
          on n ne (Stays same unmoved outside) = Stays same (moves_both earlier (Turn number) n unmoved (not_true (number == n) (λ t. ne (sym ((Decides-eqb number n).0 t))))) outside
          on n ne (Comes before after fresh split place at_old at_now ready) = Comes before after fresh split place at_old at_now ready
          on n ne (Goes before after to split may at_now) = Goes before after to split may at_now
          on n ne (Turns before after split may at_now) = Turns before after split may at_now

  mid_move : (earlier later : List Move) (now : Version) → Midway old step earlier now → (move : Move) → step ≡ earlier ++ move ∷ later → ((fault : StepFault) → ¬ (MoveFault old step earlier move fault)) → Midway old step (earlier ++ move ∷ []) (after_move now move)
  mid_move earlier later now mid (Go number to) split h = mid_go earlier later now mid number to split (may_go old step earlier number to h)
  mid_move earlier later now mid (Turn number) split h = mid_turn earlier later now mid number split (may_turn old step earlier number h)
  mid_move earlier later now mid (Enter fresh to) split h =
      let may : MayEnter old step fresh to = may_enter old step earlier fresh to h in
      subst (λ state. Midway old step (earlier ++ Enter fresh state ∷ []) (entered now fresh state)) (sym may.edge) (mid_enter earlier later now mid fresh (subst (λ state. step ≡ earlier ++ Enter fresh state ∷ later) may.edge split) may.ready)

  mid_step : IsAllowed old step → (earlier later : List Move) → step ≡ earlier ++ later → (now : Version) → Midway old step earlier now → Midway old step step (after_step now later)
  mid_step allowed earlier [] split now mid = subst (λ s. Midway old step s now) (sym (append-nil earlier) ∙ sym split) mid
  mid_step allowed earlier (move ∷ later) split now mid =
      mid_step allowed (earlier ++ move ∷ []) later (split ∙ sym (append_assoc earlier (move ∷ []) later)) (after_move now move)
      (mid_move earlier later now mid move split (λ fault. allowed earlier later move fault split))

  -- what an allowed step makes of every number
  pub after_allowed : IsAllowed old step → Midway old step step (after_step old step)
  after_allowed allowed = mid_step allowed [] step refl old (record { numbered = numbered; next = omega arith; tables = refl; same = λ n below none. refl; becomes = at_first; like = λ table index. omega arith })
    where
      at_first : (n : ℕ) → Becomes old step [] old.next n (element_at old n)
      at_first n = Stays refl refl (cases_lt n old.next)
