-- What is left falls.
use Rattle.std.proofs.Common.{◌≡◌, ◌≢◌, ℕ, zero, suc, ◌+◌, ◌<◌, ◌≤◌, false, List, [], ◌∷◌, Option, Some, None, ◌⊎◌, inl, inr, refl, sym, ap, subst, ◌∙◌, arith, Contains}
use Rattle.std.proofs.lemmas.Bool.Decides.{Decides-eqb}
use Rattle.schema_version.specs.declared.element.ElementState.{ElementState}
use Rattle.schema_version.specs.declared.element.ElementDef.{ElementDef}
use Rattle.schema_version.specs.declared.step.Move.{Move}
use Rattle.schema_version.specs.declared.step.Move.TheVariants.{Enter, Go, Turn}
use Rattle.schema_version.specs.Version.{Version, element_at}
use Rattle.schema_version.specs.Sound.{IsSoundVersion}
use Rattle.schema_version.specs.Moves.{is_move_of, moves_element, after_move, after_step, moved}
use Rattle.schema_version.specs.Steps.{Change, Stays, Enters, Goes, Turns, IsOrdered, in_state_or_none}
use Rattle.schema_version.proofs.Along.{ordered_of}
use Rattle.schema_version.proofs.Changes.{AreKnown, AreMovedOnce, its_go, its_turn, change_of, stays_ordered, moved_next, moved_here, moved_apart}
use Rattle.schema_version.proofs.Lists.{here, later, here_or_later, some_same, not_both, any_from}
use Rattle.schema_version.proofs.StepEffects.{change_at}
use Rattle.replay.specs.Replay.{Facts}
use Rattle.rollout.specs.StatePath.{next_state, edges_of}
use Rattle.rollout.specs.Due.{ready_moves}
use Rattle.rollout.specs.Left.{sum_below, edges_at, edges_left}
use Rattle.rollout.proofs.Onward.{edges_fall}
use Rattle.rollout.proofs.Ready.{ready_says, moved_once, step_allowed, IsReadyMove}

none_some : {A B : Type 0} {x : A} → None ≡ Some x → B
none_some e = absurd cc

-- ---- sums

pub sum_least : (f g : ℕ → ℕ) (n : ℕ) → ((k : ℕ) → k < n → g k ≤ f k) → sum_below g n ≤ sum_below f n
sum_least f g zero least = omega arith
sum_least f g (suc n) least =
    let rest = sum_least f g n (λ k lt. least k (omega (arith, lt))) in
    let last = least n (omega arith) in
    omega (arith, rest, last)

pub sum_less : (f g : ℕ → ℕ) (n i : ℕ) → ((k : ℕ) → k < n → g k ≤ f k) → i < n → g i < f i → sum_below g n < sum_below f n
sum_less f g zero i least below less = absurd (omega (arith, below))
sum_less f g (suc n) i least below less = by (sum_least f g n (λ k lt. least k (omega (arith, lt)))) (sum_less f g n i (λ k lt. least k (omega (arith, lt)))) (least n (omega arith)) (parted i n below)
  where
    parted : (i n : ℕ) → i < suc n → (i < n) ⊎ (i ≡ n)
    parted i n lt = search arith

    by : sum_below g n ≤ sum_below f n → (i < n → g i < f i → sum_below g n < sum_below f n) → g n ≤ f n → (i < n) ⊎ (i ≡ n) → sum_below g n + g n < sum_below f n + f n
    by rest lower last (inl lt) = let r = lower lt less in omega (arith, r, last)
    by rest lower last (inr e) = let l : g n < f n = subst (λ (j : ℕ). g j < f j) e less in omega (arith, rest, l)

pub sum_same : (f g : ℕ → ℕ) (n : ℕ) → ((k : ℕ) → g k ≡ f k) → sum_below g n ≡ sum_below f n
sum_same f g zero same = refl
sum_same f g (suc n) same = ap (λ (s : ℕ). s + g n) (sum_same f g n same) ∙ ap (λ (s : ℕ). sum_below f n + s) (same n)

-- ---- the edges that are left

go_of : (n m : ℕ) (s t : ElementState) → Go n s ≡ Go m t → n ≡ m
go_of n m s t e = cc

go_to : (n m : ℕ) (s t : ElementState) → Go n s ≡ Go m t → s ≡ t
go_to n m s t e = cc

pub not_go_enter : {A : Type 0} (fresh : _) (to : ElementState) (m : ℕ) (t : ElementState) → Enter fresh to ≡ Go m t → A
not_go_enter fresh to m t e = absurd cc

pub not_go_turn : {A : Type 0} (n m : ℕ) (t : ElementState) → Turn n ≡ Go m t → A
not_go_turn n m t e = absurd cc

-- ---- what moves lead to

-- each move takes an element to another state
abbrev pub AreGos : List Move → Type 0
AreGos moves = (m : Move) → Contains moves m → (n : ℕ) × (to : ElementState) × (m ≡ Go n to)

-- what is not moved stays
unmoved : (moves : List Move) (next n : ℕ) (old new : Option ElementDef) → n < next → moves_element moves n ≡ false → Change moves next n old new → new ≡ old
unmoved moves next n old new lt still (Stays is) = is
unmoved moves next n old new lt still (Enters fresh to there le none is) = absurd (omega (arith, lt, le))
unmoved moves next n old new lt still (Goes x to there was is) = absurd (not_both (any_from (is_move_of n) moves (Go n to) there (its_go n to)) still)
unmoved moves next n old new lt still (Turns x there was is) = absurd (not_both (any_from (is_move_of n) moves (Turn n) there (its_turn n)) still)

-- the first move leads its element to its state, since no later one moves it
lands_first : (v : Version) (moves : List Move) (n : ℕ) (to : ElementState) (e : ElementDef) → IsOrdered v → AreKnown v.next moves → AreMovedOnce moves → moves_element moves n ≡ false → element_at v n ≡ Some e
    → element_at (after_step v (Go n to ∷ moves)) n ≡ in_state_or_none e to
lands_first v moves n to e ordered known once still at =
    let u : Version = after_move v (Go n to) in
    let here_is : element_at u n ≡ in_state_or_none e to = ap (λ (o : Option ElementDef). element_at (moved v o to) n) at ∙ moved_here v e n to (ordered.numbered n e at) in
    let next_is : u.next ≡ v.next = moved_next v (element_at v n) to in
    let change = change_of u moves v.next n (stays_ordered v (Go n to) ordered) (omega (arith, next_is)) known once in
    unmoved moves v.next n (element_at u n) (element_at (after_step u moves) n) (ordered.below n e at) still change ∙ here_is

lands : (v : Version) (moves : List Move) → IsOrdered v → AreKnown v.next moves → AreMovedOnce moves → AreGos moves → (n : ℕ) (to : ElementState) (e : ElementDef) → Contains moves (Go n to) → element_at v n ≡ Some e
    → element_at (after_step v moves) n ≡ in_state_or_none e to
lands v [] ordered known once gos n to e (k, below, is) at = absurd (omega (arith, below))
lands v (m ∷ moves) ordered known once gos n to e there at =
    elim (here_or_later m (Go n to) moves there) [
      | inl is ↦ subst (λ (x : Move). element_at (after_step v (x ∷ moves)) n ≡ in_state_or_none e to) (sym is)
          (lands_first v moves n to e ordered (λ j x c its. known j x (later m x moves c) its) once.1 (once.0 n (ap (is_move_of n) is ∙ its_go n to)) at)
      | inr more ↦ (let g = gos m (here m moves) in
          let apart : n ≢ g.0 = λ same. not_both (any_from (is_move_of n) moves (Go n to) more (its_go n to)) (once.0 n (ap (is_move_of n) g.2 ∙ (Decides-eqb g.0 n).1 (sym same))) in
          let next_is : (after_move v m).next ≡ v.next = ap (λ (x : Move). (after_move v x).next) g.2 ∙ moved_next v (element_at v g.0) g.1 in
          let still : element_at (after_move v m) n ≡ Some e = ap (λ (x : Move). element_at (after_move v x) n) g.2 ∙ moved_apart v (element_at v g.0) g.0 n g.1 (λ x is. ordered.numbered g.0 x is) apart ∙ at in
          lands (after_move v m) moves (stays_ordered v m ordered) (subst (λ (b : ℕ). AreKnown b moves) (sym next_is) (λ j x c its. known j x (later m x moves c) its)) once.1 (λ x c. gos x (later m x moves c)) n to e more still)
    ]

module _ (facts : Facts) (sound : IsSoundVersion facts.newest) where
  -- a move of the step is the next one on its element's way
  pub next_of : (n : ℕ) (to : ElementState) (e : ElementDef) → Contains (ready_moves facts) (Go n to) → element_at facts.newest n ≡ Some e → next_state e ≡ Some to
  next_of n to e there at =
      let r = ready_says facts (Go n to) sound there in
      let own : n ≡ r.0.number = go_of n r.0.number to r.1.to r.1.is in
      let same : r.0 ≡ e = some_same (sym r.1.there ∙ ap (element_at facts.newest) (sym own) ∙ at) in
      ap next_state (sym same) ∙ r.1.next ∙ ap Some (sym (go_to n r.0.number to r.1.to r.1.is))

  fallen : (n : ℕ) (to : ElementState) (e : ElementDef) (new : Option ElementDef) → next_state e ≡ Some to → element_at facts.newest n ≡ Some e → new ≡ in_state_or_none e to → edges_of new < edges_at facts.newest n
  fallen n to e new next at is =
      let fall = edges_fall e to next in
      let now : edges_of new ≡ edges_of (in_state_or_none e to) = ap edges_of is in
      let was : edges_at facts.newest n ≡ edges_of (Some e) = ap edges_of at in
      omega (arith, fall, now, was)

  -- no element has more to go
  none_more : (n : ℕ) (new : Option ElementDef) → Change (ready_moves facts) facts.newest.next n (element_at facts.newest n) new → edges_of new ≤ edges_at facts.newest n
  none_more n new (Stays e) = let same : edges_of new ≡ edges_at facts.newest n = ap edges_of e in omega (arith, same)
  none_more n new (Enters fresh to there le none is) = (let r = ready_says facts (Enter fresh to) sound there in not_go_enter fresh to r.0.number r.1.to r.1.is)
  none_more n new (Goes e to there was is) = let less = fallen n to e new (next_of n to e there was) was is in omega (arith, less)
  none_more n new (Turns e there was is) = (let r = ready_says facts (Turn n) sound there in not_go_turn n r.0.number r.1.to r.1.is)

  known : AreKnown facts.newest.next (ready_moves facts)
  known n m there its =
      let r = ready_says facts m sound there in
      let same : r.0.number ≡ n = (Decides-eqb r.0.number n).0 (ap (is_move_of n) (sym r.1.is) ∙ its) in
      (ordered_of facts.newest sound).below n r.0 (ap (element_at facts.newest) (sym same) ∙ r.1.there)

  pub ready_gos : AreGos (ready_moves facts)
  ready_gos m there = let r = ready_says facts m sound there in (r.0.number, r.1.to, r.1.is)

  -- a ready element is in its next state after the step
  pub landed : (e : ElementDef) (m : Move) (g : IsReadyMove facts e m) → Contains (ready_moves facts) m → element_at (after_step facts.newest (ready_moves facts)) e.number ≡ in_state_or_none e g.to
  landed e m g there =
      lands facts.newest (ready_moves facts) (ordered_of facts.newest sound) known (moved_once facts sound) ready_gos e.number g.to e (subst (λ (x : Move). Contains (ready_moves facts) x) g.is there) g.there

  -- the element of the first move
  pub first_ready : (m : Move) (rest : List Move) → m ∷ rest ≡ ready_moves facts → (e : ElementDef) × IsReadyMove facts e m × Contains (ready_moves facts) m
  first_ready m rest is =
      let there : Contains (ready_moves facts) m = subst (λ (ms : List Move). Contains ms m) is (here m rest) in
      let r = ready_says facts m sound there in
      (r.0, r.1, there)

  -- it has less to go
  first_less : (m : Move) (rest : List Move) → m ∷ rest ≡ ready_moves facts → (n : ℕ) × (n < facts.newest.next) × (edges_at (after_step facts.newest (ready_moves facts)) n < edges_at facts.newest n)
  first_less m rest is =
      let r = first_ready m rest is in
      let g : IsReadyMove facts r.0 m = r.1 in
      (r.0.number, (ordered_of facts.newest sound).below r.0.number r.0 g.there, fallen r.0.number g.to r.0 (element_at (after_step facts.newest (ready_moves facts)) r.0.number) g.next g.there (landed r.0 m g r.2))

  pub edges_less : (moves : List Move) → moves ≡ ready_moves facts → moves ≢ [] → sum_below (edges_at (after_step facts.newest (ready_moves facts))) facts.newest.next < edges_left facts
  edges_less [] is some = absurd (some refl)
  edges_less (m ∷ rest) is some =
      let f = first_less m rest is in
      sum_less (edges_at facts.newest) (edges_at (after_step facts.newest (ready_moves facts))) facts.newest.next f.0
      (λ n lt. none_more n (element_at (after_step facts.newest (ready_moves facts)) n) (change_at facts.newest (ready_moves facts) (step_allowed facts sound) (ordered_of facts.newest sound) n))
      f.1 f.2

-- no number is given
pub gos_next : (v : Version) (moves : List Move) → AreGos moves → (after_step v moves).next ≡ v.next
gos_next v [] gos = refl
gos_next v (Go n to ∷ moves) gos = gos_next (after_move v (Go n to)) moves (λ m there. gos m (later (Go n to) m moves there)) ∙ moved_next v (element_at v n) to
gos_next v (Enter fresh to ∷ moves) gos = (let g = gos (Enter fresh to) (here (Enter fresh to) moves) in not_go_enter fresh to g.0 g.1 g.2)
gos_next v (Turn n ∷ moves) gos = (let g = gos (Turn n) (here (Turn n) moves) in not_go_turn n g.0 g.1 g.2)

pub step_falls : (facts : Facts) → IsSoundVersion facts.newest → (step : List Move) → step ≡ ready_moves facts → step ≢ [] → sum_below (edges_at (after_step facts.newest step)) (after_step facts.newest step).next < edges_left facts
step_falls facts sound step is some =
    let next_is : (after_step facts.newest (ready_moves facts)).next ≡ facts.newest.next = gos_next facts.newest (ready_moves facts) (λ m there. let r = ready_says facts m sound there in (r.0.number, r.1.to, r.1.is)) in
    subst (λ (ms : List Move). sum_below (edges_at (after_step facts.newest ms)) (after_step facts.newest ms).next < edges_left facts) (sym is)
    (subst (λ (n : ℕ). sum_below (edges_at (after_step facts.newest (ready_moves facts))) n < edges_left facts) (sym next_is) (edges_less facts sound step is some))
