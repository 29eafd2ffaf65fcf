-- Looking through the live elements, and what is then due.
use Rattle.std.proofs.Common.{◌≡◌, ◌≢◌, ℕ, zero, suc, ◌+◌, ◌<◌, ◌≤◌, Bool, true, false, cond, List, [], ◌∷◌, ◌++◌, length, Option, Some, None, ◌⊎◌, inl, inr, refl, sym, ap, subst, ◌∙◌, arith, take, Contains, option_map, nat_lt}
use Rattle.std.proofs.Math.ListN.{get_or}
use Rattle.std.proofs.Math.Seq.{take-suc}
use Rattle.std.proofs.lemmas.Bool.{ltb-true}
use Rattle.std.proofs.lemmas.List.Elements.{Contains-append_cases}
use Rattle.std.specs.Bool.{Decides}
use Rattle.std.specs.Option.{option_and_then}
use Rattle.std.specs.Prelude.{is_some, not}
use Rattle.std.specs.List.{list_any, filter_map, cons_option}
use Rattle.lease.specs.Timeline.{earliest}
use Rattle.schema_version.specs.declared.element.ElementState.{ElementState}
use Rattle.schema_version.specs.declared.element.ElementDef.{ElementDef}
use Rattle.schema_version.specs.declared.element.Work.{Work}
use Rattle.schema_version.specs.declared.step.Move.{Move}
use Rattle.schema_version.specs.declared.step.Move.TheVariants.{Go}
use Rattle.schema_version.specs.Edges.{needed_work, wanted_work}
use Rattle.schema_version.specs.Version.{Version, element_at, live, state_of}
use Rattle.schema_version.specs.Sound.{IsSoundVersion}
use Rattle.schema_version.proofs.Lists.{here_or_later, some_same, any_says, any_from}
use Rattle.schema_version.proofs.Live.{live_has, live_from}
use Rattle.reorganise.specs.declared.work.Progress.{Progress}
use Rattle.replay.specs.Kept.{IsKept}
use Rattle.replay.specs.Replay.{Facts, progress_of, before_of}
use Rattle.world.specs.BeginReorg.{IsSettled}
use Rattle.world.specs.Piece.{standing, standing_at}
use Rattle.rollout.specs.declared.act.Act.{Act}
use Rattle.rollout.specs.declared.act.Act.TheVariants as act
use Rattle.rollout.specs.StatePath.{next_state}
use Rattle.rollout.specs.Due.{IsUnderWay, MayBegin, IsOpen, ended_in, is_ended_at, is_ready_by, move_by, move_of, AreMovesNow, due_rank, DueCondition, IsDue}
use Rattle.rollout.proofs.Onward.{wants_next}

none_some : {A B : Type 0} {x : A} → None ≡ Some x → B
none_some e = absurd cc

-- ---- one element

pub open_decides : (facts : Facts) (n pieces : ℕ) (work : Work) (ended : Bool) (e : ElementDef) → element_at facts.newest n ≡ Some e → Some (work, pieces, ended) ≡ standing_at facts n → Decides (not ended) (IsOpen facts n)
open_decides facts n pieces work ended e there given = (by (progress_of facts.progress n) refl given ended refl, from)
  where
    by : (o : Option Progress) → progress_of facts.progress n ≡ o → Some (work, pieces, ended) ≡ option_map standing o → (b : Bool) → ended ≡ b → not b ≡ true → IsOpen facts n
    by None is given b same h = none_some (sym given)
    by (Some p) is given true same h = absurd cc
    by (Some p) is given false same h = record { element = e; there = there; progress = p; begun = is; unended = sym (ap (λ (x : Work × ℕ × Bool). x.2) (some_same given)) ∙ same }

    from : IsOpen facts n → not ended ≡ true
    from o = ap not (ap (λ (x : Work × ℕ × Bool). x.2) (some_same (given ∙ ap (option_map standing) o.begun)) ∙ o.unended)

-- ---- all elements

abbrev pub NoneIn : (ℕ → Type 0) → List ElementDef → Type 0
NoneIn P es = (e : ElementDef) → Contains es e → ¬ (P e.number)

pub none_yet : (P : ℕ → Type 0) (es : List ElementDef) → NoneIn P (take 0 es)
none_yet P es e (k, below, is) = absurd (omega (arith, below))

last_one : (x e : ElementDef) → Contains (x ∷ []) e → x ≡ e
last_one x e (zero, below, is) = is
last_one x e (suc k, below, is) = absurd (omega (arith, below))

pub one_more : (P : ℕ → Type 0) (es : List ElementDef) (i : ℕ) (x : ElementDef) → i < length es → get_or es i x ≡ x → NoneIn P (take i es) → ¬ (P x.number) → NoneIn P (take (i + 1) es)
one_more P es i x below is before this =
    subst (NoneIn P) (sym (ap (λ (n : ℕ). take n es) (next i) ∙ take-suc es i x below ∙ ap (λ (y : ElementDef). take i es ++ y ∷ []) is)) more
  where
    next : (n : ℕ) → n + 1 ≡ suc n
    next n = omega arith

    more : NoneIn P (take i es ++ x ∷ [])
    more e there = elim (Contains-append_cases (take i es) (x ∷ []) e there) [
      | inl h ↦ before e h
      | inr h ↦ subst (λ (y : ElementDef). ¬ (P y.number)) (last_one x e h) this
    ]

pub none_at_all : (v : Version) (P : ℕ → Type 0) → IsSoundVersion v → ((n : ℕ) → P n → (e : ElementDef) × (element_at v n ≡ Some e)) → NoneIn P (live v) → (n : ℕ) → ¬ (P n)
none_at_all v P sound there none n h =
    let r = there n h in
    none r.0 (live_has v n r.0 r.1) (subst P (sym ((sound.elements n r.0 r.1).own)) h)

pub begin_there : (facts : Facts) (now n : ℕ) → MayBegin facts now n → (e : ElementDef) × (element_at facts.newest n ≡ Some e)
begin_there facts now n may = by (element_at facts.newest n) refl may.wants
  where
    by : (o : Option ElementDef) → element_at facts.newest n ≡ o → option_and_then wanted_work o ≡ Some may.work → (e : ElementDef) × (element_at facts.newest n ≡ Some e)
    by None is e = none_some e
    by (Some e) is _ = (e, is)

pub open_there : (facts : Facts) (n : ℕ) → IsOpen facts n → (e : ElementDef) × (element_at facts.newest n ≡ Some e)
open_there facts n o = (o.element, o.there)

abbrev pub is_moving : ElementDef → Bool
is_moving e = is_some (next_state e)

is_there : {A : Type 0} (o : Option A) → is_some o ≡ true → (x : A) × (o ≡ Some x)
is_there None e = absurd cc
is_there (Some x) e = (x, refl)

pub under_way_decides : (facts : Facts) → IsSoundVersion facts.newest → Decides (list_any is_moving (live facts.newest)) ((n : ℕ) × IsUnderWay facts n)
under_way_decides facts sound = (
  λ any.
      let r = any_says is_moving (live facts.newest) any in
      let s = live_from facts.newest r.0 r.1 in
      let t = is_there (next_state r.0) r.2 in
      (s.0, record { element = r.0; there = s.1; to = t.0; next = t.1 }),
  λ h. any_from is_moving (live facts.newest) h.1.element (live_has facts.newest h.0 h.1.element h.1.there) (ap is_some h.1.next),
)

-- ---- what is due

pub no_moves : (moves : List Move) → length moves ≤ 0 → moves ≡ []
no_moves [] le = refl
no_moves (m ∷ ms) le = absurd (omega (arith, le))

pub some_moves : (moves : List Move) → 0 < length moves → moves ≢ []
some_moves [] lt = absurd (omega (arith, lt))
some_moves (m ∷ ms) lt = λ e. absurd cc

none_moves : (f : ElementDef → Option Move) (es : List ElementDef) (e : ElementDef) → [] ≡ filter_map f es → Contains es e → f e ≡ None
none_moves f [] e is (k, below, at) = absurd (omega (arith, below))
none_moves f (x ∷ xs) e is there = by (none_moves f xs e) (f x) refl is (here_or_later x e xs there)
  where
    by : ([] ≡ filter_map f xs → Contains xs e → f e ≡ None) → (o : Option Move) → f x ≡ o → [] ≡ cons_option o (filter_map f xs) → (x ≡ e) ⊎ Contains xs e → f e ≡ None
    by rest None g is (inl same) = ap f (sym same) ∙ g
    by rest None g is (inr more) = rest is more
    by rest (Some z) g is where_it = absurd cc

pub begin_due : (facts : Facts) (now n : ℕ) → MayBegin facts now n → IsDue facts now (act.Begin n)
begin_due facts now n may = (may, first)
  where
    first : (other : Act) → due_rank other < 1 → ¬ (DueCondition facts now other)
    first (act.Begin m) lt = absurd (omega (arith, lt))
    first (act.Publish step) lt = absurd (omega (arith, lt))
    first (act.Work m) lt = absurd (omega (arith, lt))
    first (act.Wait until) lt = absurd (omega (arith, lt))
    first act.Nothing lt = absurd (omega (arith, lt))

module _ (facts : Facts) (now : ℕ) (none : (n : ℕ) → ¬ (MayBegin facts now n)) where
  pub publish_due : (moves : List Move) → AreMovesNow facts now moves → moves ≢ [] → IsDue facts now (act.Publish moves)
  publish_due moves are some = (by are, first)
    where
      by : AreMovesNow facts now moves → DueCondition facts now (act.Publish moves)
      by (inl h) = (h.0, h.1, some)
      by (inr h) = absurd (some h.1)

      first : (other : Act) → due_rank other < 2 → ¬ (DueCondition facts now other)
      first (act.Begin m) lt = none m
      first (act.Publish step) lt = absurd (omega (arith, lt))
      first (act.Work m) lt = absurd (omega (arith, lt))
      first (act.Wait until) lt = absurd (omega (arith, lt))
      first act.Nothing lt = absurd (omega (arith, lt))

  unpublished : (step : List Move) → AreMovesNow facts now [] → ¬ (DueCondition facts now (act.Publish step))
  unpublished step (inl h) p = p.2 (p.1 ∙ sym h.1)
  unpublished step (inr h) p = let le = p.0 in let lt = h.0 in absurd (omega (arith, le, lt))

  pub work_due : (n : ℕ) → AreMovesNow facts now [] → IsOpen facts n → IsDue facts now (act.Work n)
  work_due n are h = (h, first)
    where
      first : (other : Act) → due_rank other < 3 → ¬ (DueCondition facts now other)
      first (act.Begin m) lt = none m
      first (act.Publish step) lt = unpublished step are
      first (act.Work m) lt = absurd (omega (arith, lt))
      first (act.Wait until) lt = absurd (omega (arith, lt))
      first act.Nothing lt = absurd (omega (arith, lt))

  module _ (are : AreMovesNow facts now []) (no_open : (n : ℕ) → ¬ (IsOpen facts n)) where
    last : (other : Act) → due_rank other < 4 → ¬ (DueCondition facts now other)
    last (act.Begin m) lt = none m
    last (act.Publish step) lt = unpublished step are
    last (act.Work m) lt = no_open m
    last (act.Wait until) lt = absurd (omega (arith, lt))
    last act.Nothing lt = absurd (omega (arith, lt))

    pub nothing_due : ((n : ℕ) → ¬ (IsUnderWay facts n)) → IsDue facts now act.Nothing
    nothing_due h = (h, last)

    -- what is under way, cannot begin, is not open and does not move, waits for the moment of the next publication
    module _ (kept : IsKept facts) where
      settled : earliest facts.line ≤ now → (n : ℕ) → IsSettled facts now n
      settled le n = by (nat_lt now (earliest facts.line)) refl
        where
          by : (b : Bool) → nat_lt now (earliest facts.line) ≡ b → state_of (cond b (before_of facts) facts.newest) n ≡ state_of facts.newest n
          by true e = (let lt = ltb-true now (earliest facts.line) e in absurd (omega (arith, le, lt)))
          by false e = refl

      stuck : earliest facts.line ≤ now → (n : ℕ) (e : ElementDef) (to : ElementState) (work : Work) → element_at facts.newest n ≡ Some e → next_state e ≡ Some to → needed_work e.kind to ≡ Some work → is_ended_at facts n ≡ false → ⊥
      stuck le n e to work there next needs unended = by (progress_of facts.progress n) refl unended
        where
          by : (o : Option Progress) → progress_of facts.progress n ≡ o → ended_in (option_map standing o) ≡ false → ⊥
          by None is u = none n (record { work = work; wants = ap (option_and_then wanted_work) there ∙ wants_next e to next ∙ needs; settled = settled le n; new = is })
          by (Some p) is u = no_open n (record { element = e; there = there; progress = p; begun = is; unended = u })

      not_ready : (n : ℕ) (e : ElementDef) (to : ElementState) (o : Option Work) → element_at facts.newest n ≡ Some e → next_state e ≡ Some to → needed_work e.kind to ≡ o → is_ready_by o (is_ended_at facts n) ≡ false → earliest facts.line ≤ now → ⊥
      not_ready n e to None there next needs unready le = absurd cc
      not_ready n e to (Some work) there next needs unready le = stuck le n e to work there next needs unready

      waits : (n : ℕ) → IsUnderWay facts n → AreMovesNow facts now [] → now < earliest facts.line
      waits n u (inr h) = h.0
      waits n u (inl h) = absurd (by (is_ready_by (needed_work u.element.kind u.to) (is_ended_at facts u.element.number)) refl)
        where
          own : u.element.number ≡ n
          own = (kept.sound.elements n u.element u.there).own

          still : move_of facts u.element ≡ None
          still = none_moves (move_of facts) (live facts.newest) u.element h.1 (live_has facts.newest n u.element u.there)

          by : (b : Bool) → is_ready_by (needed_work u.element.kind u.to) (is_ended_at facts u.element.number) ≡ b → ⊥
          by true e = none_some (sym still ∙ ap (move_by facts u.element) u.next ∙ ap (λ (b : Bool). let o : Option Move = cond b (Some (Go u.element.number u.to)) None in o) e)
          by false e = not_ready n u.element u.to (needed_work u.element.kind u.to) u.there u.next refl (subst (λ (m : ℕ). is_ready_by (needed_work u.element.kind u.to) (is_ended_at facts m) ≡ false) own e) h.0

      pub wait_due : (until : ℕ) → until ≡ earliest facts.line → (n : ℕ) × IsUnderWay facts n → IsDue facts now (act.Wait until)
      wait_due until is u = ((is, subst (λ (t : ℕ). now < t) (sym is) (waits u.0 u.1 are), u), last)
