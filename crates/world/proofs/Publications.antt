-- A publication over the fields of a World: the relation that it meets, and what is true of the fields afterwards.
use Rattle.std.proofs.Common.{◌≡◌, ℕ, ◌+◌, ◌<◌, ◌≤◌, List, [], ◌∷◌, length, Option, Some, None, Ok, Err, refl, sym, ap, subst, ◌∙◌, inl, inr, Vec, Global, arith, filter}
use Rattle.std.specs.List.{AllZip}
use Rattle.collections.specs.Refusal.{IsClear, IsRefusal}
use Rattle.schema_version.specs.contracts.step.MoveClone.TheImpl as MoveClone
use Rattle.lease.specs.Timeline.{Timeline, earliest, max_moment, newest as newest_number, after_publication}
use Rattle.schema_version.specs.declared.element.ElementState.{ElementState}
use Rattle.schema_version.specs.declared.element.ElementDef.{ElementDef}
use Rattle.schema_version.specs.declared.step.Move.{Move}
use Rattle.schema_version.specs.declared.step.Move.TheVariants.{Enter, Go, Turn}
use Rattle.schema_version.specs.declared.step.StepFault.TheVariants.{Memory as StepMemory}
use Rattle.schema_version.specs.declared.step.StepFault.{StepFault}
use Rattle.schema_version.specs.Moves.{IsAllowed, IsRefused, MoveFault, GoFaultAt, TurnFaultAt, after_step}
use Rattle.schema_version.specs.Version.{Version, element_at}
use Rattle.reorganise.specs.declared.work.Progress.{Progress}
use Rattle.replay.specs.declared.entry.Entry.{Entry}
use Rattle.replay.specs.declared.entry.What.TheVariants.{Publish}
use Rattle.replay.specs.Replay.{stays}
use Rattle.replay.specs.Laws.{AreFinished, PublicationsKeep}
use Rattle.world.specs.declared.publish.PublishFault.{PublishFault}
use Rattle.world.specs.declared.publish.PublishFault.TheVariants as publish_fault
use Rattle.world.specs.declared.entry.Receipt.{Receipt}
use Rattle.world.specs.declared.log.Log.{Log}
use Rattle.world.specs.declared.world.World.TheInside.{Inside}
use Rattle.world.specs.Calls.{Appends}
use Rattle.world.specs.Inside.{state_of, state_with, Follow, IsHeld}
use Rattle.world.specs.Publish.{max_versions, publish_rank, PublishCondition, PublishAt, MayPublish, IsUnready}
use Rattle.world.specs.Whole.{whole}
use Rattle.world.specs.State.{State, facts_of, effect}
use Rattle.world.proofs.Awaited.{not_unfinished}
use Rattle.world.proofs.Invariant.{IsLogged, state_logged, appended, held_after, held_same, follow_of}

-- ---- the refusals

-- an allowed step has no fault
no_fault : (version : Version) (step : List Move) (fault : StepFault) → IsAllowed version step → ¬ (IsRefused version step fault)
no_fault version step fault allowed r = allowed r.earlier r.later r.move fault r.split r.lowest.0

-- out of memory is no fault of a step
pub memory_is_none : (version : Version) (step : List Move) → ¬ (IsRefused version step StepMemory)
memory_is_none version step r = by r.move r.lowest.0
  where
    none_at : (earlier : List Move) (number : ℕ) (o : Option ElementDef) (to : ElementState) → ¬ (GoFaultAt version step earlier number o to StepMemory)
    none_at earlier number None to = λ e. absurd cc
    none_at earlier number (Some element) to = λ e. e

    none_back : (earlier : List Move) (number : ℕ) (o : Option ElementDef) → ¬ (TurnFaultAt earlier number o StepMemory)
    none_back earlier number None = λ e. absurd cc
    none_back earlier number (Some element) = λ e. e

    by : (move : Move) → MoveFault version step r.earlier move StepMemory → ⊥
    by (Enter fresh to) fault = fault
    by (Go number to) fault = none_at r.earlier number (element_at version number) to fault
    by (Turn number) fault = none_back r.earlier number (element_at version number) fault

pub may_clear : (s : State) (now : ℕ) (step : List Move) → MayPublish (facts_of s) now step → IsClear (PublishCondition s now step)
may_clear s now step may publish_fault.MomentTooLarge = λ c. absurd (omega (arith, may.moment, c))
may_clear s now step may (publish_fault.TooEarly first) = λ c. absurd (omega (arith, may.in_turn, c.1))
may_clear s now step may (publish_fault.Step fault) = no_fault (facts_of s).newest step fault may.allowed
may_clear s now step may (publish_fault.Unfinished element) = not_unfinished (facts_of s) step element may.finished
may_clear s now step may publish_fault.VersionsSpent = λ c. absurd (omega (arith, may.room, c))
may_clear s now step may publish_fault.Memory = λ c. c

pub too_large : (s : State) (now : ℕ) (step : List Move) → max_moment < now → IsRefusal publish_rank (PublishCondition s now step) publish_fault.Memory publish_fault.MomentTooLarge
too_large s now step above = (inr above, lower)
  where
    lower : (other : PublishFault) → publish_rank other < 1 → ¬ (PublishCondition s now step other)
    lower publish_fault.MomentTooLarge lt = absurd (omega (arith, lt))
    lower (publish_fault.TooEarly first) lt = absurd (omega (arith, lt))
    lower (publish_fault.Step fault) lt = absurd (omega (arith, lt))
    lower (publish_fault.Unfinished element) lt = absurd (omega (arith, lt))
    lower publish_fault.VersionsSpent lt = absurd (omega (arith, lt))
    lower publish_fault.Memory lt = absurd (omega (arith, lt))

pub too_early : (s : State) (now first : ℕ) (step : List Move) → now ≤ max_moment → first ≡ earliest (facts_of s).line → now < earliest (facts_of s).line → IsRefusal publish_rank (PublishCondition s now step) publish_fault.Memory (publish_fault.TooEarly first)
too_early s now first step within is below = (inr (is, below), lower)
  where
    lower : (other : PublishFault) → publish_rank other < 2 → ¬ (PublishCondition s now step other)
    lower publish_fault.MomentTooLarge lt = λ c. absurd (omega (arith, within, c))
    lower (publish_fault.TooEarly other) lt = absurd (omega (arith, lt))
    lower (publish_fault.Step fault) lt = absurd (omega (arith, lt))
    lower (publish_fault.Unfinished element) lt = absurd (omega (arith, lt))
    lower publish_fault.VersionsSpent lt = absurd (omega (arith, lt))
    lower publish_fault.Memory lt = absurd (omega (arith, lt))

-- the moment is one at which a version may be published
timely : (s : State) (now : ℕ) (step : List Move) → now ≤ max_moment → earliest (facts_of s).line ≤ now → (other : PublishFault) → publish_rank other < 3 → ¬ (PublishCondition s now step other)
timely s now step within turn publish_fault.MomentTooLarge lt = λ c. absurd (omega (arith, within, c))
timely s now step within turn (publish_fault.TooEarly first) lt = λ c. absurd (omega (arith, turn, c.1))
timely s now step within turn (publish_fault.Step fault) lt = absurd (omega (arith, lt))
timely s now step within turn (publish_fault.Unfinished element) lt = absurd (omega (arith, lt))
timely s now step within turn publish_fault.VersionsSpent lt = absurd (omega (arith, lt))
timely s now step within turn publish_fault.Memory lt = λ c. c

pub not_allowed : (s : State) (now : ℕ) (step : List Move) (fault : StepFault) → now ≤ max_moment → earliest (facts_of s).line ≤ now → IsRefused (facts_of s).newest step fault → IsRefusal publish_rank (PublishCondition s now step) publish_fault.Memory (publish_fault.Step fault)
not_allowed s now step fault within turn refused = (inr refused, timely s now step within turn)

pub not_ready : (s : State) (now : ℕ) (step : List Move) (fault : PublishFault) → now ≤ max_moment → earliest (facts_of s).line ≤ now → IsAllowed (facts_of s).newest step → IsUnready (facts_of s) step fault → IsRefusal publish_rank (PublishCondition s now step) publish_fault.Memory fault
not_ready s now step (publish_fault.Unfinished element) within turn allowed why = (inr why, lower)
  where
    lower : (other : PublishFault) → publish_rank other < 4 → ¬ (PublishCondition s now step other)
    lower publish_fault.MomentTooLarge lt = timely s now step within turn publish_fault.MomentTooLarge (omega arith)
    lower (publish_fault.TooEarly first) lt = timely s now step within turn (publish_fault.TooEarly first) (omega arith)
    lower (publish_fault.Step fault) lt = no_fault (facts_of s).newest step fault allowed
    lower (publish_fault.Unfinished other) lt = absurd (omega (arith, lt))
    lower publish_fault.VersionsSpent lt = absurd (omega (arith, lt))
    lower publish_fault.Memory lt = λ c. c
not_ready s now step publish_fault.VersionsSpent within turn allowed why = (inr why.1, lower)
  where
    lower : (other : PublishFault) → publish_rank other < 5 → ¬ (PublishCondition s now step other)
    lower publish_fault.MomentTooLarge lt = timely s now step within turn publish_fault.MomentTooLarge (omega arith)
    lower (publish_fault.TooEarly first) lt = timely s now step within turn (publish_fault.TooEarly first) (omega arith)
    lower (publish_fault.Step fault) lt = no_fault (facts_of s).newest step fault allowed
    lower (publish_fault.Unfinished other) lt = not_unfinished (facts_of s) step other why.0
    lower publish_fault.VersionsSpent lt = absurd (omega (arith, lt))
    lower publish_fault.Memory lt = λ c. c
not_ready s now step publish_fault.MomentTooLarge within turn allowed why = absurd why
not_ready s now step (publish_fault.TooEarly first) within turn allowed why = absurd why
not_ready s now step (publish_fault.Step fault) within turn allowed why = absurd why
not_ready s now step publish_fault.Memory within turn allowed why = absurd why

-- in the words of the call
pub reported_unready : (f : Inside) (s : State) (now : ℕ) (version : Version) (step moves : List Move) (fault reported : PublishFault) → Follow f (facts_of s) → now ≤ max_moment → earliest f.line ≤ now → version ≡ f.newest → IsAllowed version step → moves ≡ step
    → IsUnready (facts_of s) moves fault → reported ≡ fault → IsRefusal publish_rank (PublishCondition s now step) publish_fault.Memory reported
reported_unready f s now version step moves fault reported w within turn is allowed same why reported_so =
    subst (IsRefusal publish_rank (PublishCondition s now step) publish_fault.Memory) (sym reported_so)
    (not_ready s now step fault within (subst (λ (l : Timeline). earliest l ≤ now) w.line turn) (subst (λ (v : Version). IsAllowed v step) (is ∙ w.newest) allowed) (subst (λ (ms : List Move). IsUnready (facts_of s) ms fault) same why))

pub may_be : (f : Inside) (s : State) (now : ℕ) (version : Version) (step moves : List Move) → Follow f (facts_of s) → now ≤ max_moment → earliest f.line ≤ now → version ≡ f.newest → IsAllowed version step → moves ≡ step → AreFinished (facts_of s) moves → newest_number (facts_of s).line < max_versions
    → MayPublish (facts_of s) now step
may_be f s now version step moves w within turn is allowed same finished room = record {
  moment = within;
  in_turn = subst (λ (l : Timeline). earliest l ≤ now) w.line turn;
  allowed = subst (λ (v : Version). IsAllowed v step) (is ∙ w.newest) allowed;
  finished = subst (AreFinished (facts_of s)) same finished;
  room = room;
}

-- out of memory, where nothing else stands against it
pub short : (s : State) (now : ℕ) (step : List Move) → MayPublish (facts_of s) now step → IsRefusal publish_rank (PublishCondition s now step) publish_fault.Memory publish_fault.Memory
short s now step may = (inl refl, λ other lt. may_clear s now step may other)

pub short_step : (s g : State) (now : ℕ) (step : List Move) (reported : PublishFault) → MayPublish (facts_of s) now step → g ≡ s → reported ≡ publish_fault.Memory → PublishAt s now step (Err reported) g
short_step s g now step reported may same is = (subst (IsRefusal publish_rank (PublishCondition s now step) publish_fault.Memory) (sym is) (short s now step may), same)

-- ---- a copy of a step

same_list : {A : Type 0} (xs ys : List A) → AllZip (λ x y. y ≡ x) xs ys → ys ≡ xs
same_list [] [] h = refl
same_list [] (y ∷ ys) h = absurd h
same_list (x ∷ xs) [] h = absurd h
same_list (x ∷ xs) (y ∷ ys) h = λ i. h.0 i ∷ same_list xs ys h.1 i

same_move : (move copy : Move) → MoveClone.by_variants move copy → copy ≡ move
same_move (Enter fresh to) (Enter other state) h = λ i. Enter (record { table = h.0.0 i; name = h.0.1.0 i; kind = h.0.1.1 i }) (h.1 i)
same_move (Enter fresh to) (Go other state) h = absurd h
same_move (Enter fresh to) (Turn other) h = absurd h
same_move (Go number to) (Enter other state) h = absurd h
same_move (Go number to) (Go other state) h = λ i. Go (h.0 i) (h.1 i)
same_move (Go number to) (Turn other) h = absurd h
same_move (Turn number) (Enter other state) h = absurd h
same_move (Turn number) (Go other state) h = absurd h
same_move (Turn number) (Turn other) h = ap Turn h

pub same_moves : (moves copies : List Move) → AllZip MoveClone.by_variants moves copies → copies ≡ moves
same_moves [] [] h = refl
same_moves [] (c ∷ cs) h = absurd h
same_moves (m ∷ ms) [] h = absurd h
same_moves (m ∷ ms) (c ∷ cs) h = λ i. same_move m c h.0 i ∷ same_moves ms cs h.1 i

-- ---- the new version

abbrev pub publish_entry : ℕ → List Move → Entry
publish_entry now step = record { moment = now; what = Publish step }

-- the fields after a publication
abbrev pub after_publish : Inside → Option Version → Version → Timeline → Vec Progress Global → Log → Inside
after_publish f before newest line begun log = record f { before = before; newest = newest; line = line; begun = begun; log = log }

-- what the parts of the change are
pub record IsEntered (f : Inside) (now : ℕ) (step : List Move) (before : Option Version) (newest : Version) (line : Timeline) (begun : Vec Progress Global) (log : Log) (receipt : Receipt) : Type 0 where
  pub before_is : before ≡ Some f.newest
  pub newest_is : newest ≡ after_step f.newest step
  pub line_is : line ≡ after_publication f.line now
  pub begun_is : begun.items ≡ filter (stays step) f.begun.items
  pub log_is : IsLogged f.log (publish_entry now step) receipt log

-- the state that they stand for
entered_state : (f : Inside) (now : ℕ) (step : List Move) (before : Option Version) (newest : Version) (line : Timeline) (begun : Vec Progress Global) (log : Log) (receipt : Receipt) → IsEntered f now step before newest line begun log receipt
    → state_of (after_publish f before newest line begun log) ≡ effect (state_of f) (publish_entry now step)
entered_state f now step before newest line begun log receipt is = state_logged f (after_publish f before newest line begun log) (publish_entry now step) receipt is.log_is refl

pub entered_held : (f : Inside) (s : State) (now : ℕ) (step : List Move) (before : Option Version) (newest : Version) (line : Timeline) (begun : Vec Progress Global) (log : Log) (receipt : Receipt) → PublicationsKeep → IsHeld f → state_of f ≡ s → (facts_of s).moment ≤ now
    → MayPublish (facts_of s) now step → IsEntered f now step before newest line begun log receipt → IsHeld (after_publish f before newest line begun log)
entered_held f s now step before newest line begun log receipt law h view later may_s is =
    let w = h.follow in
    let may : MayPublish (facts_of (state_of f)) now step = subst (λ (x : State). MayPublish (facts_of x) now step) (sym view) may_s in
    held_after f (after_publish f before newest line begun log) (publish_entry now step) (entered_state f now step before newest line begun log receipt is)
    (record {
      moment = is.log_is.moment;
      line = is.line_is ∙ ap (λ (l : Timeline). after_publication l now) w.line;
      newest = is.newest_is ∙ ap (λ (v : Version). after_step v step) w.newest;
      before = is.before_is ∙ ap Some w.newest;
      begun = is.begun_is ∙ ap (filter (stays step)) w.begun;
      pairs = w.pairs;
    })
    (law (facts_of (state_of f)) now step (subst (λ (x : State). (facts_of x).moment ≤ now) (sym view) later) may.moment may.in_turn may.allowed may.finished h.kept)

pub entered_step : (f : Inside) (s : State) (now version : ℕ) (step : List Move) (before : Option Version) (newest : Version) (line : Timeline) (begun : Vec Progress Global) (log : Log) (receipt : Receipt) → IsHeld f → state_of f ≡ s → (facts_of s).moment ≤ now
    → MayPublish (facts_of s) now step → IsEntered f now step before newest line begun log receipt → version ≡ newest_number line → PublishAt s now step (Ok (version, receipt)) (state_of (after_publish f before newest line begun log))
entered_step f s now version step before newest line begun log receipt h view later may is number =
    let next : newest_number line ≡ newest_number (facts_of s).line + 1 = ap newest_number is.line_is ∙ one_up f.line.published now ∙ ap (λ (l : Timeline). newest_number l + 1) (follow_of f s h view).line in
    let added = appended f (after_publish f before newest line begun log) now (Publish step) receipt is.log_is (entered_state f now step before newest line begun log receipt is)
    (subst (λ (x : State). (facts_of x).moment ≤ now) (sym view) later) (let m : MayPublish (facts_of (state_of f)) now step = subst (λ (x : State). MayPublish (facts_of x) now step) (sym view) may in (m.moment, m.in_turn, m.allowed, m.finished)) in
    (may_clear s now step may, number ∙ next, subst (λ (x : State). Appends x now (Publish step) receipt (state_of (after_publish f before newest line begun log))) view added)
  where
    one_up : (published : List ℕ) (moment : ℕ) → length (moment ∷ published) ≡ length published + 1
    one_up published moment = omega arith

-- the fields where the log alone had room made, and memory ran out then
pub same_room : (f : Inside) (log : Log) (line : Timeline) → whole log ≡ whole f.log → line ≡ f.line → state_of (record f { log = log; line = line }) ≡ state_of f
same_room f log line items same = λ i. state_with (items i) f.store

pub room_held : (f : Inside) (log : Log) (line : Timeline) → IsHeld f → whole log ≡ whole f.log → log.moment ≡ f.log.moment → line ≡ f.line → IsHeld (record f { log = log; line = line })
room_held f log line h items moment same =
    let w = h.follow in
    held_same f (record f { log = log; line = line }) h (same_room f log line items same) (record { moment = moment ∙ w.moment; line = same ∙ w.line; newest = w.newest; before = w.before; begun = w.begun; pairs = w.pairs })
