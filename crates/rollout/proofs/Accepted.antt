-- Why the world refuses no act that is due.
use Rattle.std.proofs.Common.{◌≡◌, ℕ, ◌<◌, ◌≤◌, List, Option, Some, None, ◌⊎◌, inl, inr, refl, sym, ap, subst, ◌∙◌, arith, Bool, cond, option_map, true≢false}
use Rattle.std.specs.Prelude.{slice_get}
use Rattle.std.proofs.lemmas.Option.{slice_get_within}
use Rattle.std.specs.FinMap as map
use Rattle.keycode.specs.Order.{bytes_cmp}
use Rattle.lease.specs.Timeline.{earliest, max_moment}
use Rattle.row_map.specs.Rows.{Bytes, Pairs}
use Rattle.row_map.specs.Expect.{Misses, Holds}
use Rattle.schema_version.specs.declared.step.Move.{Move}
use Rattle.schema_version.specs.declared.step.StepFault.{StepFault}
use Rattle.schema_version.specs.Moves.{IsRefused}
use Rattle.schema_version.specs.Version.{Version}
use Rattle.schema_version.specs.Moves.{IsAllowed}
use Rattle.schema_version.proofs.Lists.{some_same}
use Rattle.schema_version.specs.declared.element.Work.{Work}
use Rattle.reorganise.specs.declared.work.Span.{Span}
use Rattle.reorganise.specs.declared.work.Progress.{Progress}
use Rattle.reorganise.specs.declared.read.Reading.{Reading}
use Rattle.reorganise.specs.declared.fault.ViewFault.{ViewFault}
use Rattle.reorganise.specs.declared.fault.ViewFault.TheVariants as view
use Rattle.reorganise.specs.Batches.{expect_of}
use Rattle.reorganise.specs.Pieces.{view_at}
use Rattle.reorganise.specs.Refusals.{Condition as ViewCondition}
use Rattle.reorganise.proofs.Order.{get-part}
use Rattle.replay.specs.Kept.{IsKept, IsBegun}
use Rattle.replay.specs.Laws.{IsPieceCount}
use Rattle.replay.specs.Replay.{progress_of}
use Rattle.replay.proofs.Begun.{found}
use Rattle.world.specs.declared.begin_reorg.BeginFault.{BeginFault}
use Rattle.world.specs.declared.begin_reorg.BeginFault.TheVariants as begin_fault
use Rattle.world.specs.declared.publish.PublishFault.{PublishFault}
use Rattle.world.specs.declared.publish.PublishFault.TheVariants as publish_fault
use Rattle.world.specs.declared.piece.PieceFault.{PieceFault}
use Rattle.world.specs.declared.piece.PieceFault.TheVariants as piece_fault
use Rattle.world.specs.declared.piece.ReadFault.TheVariants.{NotWanted, View}
use Rattle.world.specs.BeginReorg.{BeginCondition}
use Rattle.world.specs.Piece.{standing, PieceCondition, IsPieceOf}
use Rattle.world.specs.Publish.{PublishCondition}
use Rattle.world.specs.State.{State, facts_of}
use Rattle.world.proofs.Awaited.{not_unfinished}
use Rattle.piece_work.specs.WorkOff.{IsNext, HasEnded}
use Rattle.rollout.specs.Due.{MayBegin, IsOpen, ready_moves}
use Rattle.rollout.specs.Advance.{BeginsAreAccepted, StepsAreAccepted, ReadsAreAccepted, PiecesAreAccepted, AreAccepted, IsMemoryOrVersion, IsLimit}
use Rattle.rollout.proofs.Ready.{step_allowed, step_finished}

none_some : {A B : Type 0} {x : A} → None ≡ Some x → B
none_some e = absurd cc

-- ---- a begin

begin_by : (s : State) (now number pieces : ℕ) (fault : BeginFault) → now ≤ max_moment → IsPieceCount pieces → MayBegin (facts_of s) now number → (fault ≡ begin_fault.Memory) ⊎ BeginCondition s now number pieces fault → fault ≡ begin_fault.Memory
begin_by s now number pieces fault late count may (inl is) = is
begin_by s now number pieces begin_fault.MomentTooLarge late count may (inr h) = absurd (omega (arith, late, h))
begin_by s now number pieces begin_fault.NotWanted late count may (inr h) = none_some (sym h ∙ may.wants)
begin_by s now number pieces (begin_fault.StillUsed until) late count may (inr h) = absurd (h.1 may.settled)
begin_by s now number pieces begin_fault.Begun late count may (inr h) = absurd (h may.new)
begin_by s now number pieces begin_fault.BadCount late count may (inr h) = absurd (h count)
begin_by s now number pieces begin_fault.Memory late count may (inr h) = refl

pub begins_are_accepted : BeginsAreAccepted
begins_are_accepted old new now number pieces fault late count due at = begin_by old now number pieces fault late count due.0 at.0.0

-- ---- a step

-- an allowed step is not refused as a step
not_refused : (version : Version) (step : List Move) (fault : StepFault) → IsAllowed version step → IsRefused version step fault → ⊥
not_refused version step fault allowed r = allowed r.earlier r.later r.move fault r.split r.lowest.0

step_by : (s : State) (now : ℕ) (step : List Move) (fault : PublishFault) → IsKept (facts_of s) → now ≤ max_moment → earliest (facts_of s).line ≤ now → step ≡ ready_moves (facts_of s) → (fault ≡ publish_fault.Memory) ⊎ PublishCondition s now step fault → IsMemoryOrVersion s fault
step_by s now step fault kept late le is (inl memory) = inl memory
step_by s now step publish_fault.MomentTooLarge kept late le is (inr h) = absurd (omega (arith, late, h))
step_by s now step (publish_fault.TooEarly first) kept late le is (inr h) = let early = h.1 in absurd (omega (arith, early, le))
step_by s now step (publish_fault.Step fault) kept late le is (inr h) = absurd (not_refused (facts_of s).newest step fault (subst (IsAllowed (facts_of s).newest) (sym is) (step_allowed (facts_of s) kept.sound)) h)
step_by s now step (publish_fault.Unfinished element) kept late le is (inr h) =
    absurd (not_unfinished (facts_of s) (ready_moves (facts_of s)) element (step_finished (facts_of s) kept) (subst (λ (ms : List Move). PublishCondition s now ms (publish_fault.Unfinished element)) is h))
step_by s now step publish_fault.VersionsSpent kept late le is (inr h) = inr (refl, h)
step_by s now step publish_fault.Memory kept late le is (inr h) = inl refl

pub steps_are_accepted : StepsAreAccepted
steps_are_accepted old new now step fault kept late due at = step_by old now step fault kept late due.0.0 due.0.1 at.0.0

-- ---- a read

view_by : (s : State) (number piece limit : ℕ) (fault : ViewFault) (next : IsNext s number piece) → IsLimit limit → (fault ≡ view.Memory) ⊎ ViewCondition next.progress piece limit fault → fault ≡ view.Memory
view_by s number piece limit fault next bound (inl is) = is
view_by s number piece limit view.BadPiece next bound (inr h) = absurd (let lt = slice_get_within next.progress.pieces piece next.first.span next.first.here in omega (arith, lt, h))
view_by s number piece limit view.Spent next bound (inr h) = absurd (h.past (ap (λ (s : Span). bytes_cmp s.cursor s.high) (some_same (sym h.here ∙ next.first.here)) ∙ next.first.unended))
view_by s number piece limit view.BadLimit next bound (inr h) = absurd (outside h)
  where
    outside : (limit < 1) ⊎ (1000 < limit) → ⊥
    outside (inl lt) = let low = bound.0 in omega (arith, lt, low)
    outside (inr lt) = let high = bound.1 in omega (arith, lt, high)
view_by s number piece limit view.Memory next bound (inr h) = refl

pub reads_are_accepted : ReadsAreAccepted
reads_are_accepted old number piece limit NotWanted bound next read = none_some (sym read ∙ next.begun)
reads_are_accepted old number piece limit (View fault) bound next read =
    let same : read.0 ≡ next.progress = some_same (sym read.1 ∙ next.begun) in
    ap View (view_by old number piece limit fault next bound (subst (λ (p : Progress). (fault ≡ view.Memory) ⊎ ViewCondition p piece limit fault) same read.2.0))

-- ---- a piece

nothing_there : (key : Bytes) (w : Option Bytes) → map.get (map.empty {R = bytes_cmp}) key ≡ Some w → ⊥
nothing_there key w e = none_some (sym (map.get-empty bytes_cmp key) ∙ e)

-- what was just read is still there
just_read : (p : Progress) (pairs : Pairs) (piece limit : ℕ) (span : Span) → Holds (expect_of (view_at p pairs piece limit span).key_range) pairs
just_read p pairs piece limit span key = by
  where
    by : Misses (expect_of (view_at p pairs piece limit span).key_range) pairs key → ⊥
    by (inl h) = absurd (nothing_there key h.0 h.1)
    by (inr h) = h.1 (sym (get-part pairs (view_at p pairs piece limit span).key_range.low (view_at p pairs piece limit span).key_range.high key ∙ ap (λ b. cond b (map.get pairs key) None) h.0))

-- a piece that was just read, of the reorganisation as it is then
module _ (s : State) (now number piece limit : ℕ) (p : Progress) (span : Span) (kept : IsKept (facts_of s)) (late : now ≤ max_moment) (begun : progress_of (facts_of s).progress number ≡ Some p) (here : slice_get p.pieces piece ≡ Some span) where
  under_number : progress_of (facts_of s).progress p.element.number ≡ Some p
  under_number = ap (progress_of (facts_of s).progress) ((found (IsBegun (facts_of s).newest) (facts_of s).progress number p kept.begun begun).1) ∙ begun

  own : IsPieceOf (facts_of s) (view_at p s.pairs piece limit span) span
  own = record { progress = p; here = under_number; own = record { element = refl; work = refl; piece = here; low = refl; high = refl } }

  piece_by : (fault : PieceFault) → (fault ≡ piece_fault.Memory) ⊎ PieceCondition s now (view_at p s.pairs piece limit span) fault → fault ≡ piece_fault.Memory
  piece_by fault (inl is) = is
  piece_by piece_fault.MomentTooLarge (inr h) = absurd (omega (arith, late, h))
  piece_by piece_fault.NotWanted (inr h) = none_some (sym h ∙ under_number)
  piece_by piece_fault.WrongElement (inr h) = absurd (h span own)
  piece_by (piece_fault.Moved cursor) (inr h) =
      let same : h.1.progress ≡ p = some_same (sym h.1.here ∙ under_number) in
      let one : h.0 ≡ span = some_same (sym h.1.own.piece ∙ ap (λ (q : Progress). slice_get q.pieces piece) same ∙ here) in
      absurd (h.3 (ap (λ (x : Span). x.cursor) one))
  piece_by (piece_fault.Conflict key) (inr h) = absurd (just_read p s.pairs piece limit span key h.0)
  piece_by piece_fault.Memory (inr h) = refl

pub pieces_are_accepted : PiecesAreAccepted
pieces_are_accepted old new now number piece limit read fault kept late next step at =
    piece_by old now number piece limit step.0 step.3.span kept late step.1 step.3.here fault
    (subst (λ (r : Reading). (fault ≡ piece_fault.Memory) ⊎ PieceCondition old now r fault) step.3.read_is at.0.0)

pub are_accepted : AreAccepted
are_accepted = record { begins = begins_are_accepted; steps = steps_are_accepted; reads = reads_are_accepted; pieces = pieces_are_accepted }

-- ---- there is a next piece

pub not_ended : (s : State) (number : ℕ) → IsOpen (facts_of s) number → HasEnded s number → ⊥
not_ended s number o ended =
    true≢false (sym (ap (λ (x : Work × ℕ × Bool). x.2) (some_same (sym (ap (option_map standing) o.begun) ∙ ended.2))) ∙ o.unended)
