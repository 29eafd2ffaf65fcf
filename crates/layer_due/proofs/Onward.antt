-- By records of one moment something can be done as long as something is left.
use Rattle.std.proofs.Common.{◌≡◌, ℕ, zero, suc, ◌+◌, ◌<◌, Bool, true, false, cond, List, [], ◌∷◌, ◌++◌, Option, Some, None, refl, sym, ap, subst, ◌∙◌, arith, length, option_map, is_some, slice_get}
use Rattle.std.proofs.lemmas.List.{append_assoc, length-map}
use Rattle.row_map.specs.Rows.{Bytes}
use Rattle.schema_version.specs.declared.element.ElementDef.{ElementDef}
use Rattle.schema_version.specs.declared.element.ElementState.{ElementState}
use Rattle.schema_version.specs.declared.element.ElementState.TheVariants.{Absent, DeleteOnly, WriteOnly, Public}
use Rattle.schema_version.specs.declared.element.Way.{Way}
use Rattle.schema_version.specs.declared.element.Way.TheVariants.{Adding, Dropping}
use Rattle.schema_version.specs.declared.element.Work.{Work}
use Rattle.schema_version.specs.declared.step.Move.{Move}
use Rattle.schema_version.specs.declared.step.Move.TheVariants.{Enter, Go, Turn}
use Rattle.schema_version.specs.declared.step.StepFault.TheVariants.{WrongWay}
use Rattle.schema_version.specs.Edges.{is_filled, edge_by, edge, needed_by, needed_work, wanted_work}
use Rattle.schema_version.specs.Moves.{IsAllowed, GoFaultAt}
use Rattle.schema_version.specs.Version.{Version, element_at}
use Rattle.reorganise.specs.declared.work.Progress.{Progress}
use Rattle.reorganise.specs.declared.work.Span.{Span}
use Rattle.replay.specs.Kept.{IsKept, IsBegun}
use Rattle.replay.specs.Replay.{Facts, progress_of, start}
use Rattle.replay.proofs.Begun.{found}
use Rattle.drafts.specs.declared.record.Reorg.{Reorg}
use Rattle.drafts.specs.declared.record.Record.TheVariants.{Reorg as OfReorg, Cursor as OfCursor}
use Rattle.drafts.specs.Calls.{HasWork}
use Rattle.drafts.specs.Log.{after_log}
use Rattle.drafts.specs.Mirror.{Mirrors, reorg_of, piece_of}
use Rattle.drafts.specs.Publish.{found_in, ReadyAt}
use Rattle.drafts.specs.Laws.{after_calls, opening_of}
use Rattle.drafts.specs.Store.{Store, opened}
use Rattle.drafts.proofs.Opens.{none_some, some_one, newest_is}
use Rattle.drafts.proofs.Pieces.{found_of}
use Rattle.drafts.proofs.Runs.{all_end, opened_so, first_mirror}
use Rattle.layer_due.specs.Records.{Records, Cursor, cursor_in, is_at, first_open, open_in, open_piece}
use Rattle.layer_due.specs.Due.{HasEnded, NoneWants, NoneOpen, AreReady, IsStuck}
use Rattle.layer_due.specs.Applies.{HasRecords}
use Rattle.layer_due.specs.GoesOn.{IsNextAllowed, DuesGoOn}
use Rattle.layer_due.specs.declared.act.DueFault.{DueFault}
use Rattle.layer_due.specs.declared.act.DueFault.TheVariants as fault

-- ---- what an allowed move needs is what its element wants

abbrev wanted_by : Bool → Way → ElementState → Option Work
wanted_by filled way from =
    cond (is_some (edge_by filled way from Public)) (needed_by filled Public) (cond (is_some (edge_by filled way from Absent)) (needed_by filled Absent) None)

wants_by : (filled : Bool) (to : ElementState) (way : Way) (from : ElementState) (next : Way) (work : Work) → edge_by filled way from to ≡ Some next → needed_by filled to ≡ Some work → wanted_by filled way from ≡ Some work
wants_by true Public Adding WriteOnly next work e needs = needs
wants_by true Absent Dropping DeleteOnly next work e needs = needs
wants_by false Absent Dropping DeleteOnly next work e needs = needs
wants_by true DeleteOnly way from next work e needs = none_some needs
wants_by true WriteOnly way from next work e needs = none_some needs
wants_by false DeleteOnly way from next work e needs = none_some needs
wants_by false WriteOnly way from next work e needs = none_some needs
wants_by false Public way from next work e needs = none_some needs
wants_by true Public Dropping WriteOnly next work e needs = none_some e
wants_by true Absent Adding WriteOnly next work e needs = none_some e
wants_by false Absent Adding WriteOnly next work e needs = none_some e
wants_by filled to way from next work e needs = none_some e

there_is : {A : Type 0} (o : Option A) → ¬ (o ≡ None) → (x : A) × (o ≡ Some x)
there_is None ne = absurd (ne refl)
there_is (Some x) ne = (x, refl)

wants_allowed : (e : ElementDef) (to : ElementState) (work : Work) → ¬ (edge e.kind e.way e.state to ≡ None) → needed_work e.kind to ≡ Some work → wanted_work e ≡ Some work
wants_allowed e to work ne needs = let next = there_is (edge e.kind e.way e.state to) ne in wants_by (is_filled e.kind) to e.way e.state next.0 work next.1 needs

-- ---- places

pub at_place : {A : Type 0} (xs : List A) (p : ℕ) → p < length xs → (x : A) × (slice_get xs p ≡ Some x)
at_place [] p below = absurd (omega (arith, below))
at_place (x ∷ xs) zero below = (x, refl)
at_place (x ∷ xs) (suc p) below = at_place xs p (omega (arith, below))

pub first_below : (cursors : List Cursor) (number piece p : ℕ) (bounds : List (Bytes × Bytes)) → first_open cursors number piece bounds ≡ Some p → p < piece + length bounds
first_below cursors number piece p [] e = none_some e
first_below cursors number piece p (bound ∷ bounds) e =
    elim (is_at (cursor_in cursors number piece) bound.1) as (λ b. cond b (first_open cursors number (piece + 1) bounds) (Some piece) ≡ Some p → p < piece + length (bound ∷ bounds)) [
      | true ↦ λ rest. let below = first_below cursors number (piece + 1) p bounds rest in omega (arith, below)
      | false ↦ λ here. let is : piece ≡ p = some_one here in omega (arith, is)
    ] e

-- ---- the records

-- nothing is left of the reorganisations that a step takes on
abbrev pub AllEnded : Records → List Move → Type 0
AllEnded records [] = Unit {0}
AllEnded records (move ∷ step) = HasEnded records move × AllEnded records step

pub all_ended : (records : Records) → NoneOpen records → (step : List Move) → AllEnded records step
all_ended records none [] = tt
all_ended records none (Enter fresh to ∷ step) = (tt, all_ended records none step)
all_ended records none (Go number to ∷ step) = (none number, all_ended records none step)
all_ended records none (Turn number ∷ step) = (tt, all_ended records none step)

module _ (facts : Facts) (store : Store) (records : Records) (k : IsKept facts) (m : Mirrors facts store) (has : HasRecords store records) where
  pub newest : facts.newest ≡ records.newest.schema
  newest = (newest_is facts store records.newest k m (has.newest, (has.none_after, tt))).schema

  -- a reorganisation that was found is one that has begun
  pub record IsBegunReorg (number : ℕ) (reorg : Reorg) : Type 0 where
    pub progress : Progress
    pub here : progress_of facts.progress number ≡ Some progress
    pub same : reorg_of progress ≡ reorg
    pub begun : IsBegun facts.newest progress
    pub number_is : progress.element.number ≡ number

  pub begun_reorg : (number : ℕ) (reorg : Reorg) → found_in records.reorgs number ≡ Some reorg → IsBegunReorg number reorg
  begun_reorg number reorg is =
      let f = found_of (progress_of facts.progress number) reorg (sym (m.reorgs number) ∙ has.reorgs number ∙ ap (option_map OfReorg) is) in
      let b = found (IsBegun facts.newest) facts.progress number f.progress k.begun f.here in
      record { progress = f.progress; here = f.here; same = f.same; begun = b.0; number_is = b.1 }

  -- its work is what the element wants
  its_work : (number : ℕ) (reorg : Reorg) (element : ElementDef) (work : Work) → found_in records.reorgs number ≡ Some reorg → element_at records.newest.schema number ≡ Some element → wanted_work element ≡ Some work → reorg.work ≡ work
  its_work number reorg element work is there wants =
      let b = begun_reorg number reorg is in
      let own : element_at facts.newest number ≡ Some b.progress.element = subst (λ (n : ℕ). element_at facts.newest n ≡ Some b.progress.element) b.number_is b.begun.element in
      let element_is : b.progress.element ≡ element = some_one (sym own ∙ ap (λ (v : Version). element_at v number) newest ∙ there) in
      sym (ap (λ (r : Reorg). r.work) b.same) ∙ some_one (sym b.begun.wanted_so ∙ ap wanted_work element_is ∙ wants)

  -- each of its pieces has a cursor
  its_cursor : (number p : ℕ) (found : Option Reorg) → found_in records.reorgs number ≡ found → open_piece records number ≡ Some p → cursor_in records.cursors number p ≡ None → ⊥
  its_cursor number p None is left none = none_some (sym (ap (open_in records.cursors number) is) ∙ left)
  its_cursor number p (Some reorg) is left none =
      let b = begun_reorg number reorg is in
      let below = first_below records.cursors number 0 p reorg.bounds (sym (ap (open_in records.cursors number) is) ∙ left) in
      let pieces : length b.progress.pieces ≡ length reorg.bounds = sym (length-map b.progress.pieces (λ (piece : Span). (piece.low, piece.high))) ∙ ap (λ (r : Reorg). length r.bounds) b.same in
      let at = at_place b.progress.pieces p (omega (arith, below, pieces)) in
      none_some (
      sym (ap (option_map OfCursor) none) ∙ sym (has.cursors number p) ∙ m.cursors number p
      ∙ ap (λ o. option_map (λ (s : Span). OfCursor s.cursor) (piece_of o p)) b.here
      ∙ ap (option_map (λ (s : Span). OfCursor s.cursor)) at.1)

  module _ (none_wants : NoneWants records) where
    work_found : (number : ℕ) (element : ElementDef) (work : Work) (found : Option Reorg) → found_in records.reorgs number ≡ found → element_at records.newest.schema number ≡ Some element → wanted_work element ≡ Some work → HasWork found (Some work)
    work_found number element work None is there wants = absurd (none_wants number (record { element = element; there = there; work = work; wants = wants; new = is }))
    work_found number element work (Some reorg) is there wants = its_work number reorg element work is there wants

    needs_found : (number : ℕ) (to : ElementState) (element : ElementDef) (o : Option Work) → needed_work element.kind to ≡ o → element_at records.newest.schema number ≡ Some element → ¬ (edge element.kind element.way element.state to ≡ None) → HasWork (found_in records.reorgs number) o
    needs_found number to element None needs there ne = no_work (found_in records.reorgs number)
      where
        no_work : (o : Option Reorg) → HasWork o None
        no_work o = tt
    needs_found number to element (Some work) needs there ne = work_found number element work (found_in records.reorgs number) refl there (wants_allowed element to work ne needs)

    go_ready : (number : ℕ) (to : ElementState) (o : Option ElementDef) → element_at records.newest.schema number ≡ o → ¬ (GoFaultAt records.newest.schema [] [] number o to WrongWay) → ReadyAt o (found_in records.reorgs number) to
    go_ready number to None is allowed = tt
    go_ready number to (Some element) is allowed = needs_found number to element (needed_work element.kind to) refl is allowed

    -- a step is ready if nothing is left of the reorganisations that it takes on
    pub ready : (step earlier later : List Move) → IsAllowed records.newest.schema step → step ≡ earlier ++ later → AllEnded records later → AreReady records later
    ready step earlier [] allowed is ended = tt
    ready step earlier (Enter fresh to ∷ later) allowed is ended = ((tt, tt), ready step (earlier ++ Enter fresh to ∷ []) later allowed (is ∙ sym (append_assoc earlier (Enter fresh to ∷ []) later)) ended.1)
    ready step earlier (Turn number ∷ later) allowed is ended = ((tt, tt), ready step (earlier ++ Turn number ∷ []) later allowed (is ∙ sym (append_assoc earlier (Turn number ∷ []) later)) ended.1)
    ready step earlier (Go number to ∷ later) allowed is ended =
        ((go_ready number to (element_at records.newest.schema number) refl (λ wrong. allowed earlier later (Go number to) WrongWay is (at_any wrong)), ended.0), ready step (earlier ++ Go number to ∷ []) later allowed (is ∙ sym (append_assoc earlier (Go number to ∷ []) later)) ended.1)
      where
        at_any : GoFaultAt records.newest.schema [] [] number (element_at records.newest.schema number) to WrongWay → GoFaultAt records.newest.schema step earlier number (element_at records.newest.schema number) to WrongWay
        at_any = by (element_at records.newest.schema number)
          where
            by : (o : Option ElementDef) → GoFaultAt records.newest.schema [] [] number o to WrongWay → GoFaultAt records.newest.schema step earlier number o to WrongWay
            by None wrong = wrong
            by (Some element) wrong = wrong

  goes_on : (steps : List (List Move)) (fault : DueFault) → IsNextAllowed records.newest.schema steps → IsStuck records steps fault → ⊥
  goes_on steps (fault.NoCursor number piece) allowed stuck = its_cursor number piece (found_in records.reorgs number) refl stuck.2 stuck.3
  goes_on [] fault.NotReady allowed stuck = stuck.2 refl
  goes_on (step ∷ steps) fault.NotReady allowed stuck = stuck.1 (ready stuck.0 step [] step allowed refl (all_ended records stuck.3 step))

pub dues_go_on : DuesGoOn
dues_go_on schema calls records steps fault sound made may has allowed stuck =
    let all = all_end (start (opening_of schema)) (opened schema) calls (opened_so schema sound) (first_mirror schema sound) made may in
    goes_on (after_log (start (opening_of schema)) all.log) (after_calls (opened schema) calls) records all.kept all.mirrors has steps fault allowed stuck
