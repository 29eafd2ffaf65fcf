-- An allowed step, once what its moves need is finished, takes what is kept to the next version.
use Rattle.std.proofs.Common.{◌≡◌, ℕ, zero, suc, ◌+◌, ◌≤◌, List, [], ◌∷◌, length, Option, Some, None, option_map, refl, sym, ap, subst, ◌∙◌, inr, Bool, true, false, cond, arith, Contains, nat_lt}
use Rattle.std.specs.Prelude.{◌≢◌, IsTrue, filter}
use Rattle.std.specs.List.{All, AllByRecursion}
use Rattle.std.specs.Option.{unwrap_or}
use Rattle.std.specs.FinMap as map
use Rattle.std.proofs.lemmas.Bool.{lt-ltb}
use Rattle.lease.specs.Timeline.{IsTimeline, IsValid, earliest, first_of, max_moment, after_publication}
use Rattle.keycode.specs.declared.value.Value.{Value}
use Rattle.row_map.specs.declared.shape.ColumnType.{ColumnType}
use Rattle.row_map.specs.Rows.{RowKey, Cells}
use Rattle.row_map.specs.Shape.{has_type}
use Rattle.row_map.specs.Ranges.{table_prefix}
use Rattle.schema_version.specs.declared.element.ElementState.{ElementState}
use Rattle.schema_version.specs.declared.element.ElementState.TheVariants.{Absent, DeleteOnly, WriteOnly, Public}
use Rattle.schema_version.specs.declared.element.Way.{Way}
use Rattle.schema_version.specs.declared.element.Way.TheVariants.{Adding, Dropping}
use Rattle.schema_version.specs.declared.element.ElementDef.{ElementDef}
use Rattle.schema_version.specs.declared.step.Move.{Move}
use Rattle.schema_version.specs.declared.step.Move.TheVariants.{Enter, Go, Turn}
use Rattle.schema_version.specs.declared.step.StepFault.TheVariants.{NotAdjacent}
use Rattle.schema_version.specs.Edges.{edge, is_filled, needed_by, HasEdge}
use Rattle.schema_version.specs.Version.{Version, table_at, element_at, type_of_kind}
use Rattle.schema_version.specs.Moves.{is_move_of, moves_element, in_state, after_step, IsAllowed}
use Rattle.schema_version.specs.Sound.{IsSoundVersion}
use Rattle.schema_version.specs.Steps.{Change, Stays, Enters, Goes, Turns, in_state_or_none, StepOf, Same, New, Next, Back, IsOrdered}
use Rattle.schema_version.proofs.Lists.{any_from, not_both}
use Rattle.schema_version.proofs.StepEffects.{split_at, some_edge, adding_to_public, adding_before, own_way, may_turn, change_at, steps_keep_to_edges}
use Rattle.schema_version.proofs.Along.{ordered_of}
use Rattle.schema_version.proofs.Changes.{its_go, its_turn}
use Rattle.schema_version.proofs.Served.{steps_stay_sound, indexed_columns_stay}
use Rattle.element_state.specs.Consistent.{IsLawfulRow, AreLawfulRows}
use Rattle.element_state.specs.Core.{Core, Invariant, NeverPublic}
use Rattle.element_state.specs.Core as core
use Rattle.element_state.specs.Laws.{IsLive}
use Rattle.element_state.specs.Items.{ClearRange, HasRange}
use Rattle.element_state.specs.Kinds.{kind_clear, kind_clears}
use Rattle.element_state.specs.Ended as ended
use Rattle.element_state.specs.Publish.{MayBePublic, Was, Filled, Unfilled, MayBeAbsent, Was_not, Cleared, FillEnded, Steps}
use Rattle.element_state.proofs.Publications.{publish_kept}
use Rattle.element_state.proofs.Reaches.{fill_ended, clear_ended}
use Rattle.element_state.specs.Schemas.{Entry, state_of}
use Rattle.element_state.specs.Sources.{Source, IndexOn, OptionalIn, RequiredIn, source_in}
use Rattle.element_state.specs.Versions.{ElementKind, Of, the_kinds, meaning_of, schema_of, entry_of, row_entry, is_adding, laws, IsLawfulOf}
use Rattle.element_state.proofs.Versions.{one_table}
use Rattle.schema_version.specs.declared.element.Work.{Work}
use Rattle.schema_version.specs.declared.element.Work.TheVariants.{Fill, Clear}
use Rattle.reorganise.specs.declared.work.Progress.{Progress}
use Rattle.reorganise.specs.ScanRanges.{scan_range_of, start, end}
use Rattle.reorganise.specs.Laws.{pieces_of, passed_by}
use Rattle.reorganise.proofs.Bounds.{pieces_join, pieces_end, fill_range, clear_range, clear_is_of_kind}
use Rattle.replay.specs.declared.entry.What.TheVariants.{Publish}
use Rattle.replay.specs.Replay.{Facts, after, stays, progress_of}
use Rattle.replay.specs.Kept.{IsKept, IsBegun, core_at, all_passed}
use Rattle.replay.specs.Laws.{IsDone, IsFinished, AreFinished, PublicationsKeep}
use Rattle.replay.proofs.Agree.{at_number}
use Rattle.replay.proofs.Begun.{found, stayed, all_stayed, passed_at, from_passed}
use Rattle.replay.proofs.Moved.{filled_of, filled_in, visible, is_zero, get_visible, joined_step, source_same, live_state, not_at_once, same_tables, next_rises}
use Rattle.replay.proofs.Cursors.{stay_in_pieces}
use Rattle.replay.proofs.Different.{stay_different}
use Rattle.replay.proofs.Soundness.{lawful}
use Rattle.replay.proofs.Time.{retired}

some_one : {A : Type 0} {v w : A} → Some v ≡ (let o : Option A = Some w in o) → v ≡ w
some_one e = cc

none_some : {A B : Type 0} {v : A} → None ≡ Some v → B
none_some e = absurd cc

-- ---- one element

-- the state that a move gives
goes_to : (x d : ElementDef) (to : ElementState) → in_state_or_none x to ≡ Some d → (d ≡ in_state x to) × (to ≢ Absent)
goes_to x d Absent is = none_some is
goes_to x d DeleteOnly is = (sym (some_one is), λ e. absurd cc)
goes_to x d WriteOnly is = (sym (some_one is), λ e. absurd cc)
goes_to x d Public is = (sym (some_one is), λ e. absurd cc)

goes_away : (x : ElementDef) (to : ElementState) → in_state_or_none x to ≡ None → to ≡ Absent
goes_away x Absent is = refl
goes_away x DeleteOnly is = none_some (sym is)
goes_away x WriteOnly is = none_some (sym is)
goes_away x Public is = none_some (sym is)

-- a move to public of what is filled, and one to absent
fill_needed : (facts : Facts) (n : ℕ) (filled : Bool) → filled ≡ true → IsFinished facts n (needed_by filled Public) → IsDone facts n Fill
fill_needed facts n true is needs = needs
fill_needed facts n false is needs = absurd cc

clear_needed : (facts : Facts) (n : ℕ) (filled : Bool) → IsFinished facts n (needed_by filled Absent) → IsDone facts n Clear
clear_needed facts n true needs = needs
clear_needed facts n false needs = needs

-- what was never public was not before a move either
never_before : (x : ElementDef) (to : ElementState) (way : Way) → edge x.kind x.way x.state to ≡ Some way → is_adding (in_state x to).way ≡ true → (is_adding x.way ≡ true) × (x.state ≢ Public)
never_before x to way own adding = by way own (sym (ap (λ (o : Option Way). is_adding (unwrap_or o x.way)) own) ∙ adding)
  where
    by : (w : Way) → edge x.kind x.way x.state to ≡ Some w → is_adding w ≡ true → (is_adding x.way ≡ true) × (x.state ≢ Public)
    by Adding e a = let before = adding_before x.kind x.way x.state to e in (ap is_adding before.0, before.1)
    by Dropping e a = absurd cc

never_next : (version : Version) (n next : ℕ) (x : ElementDef) (to : ElementState) (way : Way) → edge x.kind x.way x.state to ≡ Some way → to ≢ Absent → NeverPublic the_kinds next n (option_map (entry_of version) (in_state_or_none x to)) → (is_adding x.way ≡ true) × (x.state ≢ Public)
never_next version n next x Absent way own live h = absurd (live refl)
never_next version n next x DeleteOnly way own live h = never_before x DeleteOnly way own h.0
never_next version n next x WriteOnly way own live h = never_before x WriteOnly way own h.0
never_next version n next x Public way own live h = never_before x Public way own h.0

module _ (facts : Facts) (step : List Move) (allowed : IsAllowed facts.newest step) (finished : AreFinished facts step) (k : IsKept facts) where
  abbrev pub v : Version
  v = facts.newest

  abbrev pub s : Version
  s = after_step facts.newest step

  -- the core, where no version before the newest counts any more
  abbrev pub w : Core ElementKind
  w = record { before = schema_of facts.newest; newest = schema_of facts.newest; next = facts.newest.next; progress = all_passed facts.progress; pairs = facts.pairs; rows = facts.rows }

  kept_core : Invariant the_kinds w
  kept_core = retired (core_at facts facts.moment) k.core_kept

  ordered : IsOrdered v
  ordered = ordered_of v k.sound

  change : (n : ℕ) → Change step v.next n (element_at v n) (element_at s n)
  change n = change_at v step allowed ordered n

  step_at : (n : ℕ) → StepOf v.next n (element_at v n) (element_at s n)
  step_at n = steps_keep_to_edges v step ordered allowed n

  pub sound_after : IsSoundVersion s
  sound_after = steps_stay_sound v step k.sound allowed

  -- the next version has its elements built from what they are built from in this one: no index lists a column that moves
  get_after : (n : ℕ) → map.get (schema_of s) n ≡ visible v (is_zero n) (element_at s n)
  get_after n = get_visible s n ∙ by (element_at s n) refl
    where
      by : (o : Option ElementDef) → element_at s n ≡ o → visible s (is_zero n) o ≡ visible v (is_zero n) o
      by None is = refl
      by (Some d) is =
          ap (λ (source : Source). cond (is_zero n) (Some row_entry) (Some (let e : Entry ElementKind = record { kind = Of d.table source; state = d.state; adding = is_adding d.way } in e)))
          (source_same v s d.kind (λ c there. indexed_columns_stay v step k.sound allowed n c d (inr is) there))

  -- an element of a begun reorganisation is the version's
  begun_at : (n : ℕ) (p : Progress) → progress_of facts.progress n ≡ Some p → IsBegun v p × (p.element.number ≡ n)
  begun_at n p at = found (IsBegun v) facts.progress n p k.begun at

  element_of : (n : ℕ) (p : Progress) → progress_of facts.progress n ≡ Some p → element_at v n ≡ Some p.element
  element_of n p at = let b = begun_at n p at in subst (λ (m : ℕ). element_at v m ≡ Some p.element) b.1 b.0.element

  lawful_at : (n : ℕ) (x : ElementDef) → 1 ≤ n → element_at v n ≡ Some x → IsLawfulOf n x.table (source_in v x.kind)
  lawful_at n x above at = lawful v k.sound n (entry_of v x) (at_number v n above ∙ ap (option_map (entry_of v)) at)

  entry_at : (n : ℕ) (x : ElementDef) → element_at v n ≡ Some x → map.get (schema_of v) n ≡ Some (entry_of v x)
  entry_at n x at = at_number v n (k.sound.elements n x at).first ∙ ap (option_map (entry_of v)) at

  -- ---- what is finished

  passed_so : (n : ℕ) (work : Work) (d : IsDone facts n work) → map.get (all_passed facts.progress) n ≡ Some (record { work = work; spans = passed_by d.progress.pieces })
  passed_so n work d = passed_at facts.progress n d.progress d.here ∙ ap (λ (x : Work). Some (let c : core.CoreProgress = record { work = x; spans = passed_by d.progress.pieces } in c)) d.work_is

  filled : (n : ℕ) (x : ElementDef) → element_at v n ≡ Some x → IsDone facts n Fill → FillEnded the_kinds w n (Of x.table (source_in v x.kind))
  filled n x at d =
      let own = lawful_at n x (k.sound.elements n x at).first at in
      let b = begun_at n d.progress d.here in
      let element : d.progress.element ≡ x = some_one (sym (element_of n d.progress d.here) ∙ at) in
      let range = fill_range x own.range.table_below in
      let joined : ended.AreJoined (start (scan_range_of x Fill)) (end (scan_range_of x Fill)) (pieces_of d.progress.pieces)
      = subst (λ (e : ElementDef). ended.AreJoined (start (scan_range_of e Fill)) (end (scan_range_of e Fill)) (pieces_of d.progress.pieces)) element
      (subst (λ (u : Work). ended.AreJoined (start (scan_range_of d.progress.element u)) (end (scan_range_of d.progress.element u)) (pieces_of d.progress.pieces)) d.work_is (pieces_join _ _ d.progress.pieces b.0.joined)) in
      fill_ended the_kinds w n (Of x.table (source_in v x.kind)) x.table (pieces_of d.progress.pieces) (laws n (Of x.table (source_in v x.kind)) own) (one_table n x.table (source_in v x.kind)) own.range.table_below (passed_so n Fill d)
      (subst (λ high. ended.AreJoined (table_prefix x.table) high (pieces_of d.progress.pieces)) range.1 (subst (λ low. ended.AreJoined low (end (scan_range_of x Fill)) (pieces_of d.progress.pieces)) range.0 joined))
      ((pieces_end d.progress.pieces).0 d.ended)

  cleared : (n : ℕ) (x : ElementDef) → element_at v n ≡ Some x → IsDone facts n Clear → MayBeAbsent the_kinds w n
  cleared n x at d =
      let own = lawful_at n x (k.sound.elements n x at).first at in
      let b = begun_at n d.progress d.here in
      let element : d.progress.element ≡ x = some_one (sym (element_of n d.progress d.here) ∙ at) in
      let number : x.number ≡ n = (k.sound.elements n x at).own in
      let range = clear_range x (subst (λ (m : ℕ). HasRange x.table m) (sym number) own.range) in
      let joined : ended.AreJoined (start (scan_range_of x Clear)) (end (scan_range_of x Clear)) (pieces_of d.progress.pieces)
      = subst (λ (e : ElementDef). ended.AreJoined (start (scan_range_of e Clear)) (end (scan_range_of e Clear)) (pieces_of d.progress.pieces)) element
      (subst (λ (u : Work). ended.AreJoined (start (scan_range_of d.progress.element u)) (end (scan_range_of d.progress.element u)) (pieces_of d.progress.pieces)) d.work_is (pieces_join _ _ d.progress.pieces b.0.joined)) in
      Cleared (clear_ended the_kinds w n (entry_of v x) (kind_clear x.table n (source_in v x.kind)) (pieces_of d.progress.pieces) (kind_clears x.table n (source_in v x.kind) own.lawful own.range) kept_core (entry_at n x at) (passed_so n Clear d)
      (subst (λ (m : ℕ). ended.AreJoined (kind_clear x.table m (source_in v x.kind)).low (kind_clear x.table m (source_in v x.kind)).high (pieces_of d.progress.pieces)) number
      (subst (λ high. ended.AreJoined (kind_clear x.table x.number (source_in v x.kind)).low high (pieces_of d.progress.pieces)) (range.1 ∙ ap (λ (c : ClearRange). c.high) (clear_is_of_kind v x)) (subst (λ low. ended.AreJoined low (end (scan_range_of x Clear)) (pieces_of d.progress.pieces)) (range.0 ∙ ap (λ (c : ClearRange). c.low) (clear_is_of_kind v x)) joined)))
      ((pieces_end d.progress.pieces).0 d.ended))

  -- ---- a step to public, and one to absent

  way_of : (n : ℕ) (to : ElementState) (x : ElementDef) → Contains step (Go n to) → element_at v n ≡ Some x → (way : Way) × (edge x.kind x.way x.state to ≡ Some way)
  way_of n to x there at = let p = split_at step (Go n to) there in own_way v step allowed p.0 p.1 n to x p.2 at

  -- what turns back is not public
  private_at : (n : ℕ) (x : ElementDef) → Contains step (Turn n) → element_at v n ≡ Some x → x.state ≢ Public
  private_at n x there at = let p = split_at step (Turn n) there in (may_turn v step allowed p.0 p.1 n x p.2 at).0

  to_public : (n : ℕ) (x : ElementDef) (filled_is : Bool) → is_filled x.kind ≡ filled_is → Contains step (Go n Public) → element_at v n ≡ Some x → MayBePublic the_kinds w n (Of x.table (source_in v x.kind))
  to_public n x true is there at = Filled (filled n x at (fill_needed facts n (is_filled x.kind) is (finished n Public x there at)))
  to_public n x false is there at =
      let way = way_of n Public x there at in
      let own = adding_to_public x.kind x.way x.state way.0 way.1 in
      Unfilled (unfilled n x.table (source_in v x.kind) (filled_in v x.kind ∙ is)) (subst (NeverPublic the_kinds v.next n) (sym (entry_at n x at)) (ap is_adding own.0, own.1))
    where
      unfilled : (n table : ℕ) (source : Source) → filled_of source ≡ false → (meaning_of n (Of table source)).filled ≡ false
      unfilled n table (IndexOn columns) e = e
      unfilled n table (OptionalIn type) e = refl
      unfilled n table (RequiredIn type fallback) e = e

  public_def : (n : ℕ) (d : ElementDef) → element_at s n ≡ Some d → is_zero n ≡ false → d.state ≡ Public → Change step v.next n (element_at v n) (element_at s n) → MayBePublic the_kinds w n (Of d.table (source_in v d.kind))
  public_def n d at b public (Stays same) = Was (ap state_of (get_visible v n ∙ ap (λ c. visible v c (element_at v n)) b ∙ ap (option_map (entry_of v)) (sym same ∙ at)) ∙ public)
  public_def n d at b public (Enters fresh to there le none is) =
      let p = split_at step (Enter fresh to) there in
      let entered : to ≡ Public = ap (λ (e : ElementDef). e.state) (some_one (sym is ∙ at)) ∙ public in
      absurd (not_at_once fresh.kind (subst (HasEdge fresh.kind Absent) entered (some_edge fresh.kind Absent to (λ h. allowed p.0 p.1 (Enter fresh to) NotAdjacent p.2 h))))
  public_def n d at b public (Goes x to there was is) =
      let goes = goes_to x d to (sym is ∙ at) in
      let target : to ≡ Public = ap (λ (e : ElementDef). e.state) (sym goes.0) ∙ public in
      subst (λ (e : ElementDef). MayBePublic the_kinds w n (Of e.table (source_in v e.kind))) (sym goes.0) (to_public n x (is_filled x.kind) refl (subst (λ (q : ElementState). Contains step (Go n q)) target there) was)
  public_def n d at b public (Turns x there was is) = absurd (private_at n x there was (ap (λ (e : ElementDef). e.state) (some_one (sym is ∙ at)) ∙ public))

  public_step : (n : ℕ) (e : Entry ElementKind) → map.get (schema_of s) n ≡ Some e → e.state ≡ Public → MayBePublic the_kinds w n e.kind
  public_step n e at public = by (is_zero n) refl (element_at s n) refl (sym (get_after n) ∙ at)
    where
      by : (b : Bool) → is_zero n ≡ b → (o : Option ElementDef) → element_at s n ≡ o → visible v b o ≡ Some e → MayBePublic the_kinds w n e.kind
      by true b o there is = Was (ap state_of (get_visible v n ∙ ap (λ c. visible v c (element_at v n)) b))
      by false b None there is = none_some is
      by false b (Some d) there is =
          subst (λ (x : Entry ElementKind). MayBePublic the_kinds w n x.kind) (some_one is)
          (public_def n d there b (ap (λ (x : Entry ElementKind). x.state) (some_one is) ∙ public) (change n))

  absent_def : (n : ℕ) → element_at s n ≡ None → is_zero n ≡ false → Change step v.next n (element_at v n) (element_at s n) → MayBeAbsent the_kinds w n
  absent_def n at b (Stays same) = Was_not (get_visible v n ∙ ap (λ c. visible v c (element_at v n)) b ∙ ap (option_map (entry_of v)) (sym same ∙ at))
  absent_def n at b (Enters fresh to there le none is) = none_some (sym at ∙ is)
  absent_def n at b (Goes x to there was is) =
      let target : to ≡ Absent = goes_away x to (sym is ∙ at) in
      cleared n x was (clear_needed facts n (is_filled x.kind) (finished n Absent x (subst (λ (q : ElementState). Contains step (Go n q)) target there) was))
  absent_def n at b (Turns x there was is) = none_some (sym at ∙ is)

  absent_step : (n : ℕ) → map.get (schema_of s) n ≡ None → MayBeAbsent the_kinds w n
  absent_step n at = by (is_zero n) refl (element_at s n) refl (sym (get_after n) ∙ at)
    where
      by : (b : Bool) → is_zero n ≡ b → (o : Option ElementDef) → element_at s n ≡ o → visible v b o ≡ None → MayBeAbsent the_kinds w n
      by true b o there is = none_some (sym is)
      by false b None there is = absent_def n there b (change n)
      by false b (Some d) there is = none_some (sym is)

  -- ---- what stays

  still_def : (n : ℕ) (p : Progress) → progress_of facts.progress n ≡ Some p → moves_element step n ≡ false → Change step v.next n (element_at v n) (element_at s n) → element_at s n ≡ element_at v n
  still_def n p at still (Stays same) = same
  still_def n p at still (Enters fresh to there le none is) = none_some (sym none ∙ element_of n p at)
  still_def n p at still (Goes x to there was is) = absurd (not_both (any_from (is_move_of n) step (Go n to) there (its_go n to)) still)
  still_def n p at still (Turns x there was is) = absurd (not_both (any_from (is_move_of n) step (Turn n) there (its_turn n)) still)

  progress_kept : (n : ℕ) (c : core.CoreProgress) → map.get (all_passed (filter (stays step) facts.progress)) n ≡ Some c → (map.get w.progress n ≡ Some c) × (map.get (schema_of s) n ≡ map.get w.newest n)
  progress_kept n c at =
      let f = from_passed (filter (stays step) facts.progress) n c at in
      let t = stayed step facts.progress n f.0 f.1 in
      (passed_at facts.progress n f.0 t.0 ∙ ap Some f.2, get_after n ∙ ap (visible v (is_zero n)) (still_def n f.0 t.0 t.1 (change n)) ∙ sym (get_visible v n))

  begun_after : AllByRecursion (IsBegun s) (filter (stays step) facts.progress)
  begun_after = all_stayed (λ p. IsBegun v p × (progress_of facts.progress p.element.number ≡ progress_of facts.progress p.element.number)) (IsBegun s) step facts.progress
      (λ p h still. record { element = unmoved p h.0.element still (change p.element.number); wanted_so = h.0.wanted_so; joined = h.0.joined; bounds = h.0.bounds })
      (with_itself facts.progress k.begun)
    where
      with_itself : (ps : List Progress) → AllByRecursion (IsBegun v) ps → AllByRecursion (λ p. IsBegun v p × (progress_of facts.progress p.element.number ≡ progress_of facts.progress p.element.number)) ps
      with_itself [] all = tt
      with_itself (p ∷ ps) all = ((all.0, refl), with_itself ps all.1)

      unmoved : (p : Progress) → element_at v p.element.number ≡ Some p.element → moves_element step p.element.number ≡ false → Change step v.next p.element.number (element_at v p.element.number) (element_at s p.element.number) → element_at s p.element.number ≡ Some p.element
      unmoved p at still (Stays same) = same ∙ at
      unmoved p at still (Enters fresh to there le none is) = none_some (sym none ∙ at)
      unmoved p at still (Goes x to there was is) = absurd (not_both (any_from (is_move_of p.element.number) step (Go p.element.number to) there (its_go p.element.number to)) still)
      unmoved p at still (Turns x there was is) = absurd (not_both (any_from (is_move_of p.element.number) step (Turn p.element.number) there (its_turn p.element.number)) still)

  fresh_def : (n : ℕ) → NeverPublic the_kinds s.next n (option_map (entry_of v) (element_at s n)) → Change step v.next n (element_at v n) (element_at s n) → NeverPublic the_kinds v.next n (option_map (entry_of v) (element_at v n))
  fresh_def n never (Stays same) = fresher (element_at v n) (subst (λ (o : Option ElementDef). NeverPublic the_kinds s.next n (option_map (entry_of v) o)) same never)
    where
      fresher : (o : Option ElementDef) → NeverPublic the_kinds s.next n (option_map (entry_of v) o) → NeverPublic the_kinds v.next n (option_map (entry_of v) o)
      fresher None h = omega (arith, h, next_rises facts.newest step)
      fresher (Some d) h = h
  fresh_def n never (Enters fresh to there le none is) = subst (λ (o : Option ElementDef). NeverPublic the_kinds v.next n (option_map (entry_of v) o)) (sym none) le
  fresh_def n never (Goes x to there was is) = subst (λ (o : Option ElementDef). NeverPublic the_kinds v.next n (option_map (entry_of v) o)) (sym was) (by to refl)
    where
      way : (way : Way) × (edge x.kind x.way x.state to ≡ Some way)
      way = way_of n to x there was

      after_is : NeverPublic the_kinds s.next n (option_map (entry_of v) (in_state_or_none x to))
      after_is = subst (λ (o : Option ElementDef). NeverPublic the_kinds s.next n (option_map (entry_of v) o)) is never

      by : (q : ElementState) → to ≡ q → (is_adding x.way ≡ true) × (x.state ≢ Public)
      by Absent e = absurd (omega (arith, next_rises facts.newest step, ordered.below n x was, subst (λ (q : ElementState). NeverPublic the_kinds s.next n (option_map (entry_of v) (in_state_or_none x q))) e after_is))
      by DeleteOnly e = never_next v n s.next x to way.0 way.1 (λ a. absurd cc) after_is
      by WriteOnly e = never_next v n s.next x to way.0 way.1 (λ a. absurd cc) after_is
      by Public e = never_next v n s.next x to way.0 way.1 (λ a. absurd cc) after_is
  fresh_def n never (Turns x there was is) = dropped (subst (λ (o : Option ElementDef). NeverPublic the_kinds s.next n (option_map (entry_of v) o)) is never).0
    where
      dropped : {B : Type 0} → false ≡ true → B
      dropped e = absurd cc

  fresh_step : (n : ℕ) → NeverPublic the_kinds s.next n (map.get (schema_of s) n) → NeverPublic the_kinds v.next n (map.get w.newest n)
  fresh_step n never = subst (NeverPublic the_kinds v.next n) (sym (get_visible v n)) (by (is_zero n) refl (subst (NeverPublic the_kinds s.next n) (get_after n) never))
    where
      by : (b : Bool) → is_zero n ≡ b → NeverPublic the_kinds s.next n (visible v b (element_at s n)) → NeverPublic the_kinds v.next n (visible v b (element_at v n))
      by true b h = absurd (h.1 refl)
      by false b h = fresh_def n h (change n)

  -- ---- all of it

  steps : Steps the_kinds w (schema_of s) s.next (all_passed (filter (stays step) facts.progress))
  steps = record {
    joined = λ n. subst (λ a. core.JoinedAt the_kinds n a (map.get (schema_of s) n)) (sym (get_visible v n)) (subst (core.JoinedAt the_kinds n (visible v (is_zero n) (element_at v n))) (sym (get_after n)) (joined_step v (is_zero n) n v.next (element_at v n) (element_at s n) (step_at n)));
    lawful = lawful s sound_after;
    live = λ n e at. live_at n e at;
    to_public = public_step;
    to_absent = absent_step;
    progress_kept = progress_kept;
    fresh = fresh_step;
  }
    where
      live_at : (n : ℕ) (e : Entry ElementKind) → map.get (schema_of s) n ≡ Some e → IsLive e.state
      live_at n e at = by (is_zero n) (element_at s n) refl (sym (get_after n) ∙ at)
        where
          by : (b : Bool) (o : Option ElementDef) → element_at s n ≡ o → visible v b o ≡ Some e → IsLive e.state
          by true o there is = subst IsLive (ap (λ (x : Entry ElementKind). x.state) (some_one is)) tt
          by false None there is = none_some is
          by false (Some d) there is = live_state e.state (λ a. (sound_after.elements n d there).live (ap (λ (x : Entry ElementKind). x.state) (some_one is) ∙ a))

  pub core_after : Invariant the_kinds (record { before = schema_of v; newest = schema_of s; next = s.next; progress = all_passed (filter (stays step) facts.progress); pairs = facts.pairs; rows = facts.rows })
  core_after = publish_kept the_kinds w (schema_of s) s.next (all_passed (filter (stays step) facts.progress)) steps kept_core

  -- ---- the rows

  -- the cells of a column of the new version are of its type: a column that enters has none
  typed : (key : RowKey) (cells : Cells) → map.get facts.rows key ≡ Some cells → (column : ℕ) (element : ElementDef) (type : ColumnType) (value : Value) → element_at s column ≡ Some element → type_of_kind element.kind ≡ Some type
      → map.get cells column ≡ Some value → StepOf v.next column (element_at v column) (element_at s column) → IsTrue (has_type type value)
  typed key cells at column element type value there kind is (Same e) = (k.rows key cells at).types column element type value (sym e ∙ there) kind is
  typed key cells at column element type value there kind is (New fresh to le has none new) =
      let above : 1 ≤ column = omega (arith, le, k.sound.begun) in
      let never : NeverPublic the_kinds v.next column (map.get w.newest column) = subst (NeverPublic the_kinds v.next column) (sym (at_number v column above ∙ ap (option_map (entry_of v)) none)) le in
      none_some (sym ((kept_core.bare column never).0 key cells at) ∙ is)
  typed key cells at column element type value there kind is (Next x to way own was new) =
      (k.rows key cells at).types column x type value was (ap (λ (e : ElementDef). type_of_kind e.kind) (sym (goes_to x element to (sym new ∙ there)).0) ∙ kind) is
  typed key cells at column element type value there kind is (Back x private way was new) =
      (k.rows key cells at).types column x type value was (ap (λ (e : ElementDef). type_of_kind e.kind) (some_one (sym new ∙ there)) ∙ kind) is

  rows_after : AreLawfulRows s facts.rows
  rows_after key cells at =
      let r : IsLawfulRow v key cells = k.rows key cells at in
      record {
        table = r.table;
        known = ap (λ ts. table_at (record v { tables = ts }) key.0) (same_tables v step) ∙ r.known;
        primary = r.primary;
        types = λ column element type value there kind is. typed key cells at column element type value there kind is (step_at column);
        values = r.values;
      }

  -- ---- the next version is kept

  in_turn_after : (length : ℕ) (ps : List ℕ) (now : ℕ) → IsTimeline length ps → first_of ps + length ≤ now → IsTimeline length (now ∷ ps)
  in_turn_after length [] now t le = absurd t
  in_turn_after length (p ∷ ps) now t le = (le, t)

  moments_after : (ps : List ℕ) (now : ℕ) → now ≤ max_moment → All (λ moment. moment ≤ max_moment) ps → All (λ moment. moment ≤ max_moment) (now ∷ ps)
  moments_after ps now le all zero d lt = le
  moments_after ps now le all (suc i) d lt = all i d (omega (arith, lt))

  valid_after : (now : ℕ) → earliest facts.line ≤ now → now ≤ max_moment → IsValid (after_publication facts.line now)
  valid_after now in_turn within = record {
    within = k.valid.within;
    in_turn = in_turn_after facts.line.length facts.line.published now k.valid.in_turn in_turn;
    moments = moments_after facts.line.published now within k.valid.moments;
  }

  pub published_kept : (now : ℕ) → now ≤ max_moment → earliest facts.line ≤ now → IsKept (after facts (record { moment = now; what = Publish step }))
  published_kept now within in_turn =
      let used : cond (nat_lt now (now + facts.line.length)) v s ≡ v = ap (λ (b : Bool). cond b v s) (lt-ltb now (now + facts.line.length) (omega (arith, k.valid.within.0))) in
      record {
        counted = ap suc k.counted;
        valid = valid_after now in_turn within;
        since = omega arith;
        sound = sound_after;
        sound_before = subst IsSoundVersion (sym used) k.sound;
        tables = ap (λ (u : Version). u.tables) used ∙ sym (same_tables v step);
        core_kept = subst (λ (u : Version). Invariant the_kinds (record { before = schema_of u; newest = schema_of s; next = s.next; progress = all_passed (filter (stays step) facts.progress); pairs = facts.pairs; rows = facts.rows })) (sym used) core_after;
        rows = rows_after;
        rows_before = subst (λ (u : Version). AreLawfulRows u facts.rows) (sym used) k.rows;
        begun = begun_after;
        different = stay_different step facts.progress k.different;
        in_pieces = stay_in_pieces step facts.progress k.in_pieces;
      }

pub lemma_publications_keep : PublicationsKeep
lemma_publications_keep facts now step later within in_turn allowed finished k = published_kept facts step allowed finished k now within in_turn
