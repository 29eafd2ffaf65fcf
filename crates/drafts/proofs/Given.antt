-- A reorganisation whose bounds are given, and not found by a walk over its range: nothing of the pairs is asked.
use Rattle.std.proofs.Common.{◌≡◌, ℕ, ◌≤◌, List, [], ◌∷◌, ◌++◌, Option, Some, None, option_map, refl, sym, ap, subst, ◌∙◌, inl, inr, Bool, true, false, cond, eq-eqb, ne_eqb}
use Rattle.std.specs.Prelude.{IsTrue, is_some, if◌then◌else◌}
use Rattle.std.specs.List.{AllByRecursion}
use Rattle.std.specs.Option.{option_or}
use Rattle.std.proofs.lemmas.List.Folds.{find-append}
use mathlib.Core.List.{map as each}
use Rattle.std.specs.FinMap as map
use Rattle.std.specs.FinMap.{FinMap, nat_cmp-IsAntisymmetric}
use Rattle.std.specs.Cmp.{nat_cmp_total}
use Rattle.std.specs.Ordering.{nat_cmp}
use Rattle.byte_map.proofs.Written.{written_here, written_apart}
use Rattle.row_map.specs.Rows.{Bytes}
use Rattle.schema_version.specs.declared.element.ElementState.{ElementState}
use Rattle.schema_version.specs.declared.element.ElementState.TheVariants.{Absent, DeleteOnly, WriteOnly, Public}
use Rattle.schema_version.specs.declared.element.Way.{Way}
use Rattle.schema_version.specs.declared.element.Way.TheVariants.{Adding, Dropping}
use Rattle.schema_version.specs.declared.element.Kind.{Kind}
use Rattle.schema_version.specs.declared.element.Kind.TheVariants.{Index, Optional, Required}
use Rattle.schema_version.specs.declared.element.ElementDef.{ElementDef}
use Rattle.schema_version.specs.Edges.{edge_by, needed_by, is_filled, work_by, wanted_work}
use Rattle.schema_version.specs.Version.{Version, element_at, state_of, state_or_absent}
use Rattle.element_state.specs.Core.{Core, Invariant, MayRun}
use Rattle.element_state.specs.Core as core
use Rattle.element_state.specs.Schemas.{state_of as state_in}
use Rattle.element_state.specs.Sources.{source_in}
use Rattle.element_state.specs.Versions.{ElementKind, Of, the_kinds, meaning_of, schema_of, entry_of}
use Rattle.element_state.proofs.Whole.{begin_kept, number_one}
use Rattle.schema_version.specs.declared.element.Work.{Work}
use Rattle.schema_version.specs.declared.element.Work.TheVariants.{Fill, Clear}
use Rattle.reorganise.specs.declared.work.Span.{Span}
use Rattle.reorganise.specs.declared.work.Progress.{Progress}
use Rattle.reorganise.specs.Laws.{passed_by}
use Rattle.element_state.specs.Whole.{fresh_spans}
use Rattle.keycode.specs.Order.{bytes_cmp}
use Rattle.keycode.proofs.Orders.{bytes_cmp_total}
use Rattle.std.specs.Cmp.{tied_itself}
use Rattle.std.specs.Ordering.{is_le}
use Rattle.reorganise.specs.Partition.{AreJoined}
use Rattle.replay.specs.Replay.{Facts, is_of, progress_of}
use Rattle.replay.specs.Kept.{IsKept, IsBegun, core_at, used_before, all_passed, passed}
use Rattle.replay.proofs.Agree.{at_number}
use Rattle.replay.proofs.Begun.{get_passed}
use Rattle.replay.proofs.Different.{begin_different}
use Rattle.replay.specs.Kept.{IsInPiece, IsReached, IsInPieces, AreInPieces}
use Rattle.drafts.specs.Given.{AreGiven, GivenBeginsKeep}
use Rattle.replay.proofs.Time.{at, kept_later}

some_one : {A : Type 0} {v w : A} → Some v ≡ (let o : Option A = Some w in o) → v ≡ w
some_one e = cc

none_some : {A B : Type 0} {v : A} → None ≡ Some v → B
none_some e = absurd cc

-- ---- what an element wants may run

-- what the next move on a way needs, by whether the kind is filled
abbrev pub WantedBy : Bool → Way → ElementState → Option Work
WantedBy filled way from =
    if is_some (edge_by filled way from Public) then needed_by filled Public
    else (if is_some (edge_by filled way from Absent) then needed_by filled Absent
    else None)

runs_by : (filled : Bool) (source : ElementKind) (way : Way) (state : ElementState) (work : Work) → WantedBy filled way state ≡ Some work → MayRun the_kinds work source state
runs_by true source Adding Absent work e = none_some e
runs_by true source Adding DeleteOnly work e = none_some e
runs_by true source Adding WriteOnly work e = subst (λ (u : Work). MayRun the_kinds u source WriteOnly) (some_one e) tt
runs_by true source Adding Public work e = none_some e
runs_by true source Dropping Absent work e = none_some e
runs_by true source Dropping DeleteOnly work e = subst (λ (u : Work). MayRun the_kinds u source DeleteOnly) (some_one e) (λ g. g)
runs_by true source Dropping WriteOnly work e = none_some e
runs_by true source Dropping Public work e = none_some e
runs_by false source Adding Absent work e = none_some e
runs_by false source Adding DeleteOnly work e = none_some e
runs_by false source Adding WriteOnly work e = none_some e
runs_by false source Adding Public work e = none_some e
runs_by false source Dropping Absent work e = none_some e
runs_by false source Dropping DeleteOnly work e = subst (λ (u : Work). MayRun the_kinds u source DeleteOnly) (some_one e) (λ g. g)
runs_by false source Dropping WriteOnly work e = none_some e
runs_by false source Dropping Public work e = none_some e

may_run : (kind : Kind) (source : ElementKind) (way : Way) (state : ElementState) (work : Work) → work_by kind way state ≡ Some work → MayRun the_kinds work source state
may_run kind source way state work e = runs_by (is_filled kind) source way state work e

pub clear_fill : {B : Type 0} → Clear ≡ Fill → B
clear_fill e = absurd cc

no_fill : (way : Way) (state : ElementState) (work : Work) → WantedBy false way state ≡ Some work → work ≡ Fill → ⊥
no_fill Adding Absent work e f = none_some e
no_fill Adding DeleteOnly work e f = none_some e
no_fill Adding WriteOnly work e f = none_some e
no_fill Adding Public work e f = none_some e
no_fill Dropping Absent work e f = none_some e
no_fill Dropping DeleteOnly work e f = clear_fill (some_one e ∙ f)
no_fill Dropping WriteOnly work e f = none_some e
no_fill Dropping Public work e f = none_some e

-- a fill is one of a kind that is filled
filled_so : (version : Version) (n table : ℕ) (kind : Kind) (way : Way) (state : ElementState) (work : Work) → work_by kind way state ≡ Some work → work ≡ Fill → IsTrue ((meaning_of n (Of table (source_in version kind))).filled)
filled_so version n table (Index columns) way state work e f = refl
filled_so version n table (Required type fallback) way state work e f = refl
filled_so version n table (Optional type) way state work e f = absurd (no_fill way state work e f)

-- ---- one reorganisation more

single : (m : ℕ) (b : Progress) (c : Bool) → is_of m b ≡ c → progress_of (b ∷ []) m ≡ cond c (Some b) None
single m b c e = ap (λ (x : Bool). cond x (Some b) None) e

-- the map with one more has what the list with one more has
appended : (ps : List Progress) (b : Progress) → progress_of ps b.element.number ≡ None → (m : ℕ) (c : core.CoreProgress) → map.get (all_passed (ps ++ b ∷ [])) m ≡ Some c
    → map.get (map.insert (all_passed ps) b.element.number (passed b)) m ≡ Some c
appended ps b none m c at =
    let all : option_map passed (option_or (progress_of ps m) (progress_of (b ∷ []) m)) ≡ Some c = ap (option_map passed) (sym (find-append (is_of m) ps (b ∷ []))) ∙ sym (get_passed (ps ++ b ∷ []) m) ∙ at in
    elim (number_one m b.element.number) [
      | inl e ↦
          let first : progress_of ps m ≡ None = ap (progress_of ps) e ∙ none in
          let second : progress_of (b ∷ []) m ≡ Some b = single m b true (eq-eqb b.element.number m (sym e)) in
          let is : option_map passed (option_or None (Some b)) ≡ Some c = sym (ap (λ (o : Option Progress). option_map passed (option_or o (progress_of (b ∷ []) m))) first ∙ ap (λ (o : Option Progress). option_map passed (option_or None o)) second) ∙ all in
          ap (map.get (map.insert (all_passed ps) b.element.number (passed b))) e ∙ written_here nat_cmp_total nat_cmp-IsAntisymmetric (all_passed ps) b.element.number (Some (passed b)) ∙ is
      | inr ne ↦
          let second : progress_of (b ∷ []) m ≡ None = single m b false (ne_eqb b.element.number m (λ e. ne (sym e))) in
          let is : option_map passed (option_or (progress_of ps m) None) ≡ Some c = sym (ap (λ (o : Option Progress). option_map passed (option_or (progress_of ps m) o)) second) ∙ all in
          written_apart nat_cmp_total nat_cmp-IsAntisymmetric (all_passed ps) b.element.number (Some (passed b)) m ne ∙ get_passed ps m ∙ ap (option_map passed) (sym (or_none (progress_of ps m))) ∙ is
    ]
  where
    or_none : (o : Option Progress) → option_or o None ≡ o
    or_none None = refl
    or_none (Some p) = refl

-- what is said of the reorganisations is said of fewer
pub with_progress : (w : Core ElementKind) (progress : FinMap nat_cmp core.CoreProgress) → ((m : ℕ) (c : core.CoreProgress) → map.get progress m ≡ Some c → map.get w.progress m ≡ Some c) → Invariant the_kinds w → Invariant the_kinds (record w { progress = progress })
with_progress w progress fewer i = record {
  held = i.held;
  formed = i.formed;
  lawful_before = i.lawful_before;
  lawful_newest = i.lawful_newest;
  joined = i.joined;
  before = i.before;
  newest = i.newest;
  reached = λ m c at. i.reached m c (fewer m c at);
  bare = i.bare;
}

pub all_append : {A : Type 0} (P : A → Type 0) (xs ys : List A) → AllByRecursion P xs → AllByRecursion P ys → AllByRecursion P (xs ++ ys)
all_append P [] ys a b = b
all_append P (x ∷ xs) ys a b = (a.0, all_append P xs ys a.1 b)

state_visible : (version : Version) (n : ℕ) → 1 ≤ n → (o : Option ElementDef) → element_at version n ≡ o → state_in (map.get (schema_of version) n) ≡ state_of version n
state_visible version n above o is = ap state_in (at_number version n above) ∙ by o is
  where
    by : (o : Option ElementDef) → element_at version n ≡ o → state_in (option_map (entry_of version) (element_at version n)) ≡ state_of version n
    by None is = ap (λ (x : Option ElementDef). state_in (option_map (entry_of version) x)) is ∙ sym (ap state_or_absent is)
    by (Some e) is = ap (λ (x : Option ElementDef). state_in (option_map (entry_of version) x)) is ∙ sym (ap state_or_absent is)

-- ---- the begin

fresh_pieces : (pieces : List Span) → AllByRecursion (λ s. s.cursor ≡ s.low) pieces → passed_by pieces ≡ fresh_spans (each (λ (s : Span). s.low) pieces)
fresh_pieces [] h = refl
fresh_pieces (s ∷ ss) h = λ i. record { low = s.low; cursor = h.0 i } ∷ fresh_pieces ss h.1 i

at_most_itself : (key : Bytes) → is_le (bytes_cmp key key) ≡ true
at_most_itself key = ap is_le (tied_itself bytes_cmp_total key)

fresh_within : (low high : Bytes) (pieces : List Span) → AreJoined low high pieces → AllByRecursion (λ s. s.cursor ≡ s.low) pieces → AllByRecursion IsInPiece pieces
fresh_within low high [] j f = tt
fresh_within low high (s ∷ ss) j f = (ap (λ k. is_le (bytes_cmp k s.high)) f.0 ∙ j.1, fresh_within s.high high ss j.2 f.1)

fresh_reached : (pieces : List Span) → AllByRecursion (λ s. s.cursor ≡ s.low) pieces → AllByRecursion IsReached pieces
fresh_reached [] f = tt
fresh_reached (s ∷ ss) f = (ap (λ k. is_le (bytes_cmp s.low k)) f.0 ∙ at_most_itself s.low, fresh_reached ss f.1)

module _ (facts : Facts) (now : ℕ) (b : Progress) (later : facts.moment ≤ now) (there : element_at facts.newest b.element.number ≡ Some b.element) (wants : wanted_work b.element ≡ Some b.kind)
    (settled : state_of (used_before facts now) b.element.number ≡ b.element.state) (new : progress_of facts.progress b.element.number ≡ None) (given : AreGiven b) (kept : IsKept facts) where
  k : IsKept (at facts now)
  k = kept_later facts now later kept

  abbrev number : ℕ
  number = b.element.number

  above : 1 ≤ b.element.number
  above = (kept.sound.elements b.element.number b.element there).first

  entry : map.get (schema_of facts.newest) b.element.number ≡ Some (entry_of facts.newest b.element)
  entry = at_number facts.newest number above ∙ ap (option_map (entry_of facts.newest)) there

  is_begun : IsBegun facts.newest b
  is_begun = record { element = there; wanted_so = wants; joined = given.joined; bounds = given.bounds }

  lows : List Bytes
  lows = each (λ (x : Span). x.low) b.pieces

  begun_core : Invariant the_kinds (record (core_at (at facts now) now) { progress = map.insert (all_passed facts.progress) b.element.number (passed b) })
  unfolding lows
  begun_core =
      subst (λ spans. Invariant the_kinds (record (core_at (at facts now) now) { progress = map.insert (all_passed facts.progress) number (let c : core.CoreProgress = record { work = b.kind; spans = spans } in c) })) (sym (fresh_pieces b.pieces given.fresh))
      (begin_kept the_kinds (core_at (at facts now) now) number (entry_of facts.newest b.element) b.kind lows entry (filled_so facts.newest number b.element.table b.element.kind b.element.way b.element.state b.kind wants)
      (subst (MayRun the_kinds b.kind (Of b.element.table (source_in facts.newest b.element.kind))) (sym (state_visible (used_before facts now) number above (element_at (used_before facts now) number) refl ∙ settled)) (may_run b.element.kind (Of b.element.table (source_in facts.newest b.element.kind)) b.element.way b.element.state b.kind wants))
      (subst (MayRun the_kinds b.kind (Of b.element.table (source_in facts.newest b.element.kind))) (sym (ap state_in entry)) (may_run b.element.kind (Of b.element.table (source_in facts.newest b.element.kind)) b.element.way b.element.state b.kind wants))
      k.core_kept)

  given_in : IsInPieces b
  given_in = record { few = given.few; cursors = fresh_within _ _ b.pieces given.joined given.fresh; reached = fresh_reached b.pieces given.fresh }

  in_pieces : AreInPieces (facts.progress ++ b ∷ [])
  in_pieces n progress at = by (progress_of facts.progress n) refl (sym (find-append (is_of n) facts.progress (b ∷ [])) ∙ at)
    where
      last : (c : Bool) → cond c (Some b) None ≡ Some progress → IsInPieces progress
      last true is = subst IsInPieces (some_one is) given_in
      last false is = none_some is

      by : (o : Option Progress) → progress_of facts.progress n ≡ o → option_or o (progress_of (b ∷ []) n) ≡ Some progress → IsInPieces progress
      by (Some p) is e = k.in_pieces n progress (is ∙ e)
      by None is e = last (is_of n b) e

  pub given_kept : IsKept (record (at facts now) { progress = facts.progress ++ b ∷ [] })
  given_kept = record {
    counted = k.counted;
    valid = k.valid;
    since = k.since;
    sound = k.sound;
    sound_before = k.sound_before;
    tables = k.tables;
    core_kept = with_progress (record (core_at (at facts now) now) { progress = map.insert (all_passed facts.progress) b.element.number (passed b) }) (all_passed (facts.progress ++ b ∷ [])) (appended facts.progress b new) begun_core;
    rows = k.rows;
    rows_before = k.rows_before;
    begun = all_append (IsBegun facts.newest) facts.progress (b ∷ []) k.begun (is_begun, tt);
    different = begin_different facts.progress b new k.different;
    in_pieces = in_pieces;
  }

pub given_begins_keep : GivenBeginsKeep
given_begins_keep facts now b later may kept = given_kept facts now b later may.there may.wants may.settled may.new may.given kept
