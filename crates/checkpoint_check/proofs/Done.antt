-- What the pieces of a tested reorganisation have passed is done.
use Rattle.std.specs.Prelude.{◌≡◌, ◌≢◌, not, ℕ, ◌≤◌, ◌==◌, ◌&&◌, Bool, true, false, IsTrue, cond, List, [], ◌∷◌, Option, Some, None, Ok, option_map, refl}
use Rattle.std.specs.List.{AllByRecursion}
use Rattle.std.specs.Cmp.{Equal-is}
use Rattle.std.specs.FinMap as map
use Rattle.std.specs.FinMap.{IsAntisymmetric, nat_cmp-IsAntisymmetric}
use Rattle.std.specs.FinMap.Entries.{find}
use Rattle.std.specs.Cmp.{nat_cmp_total}
use Rattle.std.specs.Ordering.{nat_cmp, eq_by_cmp, is_lt}
use Rattle.std.specs.declared.cmp.Ordering.{Ordering}
use Rattle.std.specs.declared.cmp.Ordering.TheVariants.{Less, Equal, Greater}
use mathlib.Core.List.{map as each}
use Rattle.std.proofs.Common.{sym, ap, subst, ◌∙◌, inl, inr, true≢false, eq-eqb}
use Rattle.keycode.specs.Order.{bytes_cmp}
use Rattle.keycode.proofs.Orders.{bytes_cmp-IsAntisymmetric}
use Rattle.row_map.specs.declared.key.KeyOf.TheVariants.{Exists}
use Rattle.row_map.specs.ReadKey.{key_at}
use Rattle.row_map.specs.Rows.{Bytes, RowKey, Rows, Pairs}
use Rattle.row_map.specs.Walk.{key_range}
use Rattle.row_map.proofs.KeyLaws.{key_again}
use Rattle.row_map.proofs.KeyRanges.{find_key_range}
use Rattle.schema_version.specs.declared.element.ElementState.{ElementState}
use Rattle.schema_version.specs.declared.element.ElementState.TheVariants.{Absent, DeleteOnly, WriteOnly, Public}
use Rattle.schema_version.specs.declared.element.Kind.{Kind}
use Rattle.schema_version.specs.declared.element.Kind.TheVariants.{Index, Optional, Required}
use Rattle.schema_version.specs.declared.element.ElementDef.{ElementDef}
use Rattle.schema_version.specs.declared.element.Work.{Work}
use Rattle.schema_version.specs.declared.element.Work.TheVariants.{Fill, Clear}
use Rattle.schema_version.specs.Edges.{wanted_work, work_by}
use Rattle.schema_version.specs.Sound.{IsSoundVersion}
use Rattle.schema_version.specs.Version.{Version, element_at, state_or_absent, state_of}
use Rattle.element_state.specs.Core.{CoreProgress, InPassedSpans, Passed, MayRun, Reached}
use Rattle.element_state.specs.Elements.{Meaning, HasForm, CoveredAt, owner, owner_read, element_of}
use Rattle.element_state.specs.Exists.{row_key}
use Rattle.element_state.specs.Kinds.{kind_meaning}
use Rattle.element_state.specs.Laws.{Grows}
use Rattle.element_state.specs.Schemas as core
use Rattle.element_state.specs.Sources.{source_in}
use Rattle.element_state.specs.Tables.{within}
use Rattle.element_state.specs.Versions.{Of, the_kinds, schema_of, entry_of}
use Rattle.element_state.specs.lemmas.Apart.{none_some, some_one}
use Rattle.reorganise.specs.declared.work.Progress.{Progress}
use Rattle.reorganise.specs.declared.work.Span.{Span}
use Rattle.reorganise.specs.Laws.{passed_by}
use Rattle.replay.specs.Kept.{passed, all_passed, AreInPieces}
use Rattle.replay.specs.Replay.{progress_of}
use Rattle.replay.proofs.Agree.{at_number}
use Rattle.audit.specs.Audit.{is_absent}
use Rattle.audit.specs.Encoded.{found, key_read}
use Rattle.checkpoint.specs.Stored.{stored_rows}
use Rattle.checkpoint_check.specs.inner.Judged.{own_pair, stored_row, AreGood}
use Rattle.checkpoint_check.specs.inner.Beside.{HaveSameKinds}
use Rattle.checkpoint_check.specs.inner.Pieces.{IsReachedWithin}
use Rattle.replay.specs.Kept.{IsInPiece, IsReached}
use Rattle.checkpoint_check.specs.inner.Passed.{may_run, is_filled_by, is_cleared_by, is_passed, IsPieceDone, IsTested}
use Rattle.checkpoint_check.proofs.Consistency.{IsStoredRow, row_is, forms, there_if}

in_list : {K X : Type 0} {R : K → K → Ordering} → IsAntisymmetric R → (P : K → X → Type 0) (es : List (K × X)) → AllByRecursion (λ (e : K × X). P e.0 e.1) es → (q : K) (x : X) → find R q es ≡ Some x → P q x
in_list same P [] all q x is = absurd (none_some x is)
in_list {K = K} {R = R} same P (e ∷ es) all q x is =
    elim (eq_by_cmp R q e.0) as (λ b. eq_by_cmp R q e.0 ≡ b → cond b (Some e.1) (find R q es) ≡ Some x → P q x) [
      | true ↦ λ s f. subst (P q) (some_one e.1 x f) (subst (λ (k : K). P k e.1) (sym (same q e.0 ((Equal-is (R q e.0)).0 s))) all.0)
      | false ↦ λ s f. in_list same P es all.1 q x f
    ] refl is

is_within_from : (o p : Ordering) → o ≢ Less → p ≡ Less → (not (is_lt o) && is_lt p) ≡ true
is_within_from Less p ne is = absurd (ne refl)
is_within_from Equal p ne is = ap is_lt is
is_within_from Greater p ne is = ap is_lt is

grows : (q : ElementState) → may_run Fill q ≡ true → Grows q
grows Absent e = absurd (true≢false (sym e))
grows DeleteOnly e = absurd (true≢false (sym e))
grows WriteOnly e = tt
grows Public e = tt

grows_not : (q : ElementState) → may_run Clear q ≡ true → ¬ (Grows q)
grows_not Absent e g = g
grows_not DeleteOnly e g = g
grows_not WriteOnly e g = absurd (true≢false (sym e))
grows_not Public e g = absurd (true≢false (sym e))

pub state_is : (version : Version) (n : ℕ) → 1 ≤ n → core.state_of (map.get (schema_of version) n) ≡ state_of version n
state_is version n some = ap core.state_of (at_number version n some) ∙ by (element_at version n)
  where
    by : (o : Option ElementDef) → core.state_of (option_map (entry_of version) o) ≡ state_or_absent o
    by None = refl
    by (Some e) = refl

not_fill : (a b : Bool) → cond {A = Option Work} a None (cond b (Some Clear) None) ≡ Some Fill → ⊥
not_fill true b e = absurd cc
not_fill false true e = absurd cc
not_fill false false e = absurd cc

-- what wants a fill is filled
filled_is : (table number : ℕ) (version : Version) (e : ElementDef) → wanted_work e ≡ Some Fill → IsTrue ((within table (kind_meaning number (source_in version e.kind))).filled)
filled_is table number version e wanted = by e.kind refl
  where
    by : (k : Kind) → e.kind ≡ k → IsTrue ((within table (kind_meaning number (source_in version k))).filled)
    by (Index columns) is = refl
    by (Required type fallback) is = refl
    by (Optional type) is = absurd (not_fill _ _ (ap (λ (k : Kind). work_by k e.way e.state) (sym is) ∙ wanted))

pub opposite : (b : Bool) → not b ≡ true → b ≡ false
opposite true e = absurd (true≢false (sym e))
opposite false e = refl

module _ (before newest : Version) (sound : IsSoundVersion newest) (same : HaveSameKinds newest newest) (P : Pairs) (good : AreGood newest newest P (map.entries P)) (p : Progress) (t : IsTested before newest P p) where
  abbrev e : ElementDef
  e = p.element

  abbrev number : ℕ
  number = p.element.number

  at : element_at newest number ≡ Some e
  at = t.begun.element

  some : 1 ≤ number
  some = (sound.elements number e at).first

  abbrev S : Rows
  S = stored_rows newest P

  -- a pair in a span that was passed was tested
  in_span : (pieces : List Span) → AllByRecursion (IsPieceDone newest P e p.kind) pieces → (x w : Bytes) → InPassedSpans (passed_by pieces) x → map.get P x ≡ Some w → is_passed newest P e p.kind (x, w) ≡ true
  in_span [] done x w inside there = absurd inside
  in_span (s ∷ ss) done x w (inl here) there =
      in_list bytes_cmp-IsAntisymmetric (λ (x w : Bytes). is_passed newest P e p.kind (x, w) ≡ true) (key_range P s.low s.cursor) done.0 x w
      (find_key_range P s.low s.cursor x ∙ ap (λ b. cond b (map.get P x) None) (is_within_from (bytes_cmp x s.low) (bytes_cmp x s.cursor) here.0 here.1) ∙ there)
  in_span (s ∷ ss) done x w (inr further) there = in_span ss done.1 x w further there

  abbrev m : Meaning
  m = within e.table (kind_meaning number (source_in newest e.kind))

  covered : p.kind ≡ Fill → (l : RowKey) → InPassedSpans (passed_by p.pieces) (row_key l) → CoveredAt m P S l
  covered fill l inside r v there val =
      let s : IsStoredRow newest newest sound sound same P good l r = row_is newest newest sound sound same P good l r there in
      let tested : is_filled_by newest P e (Some (Exists l.0 l.1)) ≡ true =
      ap (is_filled_by newest P e) (sym (ap found (key_again (Exists l.0 l.1) s.form)))
      ∙ ap (λ (work : Work). is_passed newest P e work (row_key l, s.value)) (sym fill)
      ∙ in_span p.pieces t.done (row_key l) s.value inside s.there in
      there_if newest newest sound sound same P good number some e at l r v s val
      (λ home.
      sym (ap (λ b. b && is_absent P (own_pair newest e (stored_row newest P l.0 l.1))) (eq-eqb l.0 e.table home))
      ∙ opposite ((l.0 == e.table) && is_absent P (own_pair newest e (stored_row newest P l.0 l.1))) tested)

  cleared : p.kind ≡ Clear → (x : Bytes) → owner x ≡ Some number → InPassedSpans (passed_by p.pieces) x → map.get P x ≡ None
  cleared clear x own inside = by (map.get P x) refl
    where
      no_key : (w : Bytes) → map.get P x ≡ Some w → HasForm x → is_cleared_by e (key_read x) ≡ true → ⊥
      no_key w there f tested =
          let read : key_at x ≡ Ok f.key = ap key_at f.encoded ∙ key_again f.key f.form in
          let names : element_of f.key ≡ number = some_one (element_of f.key) number (ap owner_read (sym read) ∙ own) in
          let other : not (element_of f.key == number) ≡ true = ap (λ r. is_cleared_by e (found r)) (sym read) ∙ tested in
          true≢false (sym (eq-eqb (element_of f.key) number names) ∙ opposite (element_of f.key == number) other)

      by : (o : Option Bytes) → map.get P x ≡ o → map.get P x ≡ None
      by None is = is
      by (Some w) is =
          let tested : is_cleared_by e (key_read x) ≡ true = ap (λ (work : Work). is_passed newest P e work (x, w)) (sym clear) ∙ in_span p.pieces t.done x w inside is in
          absurd (no_key w is (forms newest newest sound sound same P good x w is) tested)

  runs : (version : Version) → may_run p.kind (state_of version number) ≡ true → (work : Work) → p.kind ≡ work → MayRun the_kinds work (Of e.table (source_in newest e.kind)) (core.state_of (map.get (schema_of version) number))
  runs version tested Fill is = subst Grows (sym (state_is version number some)) (grows (state_of version number) (ap (λ (work : Work). may_run work (state_of version number)) (sym is) ∙ tested))
  runs version tested Clear is = subst (λ q. ¬ (Grows q)) (sym (state_is version number some)) (grows_not (state_of version number) (ap (λ (work : Work). may_run work (state_of version number)) (sym is) ∙ tested))

  is_done : (work : Work) → p.kind ≡ work → Passed the_kinds number (Of e.table (source_in newest e.kind)) work (passed_by p.pieces) P S
  is_done Fill is = covered is
  is_done Clear is = cleared is

  pub reached : Reached the_kinds number (passed p) (schema_of before) (schema_of newest) P S
  reached = record {
    kind = Of e.table (source_in newest e.kind);
    entry = entry_of newest e;
    entry_is = at_number newest number some ∙ ap (option_map (entry_of newest)) at;
    kind_is = refl;
    filled = λ fill. filled_is e.table number newest e (t.begun.wanted_so ∙ ap Some fill);
    run_before = runs before t.runs_before p.kind refl;
    run_newest = runs newest t.runs_newest p.kind refl;
    passed = is_done p.kind refl;
  }

-- ---- all of them

record Among (T : Progress → Type 0) (n : ℕ) (c : CoreProgress) : Type 0 where
  progress : Progress
  tested : T progress
  number : progress.element.number ≡ n
  is : passed progress ≡ c

among : (T : Progress → Type 0) (ps : List Progress) → AllByRecursion T ps → (n : ℕ) (c : CoreProgress) → find nat_cmp n (each (λ (p : Progress). (p.element.number, passed p)) ps) ≡ Some c → Among T n c
among T [] all n c e = absurd (none_some c e)
among T (p ∷ ps) all n c e =
    elim (eq_by_cmp nat_cmp n p.element.number) as (λ b. eq_by_cmp nat_cmp n p.element.number ≡ b → cond b (Some (passed p)) (find nat_cmp n (each (λ (p : Progress). (p.element.number, passed p)) ps)) ≡ Some c → Among T n c) [
      | true ↦ λ s f. record { progress = p; tested = all.0; number = sym (nat_cmp-IsAntisymmetric n p.element.number ((Equal-is (nat_cmp n p.element.number)).0 s)); is = some_one (passed p) c f }
      | false ↦ λ s f. among T ps all.1 n c f
    ] refl e

pub all_reached : (before newest : Version) (sound : IsSoundVersion newest) (same : HaveSameKinds newest newest) (P : Pairs) (good : AreGood newest newest P (map.entries P)) (begun : List Progress) → AllByRecursion (IsTested before newest P) begun
    → (n : ℕ) (c : CoreProgress) → map.get (all_passed begun) n ≡ Some c → Reached the_kinds n c (schema_of before) (schema_of newest) P (stored_rows newest P)
all_reached before newest sound same P good begun tested n c e =
    let a : Among (IsTested before newest P) n c = among (IsTested before newest P) begun tested n c (sym (map.get-from_entries nat_cmp_total (each (λ (p : Progress). (p.element.number, passed p)) begun) n) ∙ e) in
    subst (λ (d : CoreProgress). Reached the_kinds n d (schema_of before) (schema_of newest) P (stored_rows newest P)) a.is
    (subst (λ (k : ℕ). Reached the_kinds k (passed a.progress) (schema_of before) (schema_of newest) P (stored_rows newest P)) a.number
    (reached before newest sound same P good a.progress a.tested))

found_of : (T : Progress → Type 0) (ps : List Progress) → AllByRecursion T ps → (number : ℕ) (p : Progress) → progress_of ps number ≡ Some p → T p
found_of T [] all n p e = absurd (none_some p e)
found_of T (q ∷ ps) all n p e =
    elim (q.element.number == n) as (λ b. cond b (Some q) (progress_of ps n) ≡ Some p → T p) [
      | true ↦ λ f. subst T (some_one q p f) all.0
      | false ↦ λ f. found_of T ps all.1 n p f
    ] e

all_of : {A : Type 0} (P Q : A → Type 0) → ((x : A) → P x → Q x) → (xs : List A) → AllByRecursion P xs → AllByRecursion Q xs
all_of P Q turn [] all = tt
all_of P Q turn (x ∷ xs) all = (turn x all.0, all_of P Q turn xs all.1)

pub all_in_pieces : (before newest : Version) (P : Pairs) (begun : List Progress) → AllByRecursion (IsTested before newest P) begun → AreInPieces begun
all_in_pieces before newest P begun tested n p found_p =
    let t : IsTested before newest P p = found_of (IsTested before newest P) begun tested n p found_p in
    record {
      few = t.within.few;
      cursors = all_of IsReachedWithin IsInPiece (λ _ r. r.within) p.pieces t.within.cursors;
      reached = all_of IsReachedWithin IsReached (λ _ r. r.reached) p.pieces t.within.cursors;
    }
