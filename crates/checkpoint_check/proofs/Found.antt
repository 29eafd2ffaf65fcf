-- What a sound checkpoint says of a begun reorganisation, its test finds.
use Rattle.std.specs.Prelude.{◌≡◌, ◌≢◌, not, ℕ, ◌≤◌, ◌==◌, ◌&&◌, Bool, true, false, cond, List, [], ◌∷◌, Option, Some, None, option_map, refl}
use Rattle.std.specs.List.{AllByRecursion}
use Rattle.std.specs.FinMap as map
use Rattle.std.specs.FinMap.{nat_cmp-IsAntisymmetric}
use Rattle.std.specs.FinMap.Entries.{find}
use Rattle.std.specs.Cmp.{nat_cmp_total}
use Rattle.std.specs.Ordering.{nat_cmp, is_lt}
use Rattle.std.specs.declared.cmp.Ordering.{Ordering}
use Rattle.std.specs.declared.cmp.Ordering.TheVariants.{Less, Equal, Greater}
use mathlib.Core.List.{map as each}
use Rattle.std.proofs.Common.{sym, ap, subst, ◌∙◌, inl, inr, true≢false, eq-eqb}
use Rattle.keycode.specs.Order.{bytes_cmp}
use Rattle.keycode.proofs.Orders.{bytes_cmp-IsAntisymmetric}
use Rattle.row_map.specs.declared.key.KeyOf.TheVariants.{Exists}
use Rattle.row_map.specs.Rows.{Bytes, Rows, Pairs}
use Rattle.row_map.specs.Walk.{key_range}
use Rattle.row_map.proofs.KeyLaws.{key_again}
use Rattle.row_map.proofs.KeyRanges.{find_key_range}
use Rattle.schema_version.specs.declared.element.ElementState.{ElementState}
use Rattle.schema_version.specs.declared.element.ElementState.TheVariants.{Absent, DeleteOnly, WriteOnly, Public}
use Rattle.schema_version.specs.declared.element.ElementDef.{ElementDef}
use Rattle.schema_version.specs.declared.element.Work.{Work}
use Rattle.schema_version.specs.declared.element.Work.TheVariants.{Fill, Clear}
use Rattle.schema_version.specs.Sound.{IsSoundVersion}
use Rattle.schema_version.specs.Version.{Version, state_of}
use Rattle.element_state.specs.Core.{CoreProgress, InPassedSpans, Passed, MayRun, Reached}
use Rattle.element_state.specs.Elements.{HasForm, CoveredAt, element_of}
use Rattle.element_state.specs.Exists.{row_key}
use Rattle.element_state.specs.Kinds.{kind_meaning}
use Rattle.element_state.specs.Sources.{source_in}
use Rattle.element_state.specs.Tables.{within}
use Rattle.element_state.specs.Versions.{Of, the_kinds, schema_of, entry_of}
use Rattle.element_state.specs.lemmas.Apart.{none_some, some_one}
use Rattle.reorganise.specs.declared.work.Progress.{Progress}
use Rattle.reorganise.specs.declared.work.Span.{Span}
use Rattle.reorganise.specs.Laws.{passed_by}
use Rattle.replay.specs.Kept.{passed, all_passed, AreInPieces}
use Rattle.replay.specs.Replay.{progress_of}
use Rattle.replay.proofs.Agree.{at_number}
use Rattle.audit.specs.Audit.{is_absent}
use Rattle.audit.specs.Encoded.{found, key_read}
use Rattle.checkpoint.specs.Stored.{stored_rows}
use Rattle.checkpoint_check.specs.inner.Judged.{own_pair, stored_row, AreGood}
use Rattle.checkpoint_check.specs.inner.Pieces.{IsReachedWithin}
use Rattle.replay.specs.Kept.{IsInPiece, IsReached}
use Rattle.checkpoint_check.specs.inner.Passed.{may_run, is_passed, IsPieceDone, IsTested}
use Rattle.std.specs.Prelude.{◌≢◌}
use Rattle.std.proofs.lemmas.Bool.{ne_eqb}
use Rattle.keycode.specs.declared.value.Value.{Value}
use Rattle.keycode.proofs.Orders.{bytes_cmp_total}
use Rattle.byte_map.proofs.Written.{tied, apart}
use Rattle.row_map.specs.declared.key.KeyOf.TheVariants.{Column, Index as IndexKey}
use Rattle.row_map.specs.Keys.{IsKey, key_code}
use Rattle.row_map.proofs.Entries.{each_found}
use Rattle.row_map.proofs.KeyRanges.{key_range_sorted}
use Rattle.element_state.specs.Consistent.{IsConsistent}
use Rattle.element_state.specs.Elements.{owner_named}
use Rattle.element_state.specs.Schemas.{Entry}
use Rattle.element_state.specs.Versions.{ElementKind}
use Rattle.element_state.specs.lemmas.Clears.{left_true, right_true}
use Rattle.replay.specs.Kept.{IsBegun, AreOfDifferentElements}
use Rattle.audit.specs.Meaning.{AreByteStrings}
use Rattle.checkpoint.specs.Stored.{stored_cells}
use Rattle.checkpoint.proofs.Rows.{row_at}
use Rattle.checkpoint_check.specs.inner.Judged.{pair_by}
use Rattle.checkpoint_check.proofs.Consistency.{own_is, pair_says}
use Rattle.checkpoint_check.proofs.Accepts.{all_good, not_absent}
use Rattle.checkpoint_check.proofs.Done.{state_is}
use Rattle.std.proofs.Common.{eqb-true}
use Rattle.row_map.specs.Ranges.{is_within}
use Rattle.replay.specs.Kept.{IsInPieces}
use Rattle.row_map.specs.declared.key.KeyOf.{KeyOf}
use Rattle.checkpoint_check.specs.inner.Passed.{is_passed_by}

-- ---- lists

all_both : {A : Type 0} (P Q R : A → Type 0) → ((x : A) → P x → Q x → R x) → (xs : List A) → AllByRecursion P xs → AllByRecursion Q xs → AllByRecursion R xs
all_both P Q R turn [] p q = tt
all_both P Q R turn (x ∷ xs) p q = (turn x p.0 q.0, all_both P Q R turn xs p.1 q.1)

all_map : {A : Type 0} (P Q : A → Type 0) → ((x : A) → P x → Q x) → (xs : List A) → AllByRecursion P xs → AllByRecursion Q xs
all_map P Q turn [] p = tt
all_map P Q turn (x ∷ xs) p = (turn x p.0, all_map P Q turn xs p.1)

abbrev named : Progress → ℕ × CoreProgress
named p = (p.element.number, passed p)

-- each is the one that is found by its number
record IsFound (ps : List Progress) (p : Progress) : Type 0 where
  progress : progress_of ps p.element.number ≡ Some p
  core : find nat_cmp p.element.number (each named ps) ≡ Some (passed p)

all_found_in : (ps : List Progress) → AreOfDifferentElements ps → AllByRecursion (IsFound ps) ps
all_found_in [] different = tt
all_found_in (q ∷ ps) different = (
  record {
    progress = ap (λ b. cond b (Some q) (progress_of ps q.element.number)) (eq-eqb q.element.number q.element.number refl);
    core = ap (λ b. cond b (Some (passed q)) (find nat_cmp q.element.number (each named ps))) (tied nat_cmp_total nat_cmp-IsAntisymmetric q.element.number);
  },
  all_both (λ p. p.element.number ≢ q.element.number) (IsFound ps) (IsFound (q ∷ ps)) (λ p other f. record {
    progress = ap (λ b. cond b (Some q) (progress_of ps p.element.number)) (ne_eqb q.element.number p.element.number (λ same. other (sym same))) ∙ f.progress;
    core = ap (λ b. cond b (Some (passed q)) (find nat_cmp p.element.number (each named ps))) (apart nat_cmp_total nat_cmp-IsAntisymmetric p.element.number q.element.number other) ∙ f.core;
  }) ps different.0 (all_found_in ps different.1),
)

-- ---- spans

not_less : (o : Ordering) → not (is_lt o) ≡ true → o ≢ Less
not_less Less e = absurd (true≢false (sym e))
not_less Equal e = λ is. cc
not_less Greater e = λ is. cc

less : (o : Ordering) → is_lt o ≡ true → o ≡ Less
less Less e = refl
less Equal e = absurd (true≢false (sym e))
less Greater e = absurd (true≢false (sym e))

chosen : {A : Type 0} (b : Bool) (o : Option A) (v : A) → cond b o None ≡ Some v → (b ≡ true) × (o ≡ Some v)
chosen true o v e = (refl, e)
chosen false o v e = absurd (none_some v e)

all_done : (newest : Version) (P : Pairs) (e : ElementDef) (work : Work) (pieces : List Span) → ((x w : Bytes) → InPassedSpans (passed_by pieces) x → map.get P x ≡ Some w → is_passed newest P e work (x, w) ≡ true) → AllByRecursion (IsPieceDone newest P e work) pieces
all_done newest P e work [] each_is = tt
all_done newest P e work (s ∷ ss) each_is = (
  each_found bytes_cmp bytes_cmp_total bytes_cmp-IsAntisymmetric (λ (x w : Bytes). is_passed newest P e work (x, w) ≡ true) (key_range P s.low s.cursor) (key_range_sorted P s.low s.cursor)
      (λ x w at.
      let c = chosen (is_within s.low s.cursor x) (map.get P x) w (sym (find_key_range P s.low s.cursor x) ∙ at) in
      each_is x w (inl (not_less (bytes_cmp x s.low) (left_true (not (is_lt (bytes_cmp x s.low))) (is_lt (bytes_cmp x s.cursor)) c.0), less (bytes_cmp x s.cursor) (right_true (not (is_lt (bytes_cmp x s.low))) (is_lt (bytes_cmp x s.cursor)) c.0))) c.1),
  all_done newest P e work ss (λ x w inside there. each_is x w (inr inside) there),
)

runs_from : (work : Work) (kind : ElementKind) (q : ElementState) → MayRun the_kinds work kind q → may_run work q ≡ true
runs_from Fill kind Absent r = absurd r
runs_from Fill kind DeleteOnly r = absurd r
runs_from Fill kind WriteOnly r = refl
runs_from Fill kind Public r = refl
runs_from Clear kind Absent r = refl
runs_from Clear kind DeleteOnly r = refl
runs_from Clear kind WriteOnly r = absurd (r tt)
runs_from Clear kind Public r = absurd (r tt)

module _ (before newest : Version) (sound : IsSoundVersion newest) (P : Pairs) (strings : AreByteStrings P) (agree : IsConsistent newest (stored_rows newest P) P) (p : Progress) (begun : IsBegun newest p) (r : Reached the_kinds p.element.number (passed p) (schema_of before) (schema_of newest) P (stored_rows newest P)) where
  abbrev e : ElementDef
  e = p.element

  abbrev number : ℕ
  number = p.element.number

  some : 1 ≤ number
  some = (sound.elements number e begun.element).first

  abbrev S : Rows
  S = stored_rows newest P

  abbrev kind : ElementKind
  kind = Of e.table (source_in newest e.kind)

  kind_is : r.kind ≡ kind
  kind_is = sym r.kind_is ∙ ap (λ (x : Entry ElementKind). x.kind) (some_one r.entry (entry_of newest e) (sym r.entry_is ∙ at_number newest number some ∙ ap (option_map (entry_of newest)) begun.element))

  is_done : Passed the_kinds number kind p.kind (passed_by p.pieces) P S
  is_done = subst (λ (k : ElementKind). Passed the_kinds number k p.kind (passed_by p.pieces) P S) kind_is r.passed

  good : AreGood newest newest P (map.entries P)
  good = all_good newest newest sound sound P strings agree

  filled_row : (t : ℕ) (primary : List Value) → IsKey (Exists t primary) → (w : Bytes) → map.get P (row_key (t, primary)) ≡ Some w → (e.table ≡ t → CoveredAt (within e.table (kind_meaning number (source_in newest e.kind))) P S (t, primary))
      → not ((t == e.table) && is_absent P (own_pair newest e (stored_row newest P t primary))) ≡ true
  filled_row t primary form w there covered = by (t == e.table) refl
    where
      at : map.get S (t, primary) ≡ Some (stored_cells newest P (t, primary))
      at = row_at newest P agree.forms (t, primary) form ∙ ap (option_map (λ _. stored_cells newest P (t, primary))) there

      wanted : t ≡ e.table → (x v : Bytes) → own_pair newest e (stored_row newest P t primary) ≡ Some (x, v) → map.get P x ≡ Some v
      wanted home x v pair =
          let own : pair_by (kind_meaning number (source_in newest e.kind)) (t, primary) (stored_cells newest P (t, primary)) ≡ Some (x, v) =
          ap (λ (y : ℕ). pair_by (kind_meaning number (source_in newest e.kind)) (y, primary) (stored_cells newest P (y, primary))) home
          ∙ sym (own_is newest newest sound sound (λ n d c a b. ap (λ (x : ElementDef). x.kind) (some_one d c (sym a ∙ b))) P good number some e begun.element primary)
          ∙ ap (λ (y : ℕ). own_pair newest e (stored_row newest P y primary)) (sym home)
          ∙ pair in
          let q = pair_says (kind_meaning number (source_in newest e.kind)) (t, primary) (stored_cells newest P (t, primary)) x v own in
          ap (map.get P) (sym q.0) ∙ covered (sym home) (stored_cells newest P (t, primary)) v at (ap (λ b. cond b ((kind_meaning number (source_in newest e.kind)).pair_value (t, primary) (stored_cells newest P (t, primary))) None) (eq-eqb t e.table home) ∙ q.1)

      by : (b : Bool) → (t == e.table) ≡ b → not (b && is_absent P (own_pair newest e (stored_row newest P t primary))) ≡ true
      by false is = refl
      by true is = ap not (not_absent P (own_pair newest e (stored_row newest P t primary)) (wanted (eqb-true t e.table is)))

  passed_at : (work : Work) → Passed the_kinds number kind work (passed_by p.pieces) P S → (x w : Bytes) → InPassedSpans (passed_by p.pieces) x → map.get P x ≡ Some w → is_passed newest P e work (x, w) ≡ true
  passed_at work done x w inside there =
      let f : HasForm x = agree.forms x w there in
      ap (is_passed_by newest P e work) (ap key_read f.encoded ∙ ap found (key_again f.key f.form)) ∙ by work done f.key f.form f.encoded
    where
      not_own : (n : ℕ) → (n ≡ number → ⊥) → not (n == number) ≡ true
      not_own n other = ap not (ne_eqb n number other)

      by : (work : Work) → Passed the_kinds number kind work (passed_by p.pieces) P S → (key : KeyOf) → IsKey key → x ≡ key_code key → is_passed_by newest P e work (Some key) ≡ true
      by Fill done (Column t q n) form encoded = refl
      by Fill done (IndexKey n values) form encoded = refl
      by Fill done (Exists t q) form encoded =
          filled_row t q form w (ap (map.get P) (sym encoded) ∙ there) (λ _. done (t, q) (subst (InPassedSpans (passed_by p.pieces)) encoded inside))
      by Clear done key form encoded =
          not_own (element_of key) (λ same.
          none_some w (sym (done x (owner_named number x (record { key = key; form = form; encoded = encoded; names = same })) inside) ∙ there))

  pub tested : IsInPieces p → IsTested before newest P p
  tested pieces = record {
    begun = begun;
    within = record { few = pieces.few; cursors = all_both IsInPiece IsReached IsReachedWithin (λ s a b. record { within = a; reached = b }) p.pieces pieces.cursors pieces.reached };
    runs_before = runs_from p.kind r.kind (state_of before number) (subst (MayRun the_kinds p.kind r.kind) (state_is before number some) r.run_before);
    runs_newest = runs_from p.kind r.kind (state_of newest number) (subst (MayRun the_kinds p.kind r.kind) (state_is newest number some) r.run_newest);
    done = all_done newest P e p.kind p.pieces (passed_at p.kind is_done);
  }

pub all_tested : (before newest : Version) (sound : IsSoundVersion newest) (P : Pairs) (strings : AreByteStrings P) (agree : IsConsistent newest (stored_rows newest P) P) (begun : List Progress) → AllByRecursion (IsBegun newest) begun → AreInPieces begun
    → ((n : ℕ) (c : CoreProgress) → map.get (all_passed begun) n ≡ Some c → Reached the_kinds n c (schema_of before) (schema_of newest) P (stored_rows newest P)) → AreOfDifferentElements begun → AllByRecursion (IsTested before newest P) begun
all_tested before newest sound P strings agree begun are_begun in_pieces reached different =
    all_both (IsBegun newest) (IsFound begun) (IsTested before newest P)
    (λ p b f.
    tested before newest sound P strings agree p b (reached p.element.number (passed p) (map.get-from_entries nat_cmp_total (each named begun) p.element.number ∙ f.core))
    (in_pieces p.element.number p f.progress))
    begun are_begun (all_found_in begun different)
