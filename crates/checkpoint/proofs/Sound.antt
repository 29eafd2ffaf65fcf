-- A checkpoint that stands the test is whole.
use Rattle.std.specs.Prelude.{◌≡◌, ℕ, zero, suc, ◌-◌, ◌≤◌, Bool, true, false, cond, nat_lt, List, [], ◌∷◌, length, replicate, slice_get, Option, Some, None, option_map, refl}
use Rattle.std.specs.List.{AllByRecursion}
use mathlib.Core.List.{map as each}
use Rattle.std.specs.Cmp.Lexicographic.{as_long}
use Rattle.std.specs.FinMap as map
use Rattle.std.proofs.Common.{sym, ap, subst, ◌∙◌, arith}
use Rattle.std.proofs.lemmas.List.{length-replicate}
use Rattle.keycode.specs.Valid.{IsValue, IsShort, IsStorable}
use Rattle.row_map.specs.declared.shape.ColumnType.{ColumnType}
use Rattle.row_map.specs.Shape.{has_type}
use Rattle.row_map.specs.Rows.{Cells, Rows, Pairs, AreStorable}
use Rattle.schema_version.specs.declared.element.ElementDef.{ElementDef}
use Rattle.schema_version.specs.Sound.{IsSoundVersion}
use Rattle.schema_version.specs.Version.{Version, element_at}
use Rattle.element_state.specs.Consistent.{IsConsistent, DemandOf, IsLawfulRow, AreLawfulRows}
use Rattle.element_state.specs.Core.{Invariant, Meets, MeetsAll, NeverPublic, NoCell}
use Rattle.element_state.specs.Versions.{the_kinds, schema_of, entry_of}
use Rattle.element_state.proofs.Versions.{get-schema_of}
use Rattle.lease.specs.Timeline.{earliest, newest as newest_number}
use Rattle.replay.specs.Replay.{Facts, before_of, first_or}
use Rattle.replay.specs.Kept.{IsKept, core_at, used_before}
use Rattle.replay.proofs.Agree.{at_number, consistent}
use Rattle.replay.proofs.Soundness.{lawful, small}
use Rattle.checkpoint.specs.Stored.{stored_in, stored_cells, stored_rows}
use Rattle.checkpoint.specs.Checkpoint.{Checkpoint, IsWhole, older_by, said_by, checkpoint_of}
use Rattle.checkpoint.specs.Sound.{AreSoundElements, AreSoundPairs, AreSoundReorganisations, IsSound, IsCounted, SoundIsWhole, WholeIsSound, CheckpointsAreSound, before_or, beside}
use Rattle.checkpoint.proofs.Stored.{stored_get}
use Rattle.checkpoint.proofs.Columns.{AreStored}
use Rattle.checkpoint.proofs.Elements.{hidden_value}
use Rattle.checkpoint.proofs.Rows.{are_stored}
use Rattle.checkpoint.proofs.Kept.{not_stored}
use Rattle.checkpoint.proofs.Checkpoint.{checkpoints_are_whole}

-- ---- consistency, as the core sees it

meets_of : (version : Version) (P : Pairs) (R : Rows) (n : ℕ) (o : Option ElementDef) → DemandOf version n o P R → Meets the_kinds n (option_map (entry_of version) o) P R
meets_of version P R n None m = m
meets_of version P R n (Some e) m = m

meets_all : (version : Version) (P : Pairs) (R : Rows) → IsConsistent version R P → MeetsAll the_kinds (schema_of version) P R
meets_all version P R c zero = subst (λ o. Meets the_kinds 0 o P R) (sym (get-schema_of version 0)) c.exists
meets_all version P R c (suc n) = subst (λ o. Meets the_kinds (suc n) o P R) (sym (at_number version (suc n) (omega arith))) (meets_of version P R (suc n) (element_at version (suc n)) (c.elements (suc n) (omega arith)))

-- ---- rows of tables and types can be stored

length_each : {A B : Type 0} (f : A → B) (xs : List A) → length (each f xs) ≡ length xs
length_each f [] = refl
length_each f (x ∷ xs) = ap suc (length_each f xs)

all_map : {A : Type 0} (F G : A → Type 0) → ((x : A) → F x → G x) → (xs : List A) → AllByRecursion F xs → AllByRecursion G xs
all_map F G f [] all = tt
all_map F G f (x ∷ xs) all = (f x all.0, all_map F G f xs all.1)

storable : (version : Version) (R : Rows) → IsSoundVersion version → AreLawfulRows version R → AreStorable R
storable version R sound lawful_rows key cells at =
    let row : IsLawfulRow version key cells = lawful_rows key cells at in
    let t = small version sound key.0 row.table row.known in
    let same : length row.table.key ≡ length key.1 = sym (length_each (λ (column : List ℕ × ColumnType). column.1) row.table.key) ∙ as_long has_type (each (λ (column : List ℕ × ColumnType). column.1) row.table.key) key.1 row.primary.0 in
    record {
      table = t.0;
      primary = record {
        low_number = omega (arith, same, t.1);
        high_number = omega (arith, same, t.2);
        values = all_map IsStorable IsValue (λ v s. s.0) key.1 row.primary.1;
        short = all_map IsStorable IsShort (λ v s. s.1) key.1 row.primary.1;
      };
      values = λ c v has. (row.values c v has).0;
    }

-- ---- versions

get_copy : (b : Version) (k : ℕ) → 1 ≤ k → slice_get (replicate k b) 0 ≡ Some b
get_copy b zero some = absurd (omega (arith, some))
get_copy b (suc k) some = refl

-- the version before the newest is the first of the older ones
get_older : (before : Option Version) (n : ℕ) → IsCounted before n → slice_get (older_by before (n - 1)) 0 ≡ before
get_older None n counted = refl
get_older (Some b) n counted = get_copy b (n - 1) (omega (arith, counted))

first_older : (newest : Version) (before : Option Version) (n : ℕ) → IsCounted before n → first_or newest (older_by before (n - 1)) ≡ before_or newest before
first_older newest None n counted = refl
first_older newest (Some b) n counted = by (n - 1) (omega (arith, counted))
  where
    by : (k : ℕ) → 1 ≤ k → first_or newest (replicate k b) ≡ b
    by zero some = absurd (omega (arith, some))
    by (suc k) some = refl

count_older : (newest : Version) (before : Option Version) (n : ℕ) → IsCounted before n → length (newest ∷ older_by before (n - 1)) ≡ n
count_older newest None n counted = sym counted
count_older newest (Some b) n counted = ap suc (length-replicate (n - 1) b) ∙ omega (arith, counted)

is_counted : (newest : Version) (before : Option Version) (n : ℕ) → length (newest ∷ older_by before (n - 1)) ≡ n → slice_get (older_by before (n - 1)) 0 ≡ before → IsCounted before n
is_counted newest None n count first = sym count
is_counted newest (Some b) n count first = by (n - 1) refl first
  where
    by : (k : ℕ) → n - 1 ≡ k → slice_get (replicate k b) 0 ≡ Some b → 2 ≤ n
    by zero is at = absurd cc
    by (suc k) is at = omega (arith, is)

-- the version that counts beside the newest is the one that the facts have there
beside_is : (checkpoint : Checkpoint) → IsCounted checkpoint.before (newest_number checkpoint.line) → used_before (said_by checkpoint) checkpoint.moment ≡ beside checkpoint
beside_is checkpoint counted = by (nat_lt checkpoint.moment (earliest checkpoint.line))
  where
    by : (b : Bool) → cond b (before_of (said_by checkpoint)) checkpoint.newest ≡ before_or checkpoint.newest (cond b checkpoint.before None)
    by true = first_older checkpoint.newest checkpoint.before (newest_number checkpoint.line) counted
    by false = refl

-- ---- a sound checkpoint is whole

module _ (checkpoint : Checkpoint) (s : IsSound checkpoint) where
  abbrev facts : Facts
  facts = said_by checkpoint

  abbrev n : Version
  n = checkpoint.newest

  abbrev b : Version
  b = used_before facts checkpoint.moment

  abbrev P : Pairs
  P = checkpoint.pairs

  abbrev S : Rows
  S = stored_rows n P

  same : b ≡ beside checkpoint
  same = beside_is checkpoint s.versions.counted

  elements : AreSoundElements b n
  elements = subst (λ (v : Version). AreSoundElements v n) (sym same) s.elements

  pairs : AreSoundPairs b n P
  pairs = subst (λ (v : Version). AreSoundPairs v n P) (sym same) s.pairs

  reorganisations : AreSoundReorganisations b n P checkpoint.progress
  reorganisations = subst (λ (v : Version). AreSoundReorganisations v n P checkpoint.progress) (sym same) s.reorganisations

  held : AreStorable S
  held = storable n S elements.newest_sound pairs.by_newest.lawful

  stored : AreStored n P S S
  stored = are_stored n P S held pairs.by_newest.forms pairs.by_newest.exists

  bare : (c : ℕ) → NeverPublic the_kinds n.next c (map.get (schema_of n) c) → NoCell c S
  bare c never key cells at = ap (λ (y : Cells). map.get y c) (stored.from key cells at).2 ∙ by (element_at n c) refl
    where
      by : (o : Option ElementDef) → element_at n c ≡ o → map.get (stored_cells n P key) c ≡ None
      by None is = stored_get n P key c ∙ ap (stored_in P key c) is
      by (Some e) is =
          let entry : map.get (schema_of n) c ≡ Some (entry_of n e) = at_number n c (elements.newest_sound.elements c e is).first ∙ ap (option_map (entry_of n)) is in
          let new = subst (NeverPublic the_kinds n.next c) entry never in
          hidden_value n P key c e is (not_stored e new.0 new.1)

  core : Invariant the_kinds (core_at facts checkpoint.moment)
  core = record {
    held = held;
    formed = pairs.by_newest.forms;
    lawful_before = lawful b elements.before_sound;
    lawful_newest = lawful n elements.newest_sound;
    joined = elements.joined;
    before = meets_all b P S pairs.by_before;
    newest = meets_all n P S pairs.by_newest;
    reached = reorganisations.passed;
    bare = λ c never. (bare c never, elements.hidden c never);
  }

  kept : IsKept facts
  kept = record {
    counted = count_older n checkpoint.before (newest_number checkpoint.line) s.versions.counted;
    valid = s.versions.valid;
    since = s.versions.past;
    sound = elements.newest_sound;
    sound_before = elements.before_sound;
    tables = elements.tables;
    core_kept = core;
    rows = pairs.by_newest.lawful;
    rows_before = pairs.by_before.lawful;
    begun = reorganisations.are_begun;
    different = reorganisations.different;
    in_pieces = reorganisations.in_pieces;
  }

pub sound_is_whole : SoundIsWhole
sound_is_whole checkpoint s = record { kept = kept checkpoint s; before = get_older checkpoint.before (newest_number checkpoint.line) s.versions.counted }

-- ---- a whole one is sound

pub whole_is_sound : WholeIsSound
whole_is_sound checkpoint w =
    let n : Version = checkpoint.newest in
    let P : Pairs = checkpoint.pairs in
    let b : Version = used_before (said_by checkpoint) checkpoint.moment in
    let i = w.kept.core_kept in
    let counted : IsCounted checkpoint.before (newest_number checkpoint.line) = is_counted n checkpoint.before (newest_number checkpoint.line) w.kept.counted w.before in
    let same : b ≡ beside checkpoint = beside_is checkpoint counted in
    let elements : AreSoundElements b n = record { newest_sound = w.kept.sound; before_sound = w.kept.sound_before; tables = w.kept.tables; joined = i.joined; hidden = λ c never. (i.bare c never).1 } in
    let pairs : AreSoundPairs b n P = record { by_newest = consistent n (stored_rows n P) P i.newest i.formed w.kept.rows; by_before = consistent b (stored_rows n P) P i.before i.formed w.kept.rows_before } in
    let reorganisations : AreSoundReorganisations b n P checkpoint.progress = record { are_begun = w.kept.begun; different = w.kept.different; in_pieces = w.kept.in_pieces; passed = i.reached } in
    record {
      versions = record { valid = w.kept.valid; past = w.kept.since; counted = counted };
      elements = subst (λ (v : Version). AreSoundElements v n) same elements;
      pairs = subst (λ (v : Version). AreSoundPairs v n P) same pairs;
      reorganisations = subst (λ (v : Version). AreSoundReorganisations v n P checkpoint.progress) same reorganisations;
    }

pub checkpoints_are_sound : CheckpointsAreSound
checkpoints_are_sound facts place k = whole_is_sound (checkpoint_of place facts) (checkpoints_are_whole facts place k)
