-- What a checkpoint says is alike to what its log says.
use Rattle.std.proofs.Common.{◌≡◌, ℕ, ◌-◌, zero, suc, List, [], ◌∷◌, length, Option, refl, sym, ap, subst, ◌∙◌, arith}
use Rattle.std.specs.Prelude.{replicate, slice_get, if◌then◌else◌, nat_lt, filter_map}
use Rattle.std.specs.FinMap as map
use Rattle.lease.specs.Timeline.{earliest, newest as newest_number}
use Rattle.keycode.specs.Order.{bytes_cmp}
use Rattle.row_map.specs.Rows.{Bytes}
use Rattle.schema_version.specs.Sound.{IsSoundVersion}
use Rattle.schema_version.specs.Version.{Version}
use Rattle.element_state.specs.Consistent.{AreLawfulRows}
use Rattle.element_state.specs.Core.{Invariant}
use Rattle.element_state.specs.Versions.{the_kinds, schema_of}
use Rattle.element_state.proofs.Versions.{exists_exact}
use Rattle.replay.specs.Replay.{Facts, start, first_or}
use Rattle.replay.specs.Kept.{IsKept, core_at, used_before}
use Rattle.replay.proofs.Time.{opened_kept}
use Rattle.checkpoint.specs.Stored.{row_of_pair, stored_rows}
use Rattle.checkpoint.specs.Checkpoint.{older_by, checkpoint_of, CheckpointsKeep, OpeningsAreCheckpoints, CheckpointsComeBack, CheckpointsAreWhole, OpeningsAreWhole}
use Rattle.checkpoint.proofs.Kept.{kept_so}
use Rattle.checkpoint.proofs.Rows.{are_stored}

-- ---- versions that no lease may use are forgotten

module _ (facts : Facts) (k : IsKept facts) (older : List Version) (count : length older ≡ length facts.older) (before : first_or facts.newest older ≡ first_or facts.newest facts.older) where
  abbrev that : Facts
  that = record facts { older = older }

  used : used_before that facts.moment ≡ used_before facts facts.moment
  used = ap (λ (v : Version). if nat_lt facts.moment (earliest facts.line) then v else facts.newest) before

  pub forgotten_kept : IsKept that
  forgotten_kept = record {
    counted = ap suc count ∙ k.counted;
    valid = k.valid;
    since = k.since;
    sound = k.sound;
    sound_before = subst IsSoundVersion (sym used) k.sound_before;
    tables = ap (λ (v : Version). v.tables) used ∙ k.tables;
    core_kept = subst (λ (v : Version). Invariant the_kinds (record (core_at facts facts.moment) { before = schema_of v })) (sym used) k.core_kept;
    rows = k.rows;
    rows_before = subst (λ (v : Version). AreLawfulRows v facts.rows) (sym used) k.rows_before;
    begun = k.begun;
    different = k.different;
    in_pieces = k.in_pieces;
  }

length_copies : (n : ℕ) (v : Version) → length (replicate n v) ≡ n
length_copies zero v = refl
length_copies (suc n) v = ap suc (length_copies n v)

older_count : (older : List Version) (count : ℕ) → count ≡ length older → length (older_by (slice_get older 0) count) ≡ length older
older_count [] count is = refl
older_count (v ∷ vs) count is = length_copies count v ∙ is

older_first : (newest : Version) (older : List Version) (count : ℕ) → count ≡ length older → first_or newest (older_by (slice_get older 0) count) ≡ first_or newest older
older_first newest [] count is = refl
older_first newest (v ∷ vs) count is = ap (λ (n : ℕ). first_or newest (replicate n v)) is

older_again : (older : List Version) (count : ℕ) → count ≡ length older → slice_get (older_by (slice_get older 0) count) 0 ≡ slice_get older 0
older_again [] count is = refl
older_again (v ∷ vs) count is = ap (λ (n : ℕ). slice_get (replicate n v) 0) is

counted : (facts : Facts) → IsKept facts → newest_number facts.line - 1 ≡ length facts.older
counted facts k = omega (arith, k.counted)

pub checkpoints_keep : CheckpointsKeep
checkpoints_keep facts place k =
    let n = newest_number facts.line - 1 in
    let is = counted facts k in
    let count = older_count facts.older n is in
    let before = older_first facts.newest facts.older n is in
    let f : Facts = record facts { older = older_by (slice_get facts.older 0) n } in
    record {
      same = refl;
      count = count;
      before = before;
      kept = k;
      also = kept_so f (forgotten_kept facts k f.older count before) (stored_rows facts.newest facts.pairs)
          (are_stored facts.newest facts.pairs facts.rows k.core_kept.held k.core_kept.formed (exists_exact facts.newest facts.pairs facts.rows k.core_kept.newest));
    }

pub openings_are_checkpoints : OpeningsAreCheckpoints
openings_are_checkpoints opening =
    ap (λ (es : List (Bytes × Bytes)). let f : Facts = record (start opening) { rows = map.from_entries (filter_map (row_of_pair opening.schema map.empty) es) } in f)
    (nothing (map.entries (map.empty {X = Bytes} {R = bytes_cmp})) (sym (map.len-entries (map.empty {X = Bytes} {R = bytes_cmp})) ∙ map.len-empty bytes_cmp Bytes))
  where
    nothing : (es : List (Bytes × Bytes)) → length es ≡ 0 → es ≡ []
    nothing [] is = refl
    nothing (e ∷ es) is = absurd (omega (arith, is))

pub checkpoints_come_back : CheckpointsComeBack
checkpoints_come_back facts place k =
    ap (λ (o : Option Version). record (checkpoint_of place facts) { before = o }) (older_again facts.older (newest_number facts.line - 1) (counted facts k))

pub checkpoints_are_whole : CheckpointsAreWhole
checkpoints_are_whole facts place k = record {
  kept = (checkpoints_keep facts place k).also;
  before = older_again facts.older (newest_number facts.line - 1) (counted facts k);
}

pub openings_are_whole : OpeningsAreWhole
openings_are_whole opening length sound = record { kept = subst IsKept (sym (openings_are_checkpoints opening)) (opened_kept opening length sound); before = refl }
