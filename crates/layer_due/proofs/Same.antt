-- By whatever records of a store, the same is left.
use Rattle.std.proofs.Common.{◌≡◌, ℕ, ◌+◌, ◌*◌, cond, Option, Some, None, refl, sym, ap, ap₂, ◌∙◌, arith, filter, length, option_map, is_some, not}
use Rattle.std.specs.Prelude.{◌&&◌, List}
use Rattle.std.specs.FinMap as map
use Rattle.row_map.specs.Rows.{Bytes}
use Rattle.schema_version.specs.declared.element.ElementDef.{ElementDef}
use Rattle.schema_version.specs.declared.step.Move.{Move}
use Rattle.schema_version.specs.Edges.{wanted_work}
use Rattle.schema_version.specs.Version.{Version, live}
use Rattle.replay.specs.Kept.{IsKept}
use Rattle.replay.specs.Replay.{Facts}
use Rattle.drafts.specs.declared.newest.Newest.{Newest}
use Rattle.drafts.specs.declared.record.Record.TheVariants.{Reorg as OfReorg, Cursor as OfCursor}
use Rattle.drafts.specs.declared.record.Reorg.{Reorg}
use Rattle.drafts.specs.Mirror.{Mirrors}
use Rattle.drafts.specs.Publish.{found_in}
use Rattle.drafts.specs.Store.{Store, version_key}
use Rattle.drafts.proofs.Opens.{none_some, some_one, newest_is}
use Rattle.drafts.proofs.Pieces.{cursor_one}
use Rattle.layer_due.specs.Records.{Records, cursor_in}
use Rattle.layer_due.specs.Applies.{HasRecords}
use Rattle.layer_due.specs.Left.{sum_below, reorg_left, reads_left, steps_left, a_begin, left}
use Rattle.layer_due.specs.Lowers.{is_wanting, begins_left}
use Rattle.layer_due.proofs.ReadsLeft.{reorg_same}
use Rattle.layer_due.proofs.Sums.{sum_same, same_count}

-- ---- what the store says of its newest version

pub newest_by : (a b : Newest) → a.before ≡ b.before → a.schema ≡ b.schema → a ≡ b
newest_by a b before schema = ap₂ (λ (n : ℕ) (v : Version). let newest : Newest = record { before = n; schema = v } in newest) before schema

pub same_newest : (facts : Facts) (store : Store) (a b : Records) → IsKept facts → Mirrors facts store → HasRecords store a → HasRecords store b → a.newest ≡ b.newest
same_newest facts store a b k m one other =
    let first = newest_is facts store a.newest k m (one.newest, (one.none_after, tt)) in
    let second = newest_is facts store b.newest k m (other.newest, (other.none_after, tt)) in
    newest_by a.newest b.newest (omega (arith, first.number, second.number)) (sym first.schema ∙ second.schema)

-- ---- what it says of reorganisations and cursors

reorg_one : {r s : Reorg} → OfReorg r ≡ OfReorg s → r ≡ s
reorg_one e = cc

pub reorg_by : (o p : Option Reorg) → option_map OfReorg o ≡ option_map OfReorg p → o ≡ p
reorg_by None None e = refl
reorg_by None (Some r) e = none_some e
reorg_by (Some r) None e = none_some (sym e)
reorg_by (Some r) (Some s) e = ap Some (reorg_one (some_one e))

pub cursor_by : (o p : Option Bytes) → option_map OfCursor o ≡ option_map OfCursor p → o ≡ p
cursor_by None None e = refl
cursor_by None (Some c) e = none_some e
cursor_by (Some c) None e = none_some (sym e)
cursor_by (Some c) (Some d) e = ap Some (cursor_one (some_one e))

-- ---- what is left

module _ (keys : List Bytes) (a b : Records) (newest : a.newest ≡ b.newest) (previous : a.previous_is_open ≡ b.previous_is_open)
    (reorgs : (e : ℕ) → found_in a.reorgs e ≡ found_in b.reorgs e) (cursors : (e p : ℕ) → cursor_in a.cursors e p ≡ cursor_in b.cursors e p) where
  same_wanting : (e : ElementDef) → is_wanting a e ≡ is_wanting b e
  same_wanting e = ap (λ o. is_some (wanted_work e) && not (is_some o)) (reorgs e.number)

  same_begins : begins_left a ≡ begins_left b
  same_begins = ap (λ (n : Newest). length (filter (is_wanting a) (live n.schema))) newest ∙ same_count (is_wanting a) (is_wanting b) (live b.newest.schema) same_wanting

  same_at : (n : ℕ) → reorg_left keys a.cursors n (found_in a.reorgs n) ≡ reorg_left keys b.cursors n (found_in b.reorgs n)
  same_at n = ap (reorg_left keys a.cursors n) (reorgs n) ∙ reorg_same keys a.cursors b.cursors n (found_in b.reorgs n) (cursors n)

  same_reads : reads_left keys a ≡ reads_left keys b
  same_reads =
      ap (λ (n : Newest). sum_below (λ e. reorg_left keys a.cursors e (found_in a.reorgs e)) n.schema.next) newest
      ∙ sum_same (λ e. reorg_left keys b.cursors e (found_in b.reorgs e)) (λ e. reorg_left keys a.cursors e (found_in a.reorgs e)) b.newest.schema.next same_at

  pub same_parts : (steps : List (List Move)) → left keys a steps ≡ left keys b steps
  same_parts steps =
      ap₂ (λ (x y : ℕ). x + y)
      (ap₂ (λ (x y : ℕ). x + y) (ap (λ (n : Newest). steps_left keys n.schema steps) newest) (ap (λ (n : ℕ). n * a_begin keys) same_begins))
      (ap₂ (λ (x y : ℕ). x + y) (ap (λ t. cond t 1 0) previous) same_reads)

pub same_left : (keys : List Bytes) (facts : Facts) (store : Store) (a b : Records) → IsKept facts → Mirrors facts store → HasRecords store a → HasRecords store b → (steps : List (List Move)) → left keys a steps ≡ left keys b steps
same_left keys facts store a b k m one other steps =
    same_parts keys a b (same_newest facts store a b k m one other)
    (sym one.previous ∙ ap (λ (n : Newest). is_some (map.get store.control (version_key n.before))) (same_newest facts store a b k m one other) ∙ other.previous)
    (λ e. reorg_by (found_in a.reorgs e) (found_in b.reorgs e) (sym (one.reorgs e) ∙ other.reorgs e))
    (λ e p. cursor_by (cursor_in a.cursors e p) (cursor_in b.cursors e p) (sym (one.cursors e p) ∙ other.cursors e p)) steps
