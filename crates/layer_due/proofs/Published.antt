-- What a step that was due leads to.
use Rattle.std.proofs.Common.{◌≡◌, ◌≢◌, ℕ, ◌+◌, ◌*◌, ◌≤◌, Bool, true, false, cond, List, [], ◌∷◌, Option, Some, None, refl, sym, ap, subst, ◌∙◌, arith, option_map, is_some, not}
use Rattle.std.proofs.lemmas.Nat.{mul-le}
use Rattle.std.specs.List.{AllByRecursion}
use Rattle.std.specs.FinMap as map
use Rattle.byte_map.specs.Writes.{written_all}
use Rattle.lease.specs.Timeline.{newest as newest_number}
use Rattle.row_map.specs.Rows.{Bytes}
use Rattle.schema_version.specs.declared.element.ElementDef.{ElementDef}
use Rattle.schema_version.specs.declared.step.Move.{Move}
use Rattle.schema_version.specs.Edges.{wanted_work}
use Rattle.schema_version.specs.Moves.{after_step, moves_element}
use Rattle.schema_version.specs.Version.{Version, live}
use Rattle.reorganise.proofs.Order.{and_true}
use Rattle.replay.specs.Kept.{IsKept}
use Rattle.replay.specs.Replay.{Facts}
use Rattle.drafts.specs.declared.newest.Newest.{Newest}
use Rattle.drafts.specs.declared.record.Record.TheVariants.{Version as OfVersion, Reorg as OfReorg}
use Rattle.drafts.specs.declared.record.Reorg.{Reorg}
use Rattle.drafts.specs.Calls.{Publication, newest_reads, publish_draft, step_reads, step_writes}
use Rattle.drafts.specs.Mirror.{Mirrors}
use Rattle.drafts.specs.Publish.{found_in}
use Rattle.drafts.specs.Store.{Store, Control, IsThere, MayApply, applied, version_key, reorg_key, cursor_key}
use Rattle.drafts.proofs.Opens.{newest_is, open_none, read_none}
use Rattle.drafts.proofs.Records.{put_here, put_apart, apart, other_kind, other_number, one_zero, two_zero}
use Rattle.drafts.proofs.StepRecords.{split, untouched, goes, step_gone, reorg_goes, no_version, not_moved}
use Rattle.layer_due.specs.Records.{Records, cursor_in}
use Rattle.layer_due.specs.Applies.{HasRecords}
use Rattle.layer_due.specs.Course.{ArePlanned, after_steps}
use Rattle.layer_due.specs.Left.{reorg_left, reads_left, a_begin, wanting_in, steps_left}
use Rattle.layer_due.specs.Lowers.{is_wanting, begins_left}
use Rattle.layer_due.proofs.Leads.{Leads, read_newest, is_given}
use Rattle.layer_due.proofs.Lowered.{no_more}
use Rattle.layer_due.proofs.ReadsLeft.{reorg_same}
use Rattle.layer_due.proofs.Same.{reorg_by, cursor_by}
use Rattle.layer_due.proofs.Sums.{sum_least, sum_within}

publish_sum : (s t b v p q r u c : ℕ) → t ≡ s → b ≤ v → p ≤ 1 → r ≤ u → 1 + ((t + b) + (p + r)) ≤ (((2 + v) + s) + c) + (q + u)
publish_sum s t b v p q r u c same begins one reads = omega (arith, same, begins, one, reads)

at_most_one : (b : Bool) → cond b 1 0 ≤ 1
at_most_one true = omega arith
at_most_one false = omega arith

module _ (keys : List Bytes) (facts : Facts) (store : Store) (old : Records) (steps : List (List Move)) (k : IsKept facts) (m : Mirrors facts store) (has : HasRecords store old)
    (p : Publication) (applies : MayApply (publish_draft p) store) where
  parts : AllByRecursion (IsThere store.control) (newest_reads p.newest) × AllByRecursion (IsThere store.control) (step_reads p.found p.step)
  parts = split (IsThere store.control) (newest_reads p.newest) (step_reads p.found p.step) applies.control

  same : p.newest ≡ old.newest
  same = read_newest keys facts store old steps k m has p.newest parts.0

  number : p.newest.before + 1 ≡ newest_number facts.line
  number = (newest_is facts store p.newest k m parts.0).number

  abbrev before : ℕ
  before = p.newest.before

  abbrev given : Version
  given = after_step p.newest.schema p.step

  abbrev c1 : Control
  c1 = map.insert store.control (version_key (before + 2)) (OfVersion given)

  abbrev c2 : Control
  c2 = map.remove c1 (version_key before)

  abbrev c3 : Control
  c3 = written_all c2 (step_writes p.found p.step)

  -- ---- the records

  apart_kind : (kind : ℕ) (rest : List ℕ) → kind ≢ 0 → map.get c2 (kind ∷ rest) ≡ map.get store.control (kind ∷ rest)
  apart_kind kind rest ne = apart c1 (version_key before) (kind ∷ rest) None (other_kind kind 0 _ _ ne) ∙ put_apart store.control (version_key (before + 2)) (kind ∷ rest) (OfVersion given) (other_kind kind 0 _ _ ne)

  gone : (e : ℕ) → moves_element p.step e ≡ true → map.get c3 (reorg_key e) ≡ None
  gone e moves = goes (step_writes p.found p.step) c2 (reorg_key e) (step_gone p.found p.step) (reorg_goes p.found p.step e moves)

  reorg_stays : (e : ℕ) → moves_element p.step e ≡ false → map.get c3 (reorg_key e) ≡ map.get store.control (reorg_key e)
  reorg_stays e still = untouched (step_writes p.found p.step) c2 (reorg_key e) (not_moved p.found p.step 1 e [] still) ∙ apart_kind 1 (e ∷ []) one_zero

  cursor_stays : (e j : ℕ) → moves_element p.step e ≡ false → map.get c3 (cursor_key e j) ≡ map.get store.control (cursor_key e j)
  cursor_stays e j still = untouched (step_writes p.found p.step) c2 (cursor_key e j) (not_moved p.found p.step 2 e (j ∷ []) still) ∙ apart_kind 2 (e ∷ j ∷ []) two_zero

  version_there : (v : ℕ) → v ≡ before + 2 → map.get c3 (version_key v) ≡ Some (OfVersion given)
  version_there v is = subst (λ (x : ℕ). map.get c3 (version_key x) ≡ Some (OfVersion given)) (sym is) (
      untouched (step_writes p.found p.step) c2 (version_key (before + 2)) (no_version p.found p.step (before + 2))
      ∙ apart c1 (version_key before) (version_key (before + 2)) None (other_number 0 (before + 2) before (λ e. absurd (omega (arith, e))))
      ∙ put_here store.control (version_key (before + 2)) (OfVersion given)
      )

  none_after : (v : ℕ) → v ≡ before + 3 → map.get c3 (version_key v) ≡ None
  none_after v is =
      untouched (step_writes p.found p.step) c2 (version_key v) (no_version p.found p.step v)
      ∙ apart c1 (version_key before) (version_key v) None (other_number 0 v before (λ e. absurd (omega (arith, e, is))))
      ∙ put_apart store.control (version_key (before + 2)) (version_key v) (OfVersion given) (other_number 0 v (before + 2) (λ e. absurd (omega (arith, e, is))))
      ∙ m.versions v
      ∙ ap (option_map OfVersion) (open_none facts v (λ e. absurd (omega (arith, e, is, number))) (λ e. absurd (omega (arith, e, is, number))))

  module _ (next : Facts) (new : Records) (next_kept : IsKept next) (next_mirrors : Mirrors next (applied (publish_draft p) store)) (new_has : HasRecords (applied (publish_draft p) store) new) where
    schema_is : new.newest.schema ≡ after_step old.newest.schema p.step
    schema_is =
        let first = newest_is next (applied (publish_draft p) store) new.newest next_kept next_mirrors (new_has.newest, (new_has.none_after, tt)) in
        let second = newest_is next (applied (publish_draft p) store) (record { before = before + 1; schema = given }) next_kept next_mirrors
        (version_there (before + 1 + 1) (omega arith), (none_after (before + 1 + 2) (omega arith), tt)) in
        sym first.schema ∙ second.schema ∙ ap (λ (n : Newest). after_step n.schema p.step) same

    -- ---- what is left

    abbrev before_at : ℕ → ℕ
    before_at n = reorg_left keys old.cursors n (found_in old.reorgs n)

    abbrev after_at : ℕ → ℕ
    after_at n = reorg_left keys new.cursors n (found_in new.reorgs n)

    each_stays : (n : ℕ) → after_at n ≤ before_at n
    each_stays n = by (moves_element p.step n) refl
      where
        by : (b : Bool) → moves_element p.step n ≡ b → after_at n ≤ before_at n
        by true moves =
            let none : after_at n ≡ 0 = ap (reorg_left keys new.cursors n) (read_none OfReorg (found_in new.reorgs n) (sym (new_has.reorgs n) ∙ gone n moves)) in
            omega (arith, none)
        by false still =
            let same_at : after_at n ≡ before_at n =
            ap (reorg_left keys new.cursors n) (reorg_by (found_in new.reorgs n) (found_in old.reorgs n) (sym (new_has.reorgs n) ∙ reorg_stays n still ∙ has.reorgs n))
            ∙ reorg_same keys new.cursors old.cursors n (found_in old.reorgs n) (λ j. cursor_by (cursor_in new.cursors n j) (cursor_in old.cursors n j) (sym (new_has.cursors n j) ∙ cursor_stays n j still ∙ has.cursors n j)) in
            omega (arith, same_at)

    none_beyond : (n : ℕ) → old.newest.schema.next ≤ n → before_at n ≡ 0
    none_beyond n beyond = by (found_in old.reorgs n) refl
      where
        by : (o : Option Reorg) → found_in old.reorgs n ≡ o → before_at n ≡ 0
        by None is = ap (reorg_left keys old.cursors n) is
        by (Some reorg) is = let below = is_given keys facts store old steps k m has n reorg is in absurd (omega (arith, below, beyond))

    reads : reads_left keys new ≤ reads_left keys old
    reads =
        let least = sum_least before_at after_at new.newest.schema.next (λ n lt. each_stays n) in
        let within = sum_within before_at new.newest.schema.next old.newest.schema.next none_beyond in
        omega (arith, least, within)

    begins : begins_left new ≤ wanting_in (after_step old.newest.schema p.step)
    begins =
        subst (λ (v : Version). begins_left new ≤ wanting_in v) schema_is
        (no_more (is_wanting new) (λ (e : ElementDef). is_some (wanted_work e)) (λ e is. (and_true (is_some (wanted_work e)) (not (is_some (found_in new.reorgs e.number))) is).0) (live new.newest.schema))

    leads : (more : List (List Move)) → Leads keys 1 old (p.step ∷ more) more new
    leads more = record {
      lower = publish_sum (steps_left keys (after_step old.newest.schema p.step) more) (steps_left keys new.newest.schema more) (begins_left new * a_begin keys)
          (wanting_in (after_step old.newest.schema p.step) * a_begin keys) (cond new.previous_is_open 1 0) (cond old.previous_is_open 1 0) (reads_left keys new) (reads_left keys old) (begins_left old * a_begin keys)
          (ap (λ (v : Version). steps_left keys v more) schema_is) (mul-le (begins_left new) (a_begin keys) (wanting_in (after_step old.newest.schema p.step)) (a_begin keys) begins (omega arith))
          (at_most_one new.previous_is_open) reads;
      planned = λ planned. subst (λ (v : Version). ArePlanned v more) (sym schema_is) planned.1;
      target = ap (λ (v : Version). after_steps v more) schema_is;
    }

    pub publish_leads : (more : List (List Move)) → steps ≡ p.step ∷ more → Leads keys 1 old steps more new
    publish_leads more is = subst (λ (s : List (List Move)). Leads keys 1 old s more new) (sym is) (leads more)
