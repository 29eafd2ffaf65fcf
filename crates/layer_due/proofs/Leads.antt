-- What an act that was due leads to: less is left, and what is left of the plan is one of the version that is then the newest.
use Rattle.std.proofs.Common.{◌≡◌, ◌≢◌, ℕ, ◌+◌, ◌*◌, ◌<◌, ◌≤◌, ◌==◌, ◌&&◌, inl, inr, Bool, true, false, cond, List, [], ◌∷◌, Option, Some, None, refl, sym, ap, subst, ◌∙◌, arith, eq-eqb, ne_eqb, length, option_map, is_some}
use Rattle.std.proofs.lemmas.List.{length-map}
use Rattle.std.proofs.lemmas.Nat.{row_fits}
use Rattle.std.specs.List.{find, AllByRecursion}
use Rattle.row_map.specs.Rows.{Bytes}
use Rattle.schema_version.specs.declared.step.Move.{Move}
use Rattle.reorganise.specs.declared.work.Span.{Span}
use Rattle.replay.specs.Kept.{IsKept}
use Rattle.replay.specs.Replay.{Facts}
use Rattle.drafts.specs.declared.newest.Newest.{Newest}
use Rattle.drafts.specs.declared.record.Record.TheVariants.{Mark as OfMark}
use Rattle.drafts.specs.declared.record.Reorg.{Reorg}
use Rattle.drafts.specs.Calls.{Beginning, Division, Working, IsBeginning, IsDivision, IsWorking, newest_reads, reorg_of, reorg_worked, begin_draft, close_draft, divide_draft, piece_draft, txn_draft}
use Rattle.drafts.specs.Mirror.{Mirrors}
use Rattle.drafts.specs.Publish.{found_in}
use Rattle.drafts.specs.Store.{Store, IsThere, MayApply, applied, version_key, reorg_key, cursor_key, mark_key}
use Rattle.drafts.proofs.Opens.{newest_is}
use Rattle.drafts.proofs.Records.{put_apart, other_kind, zero_three, one_three, two_three}
use Rattle.row_write.specs.Made.{PreparedTxn}
use Rattle.layer_due.specs.Records.{Records, Cursor, cursor_in, is_at, is_of, open_in}
use Rattle.layer_due.specs.Due.{IsDue}
use Rattle.layer_due.specs.Applies.{HasRecords, IsReadFrom}
use Rattle.layer_due.specs.Course.{ArePlanned, after_steps, IsFarEnough}
use Rattle.layer_due.specs.Left.{piece_left, reorg_left, reads_left, steps_left, a_begin, left}
use Rattle.layer_due.specs.Lowers.{begins_left, begun, closed, divided, started, worked}
use Rattle.layer_due.specs.declared.act.Act.TheVariants as act
use Rattle.layer_due.proofs.Lowered.{dues_lower, whole}
use Rattle.layer_due.proofs.Onward.{begun_reorg, newest}
use Rattle.layer_due.proofs.ReadsLeft.{piece_ends, piece_passes, pieces_fall, reorg_same, reorg_few, first_is_open}
use Rattle.layer_due.proofs.Same.{same_newest, newest_by, reorg_by, cursor_by, same_left}
use Rattle.layer_due.proofs.Sums.{sum_more, sum_less}

-- so many acts, or none, lead from the old records with these steps to the new ones with what is left of the steps
pub record Leads (keys : List Bytes) (acts : ℕ) (old : Records) (steps more : List (List Move)) (new : Records) : Type 0 where
  pub lower : acts + left keys new more ≤ left keys old steps
  pub planned : ArePlanned old.newest.schema steps → ArePlanned new.newest.schema more
  pub target : after_steps new.newest.schema more ≡ after_steps old.newest.schema steps

-- ---- sums

close_sum : (x r : ℕ) (b : Bool) → b ≡ true → 1 + (x + (0 + r)) ≤ x + (cond b 1 0 + r)
close_sum x r b is = subst (λ (c : Bool). 1 + (x + (0 + r)) ≤ x + (cond c 1 0 + r)) (sym is) (omega arith)

begin_sum : (s b old p r q k : ℕ) → b + (1 + k) ≤ old → r ≤ q + k → 1 + ((s + b) + (p + r)) ≤ (s + old) + (p + q)
begin_sum s b old p r q k fewer more = omega (arith, fewer, more)

work_sum : (x p r q : ℕ) → r < q → 1 + (x + (p + r)) ≤ x + (p + q)
work_sum x p r q less = omega (arith, less)

-- ---- cursors of others

other_element : (c : Cursor) (cursors : List Cursor) (e p : ℕ) → e ≢ c.element → cursor_in (c ∷ cursors) e p ≡ cursor_in cursors e p
other_element c cursors e p ne = ap (λ b. option_map (λ (x : Cursor). x.key) (cond (b && (c.piece == p)) (Some c) (find (is_of e p) cursors))) (ne_eqb c.element e (λ u. ne (sym u)))

other_piece : (c : Cursor) (cursors : List Cursor) (e p : ℕ) → p ≢ c.piece → cursor_in (c ∷ cursors) e p ≡ cursor_in cursors e p
other_piece c cursors e p ne =
    ap (λ b. option_map (λ (x : Cursor). x.key) (cond ((c.element == e) && b) (Some c) (find (is_of e p) cursors))) (ne_eqb c.piece p (λ u. ne (sym u)))
    ∙ by (c.element == e)
  where
    by : (b : Bool) → option_map (λ (x : Cursor). x.key) (cond (b && false) (Some c) (find (is_of e p) cursors)) ≡ cursor_in cursors e p
    by true = refl
    by false = refl

started_other : (cursors : List Cursor) (n k : ℕ) (spans : List Span) (e p : ℕ) → e ≢ n → cursor_in (started n k spans cursors) e p ≡ cursor_in cursors e p
started_other cursors n k [] e p ne = refl
started_other cursors n k (s ∷ ss) e p ne =
    started_other (record { element = n; piece = k; key = s.cursor } ∷ cursors) n (k + 1) ss e p ne
    ∙ other_element (record { element = n; piece = k; key = s.cursor }) cursors e p ne

-- ---- the acts that leave the version

module _ (keys : List Bytes) (facts : Facts) (store : Store) (old : Records) (steps : List (List Move)) (k : IsKept facts) (m : Mirrors facts store) (has : HasRecords store old) where
  -- the newest version is the one that a draft was made for
  pub read_newest : (n : Newest) → AllByRecursion (IsThere store.control) (newest_reads n) → n ≡ old.newest
  read_newest n there =
      let first = newest_is facts store n k m there in
      let second = newest_is facts store old.newest k m (has.newest, (has.none_after, tt)) in
      newest_by n old.newest (omega (arith, first.number, second.number)) (sym first.schema ∙ second.schema)

  -- an element with a reorganisation has a number that was given
  pub is_given : (number : ℕ) (reorg : Reorg) → found_in old.reorgs number ≡ Some reorg → number < old.newest.schema.next
  is_given number reorg is =
      let b = begun_reorg facts store old k m has number reorg is in
      let below = (k.sound.elements b.progress.element.number b.progress.element b.begun.element).given in
      omega (arith, below, b.number_is, ap (λ v. v.next) (newest facts store old k m has))

  -- records that the store has after these acts, for the same version and with less left
  pub record Makes (acts : ℕ) (then : Store) : Type 0 where
    pub made : Records
    pub made_has : HasRecords then made
    pub newest_is : made.newest ≡ old.newest
    pub less : acts + left keys made steps ≤ left keys old steps

  -- so it is by all others that it has
  pub stays : (acts : ℕ) (next : Facts) (then : Store) (new : Records) → IsKept next → Mirrors next then → HasRecords then new → Makes acts then → Leads keys acts old steps steps new
  stays acts next then new next_kept next_mirrors new_has makes =
      let same : old.newest ≡ new.newest = sym makes.newest_is ∙ same_newest next then makes.made new next_kept next_mirrors makes.made_has new_has in
      record {
        lower = subst (λ (n : ℕ). acts + n ≤ left keys old steps) (same_left keys next then makes.made new next_kept next_mirrors makes.made_has new_has steps) makes.less;
        planned = subst (λ (n : Newest). ArePlanned n.schema steps) same;
        target = ap (λ (n : Newest). after_steps n.schema steps) (sym same);
      }

  -- ---- a transaction

  txn_has : (txn : PreparedTxn) (mark : Option Bytes) → HasRecords (applied (txn_draft txn mark) store) old
  txn_has txn None = record { newest = has.newest; none_after = has.none_after; previous = has.previous; reorgs = has.reorgs; cursors = has.cursors }
  txn_has txn (Some name) = record {
    newest = put_apart store.control (mark_key name) _ OfMark (other_kind 0 3 _ _ zero_three) ∙ has.newest;
    none_after = put_apart store.control (mark_key name) _ OfMark (other_kind 0 3 _ _ zero_three) ∙ has.none_after;
    previous = ap is_some (put_apart store.control (mark_key name) (version_key old.newest.before) OfMark (other_kind 0 3 _ _ zero_three)) ∙ has.previous;
    reorgs = λ e. put_apart store.control (mark_key name) (reorg_key e) OfMark (other_kind 1 3 _ _ one_three) ∙ has.reorgs e;
    cursors = λ e p. put_apart store.control (mark_key name) (cursor_key e p) OfMark (other_kind 2 3 _ _ two_three) ∙ has.cursors e p;
  }

  pub txn_makes : (txn : PreparedTxn) (mark : Option Bytes) → Makes 0 (applied (txn_draft txn mark) store)
  txn_makes txn mark = record { made = old; made_has = txn_has txn mark; newest_is = refl; less = omega arith }

  -- ---- a close

  pub close_makes : (n : Newest) → MayApply (close_draft n) store → IsDue old steps act.Close → Makes 1 (applied (close_draft n) store)
  close_makes n applies due = record {
    made = closed old;
    made_has = subst (λ (x : Newest). HasRecords (applied (close_draft x) store) (closed old)) (sym (read_newest n applies.control)) ((dues_lower store old steps act.Close has due).0);
    newest_is = refl;
    less = close_sum (steps_left keys old.newest.schema steps + begins_left old * a_begin keys) (reads_left keys old) old.previous_is_open due.1;
  }

  -- ---- a begin

  module _ (d : Division) (few : length d.progress.pieces ≤ 64) (new : found_in old.reorgs d.progress.element.number ≡ None) where
    abbrev number : ℕ
    number = d.progress.element.number

    abbrev before_at : ℕ → ℕ
    before_at n = reorg_left keys old.cursors n (found_in old.reorgs n)

    abbrev after_at : ℕ → ℕ
    after_at n = reorg_left keys (divided old d).cursors n (found_in (divided old d).reorgs n)

    others_stay : (n : ℕ) → n ≢ number → after_at n ≤ before_at n
    others_stay n ne =
        let same : after_at n ≡ before_at n =
        ap (λ b. reorg_left keys (divided old d).cursors n (cond b (Some (reorg_of d.progress)) (found_in old.reorgs n))) (ne_eqb number n (λ s. ne (sym s)))
        ∙ reorg_same keys (divided old d).cursors old.cursors n (found_in old.reorgs n) (λ p. started_other old.cursors number 0 d.progress.pieces n p ne) in
        omega (arith, same)

    own_few : after_at number ≤ before_at number + 64 * (1 + length keys)
    own_few =
        let is : after_at number ≡ reorg_left keys (divided old d).cursors number (Some (reorg_of d.progress)) =
        ap (λ b. reorg_left keys (divided old d).cursors number (cond b (Some (reorg_of d.progress)) (found_in old.reorgs number))) (eq-eqb number number refl) in
        let bounds : length (reorg_of d.progress).bounds ≤ 64 = (let same : length (reorg_of d.progress).bounds ≡ length d.progress.pieces = length-map {B = Bytes × Bytes} d.progress.pieces (λ (piece : Span). (piece.low, piece.high)) in omega (arith, same, few)) in
        let most = reorg_few keys (divided old d).cursors number (reorg_of d.progress) bounds in
        omega (arith, is, most)

    pub divide_less : begins_left (divided old d) < begins_left old → 1 + left keys (divided old d) steps ≤ left keys old steps
    divide_less fewer =
        let begins = row_fits (begins_left (divided old d)) (a_begin keys) (begins_left old) (a_begin keys) fewer (omega arith) in
        let reads = sum_more before_at after_at old.newest.schema.next number (64 * (1 + length keys)) others_stay own_few in
        begin_sum (steps_left keys old.newest.schema steps) (begins_left (divided old d) * a_begin keys) (begins_left old * a_begin keys) (cond old.previous_is_open 1 0)
        (reads_left keys (divided old d)) (reads_left keys old) (64 * (1 + length keys)) (omega (arith, begins)) reads

  pub divide_makes : (d : Division) → IsDivision d → MayApply (divide_draft d) store → IsDue old steps (act.Begin d.progress.element.number) → Makes 1 (applied (divide_draft d) store)
  divide_makes d made applies due =
      let same = read_newest d.newest (applies.control.0, (applies.control.1.0, tt)) in
      let low = (dues_lower store old steps (act.Begin d.progress.element.number) has due).1 d same refl made in
      record { made = divided old d; made_has = low.0; newest_is = refl; less = divide_less d made.given.few due.0.new low.1 }

  pub begin_makes : (b : Beginning) → IsBeginning b → MayApply (begin_draft b) store → IsDue old steps (act.Begin b.element.number) → Makes 1 (applied (begin_draft b) store)
  begin_makes b made applies due =
      let same = read_newest b.newest (applies.control.0, (applies.control.1.0, tt)) in
      let low = (dues_lower store old steps (act.Begin b.element.number) has due).0 b same refl made in
      record { made = begun old b; made_has = low.0; newest_is = refl; less = divide_less (whole b) (omega arith) due.0.new low.1 }

  -- ---- a piece

  module _ (w : Working) (made : IsWorking w) (applies : MayApply (piece_draft w) store) (due : IsDue old steps (act.Work w.read.element.number w.read.piece)) (far : IsFarEnough keys w.read) where
    abbrev worked_at : ℕ
    worked_at = w.read.element.number

    abbrev moved : Cursor
    moved = record { element = w.read.element.number; piece = w.read.piece; key = w.read.key_range.high }

    from : IsReadFrom old worked_at w.read.piece w.read w.bounds
    from = record {
      number_is = refl;
      piece_is = refl;
      reorg = reorg_by (found_in old.reorgs worked_at) (Some (reorg_worked w)) (sym (has.reorgs worked_at) ∙ applies.control.0);
      cursor = cursor_by (cursor_in old.cursors worked_at w.read.piece) (Some w.read.key_range.low) (sym (has.cursors worked_at w.read.piece) ∙ applies.control.1.0);
    }

    was_open : is_at (Some w.read.key_range.low) w.read.high ≡ false
    was_open =
        subst (λ o. is_at o w.read.high ≡ false) from.cursor
        (first_is_open old.cursors worked_at 0 w.read.piece w.read.piece w.bounds (w.read.low, w.read.high) (ap (open_in old.cursors worked_at) (sym from.reorg) ∙ due.2) (omega arith) made.bounds)

    comes_on : piece_left keys (Some w.read.key_range.high) w.read.high < piece_left keys (Some w.read.key_range.low) w.read.high
    comes_on = elim far [
      | inl ends ↦ subst (λ (to : Bytes). piece_left keys (Some to) w.read.high < piece_left keys (Some w.read.key_range.low) w.read.high) (sym ends) (piece_ends keys (Some w.read.key_range.low) w.read.high was_open)
      | inr passes ↦ piece_passes keys w.read.key_range.low w.read.key_range.high w.read.high passes.0 was_open made.read_so.comes.onward passes.1 passes.2 passes.3
    ]

    lowered : HasRecords (applied (piece_draft w) store) (worked old w.read) × (cursor_in (worked old w.read).cursors worked_at w.read.piece ≡ Some w.read.key_range.high)
    lowered = let low = dues_lower store old steps (act.Work worked_at w.read.piece) has due w.read w.bounds from in (low.0, low.2)

    piece_falls : piece_left keys (cursor_in (moved ∷ old.cursors) worked_at w.read.piece) w.read.high < piece_left keys (cursor_in old.cursors worked_at w.read.piece) w.read.high
    piece_falls =
        subst (λ o. piece_left keys o w.read.high < piece_left keys (cursor_in old.cursors worked_at w.read.piece) w.read.high) (sym lowered.1)
        (subst (λ o. piece_left keys (Some w.read.key_range.high) w.read.high < piece_left keys o w.read.high) (sym from.cursor) comes_on)

    reorg_falls : reorg_left keys (moved ∷ old.cursors) worked_at (found_in old.reorgs worked_at) < reorg_left keys old.cursors worked_at (found_in old.reorgs worked_at)
    reorg_falls =
        subst (λ o. reorg_left keys (moved ∷ old.cursors) worked_at o < reorg_left keys old.cursors worked_at o) (sym from.reorg)
        (pieces_fall keys (moved ∷ old.cursors) old.cursors worked_at 0 w.read.piece w.read.piece w.bounds (w.read.low, w.read.high) (omega arith) made.bounds
        (λ p ne. other_piece moved old.cursors worked_at p ne) piece_falls)

    pub piece_makes : Makes 1 (applied (piece_draft w) store)
    piece_makes = record {
      made = worked old w.read;
      made_has = lowered.0;
      newest_is = refl;
      less = work_sum (steps_left keys old.newest.schema steps + begins_left old * a_begin keys) (cond old.previous_is_open 1 0) (reads_left keys (worked old w.read)) (reads_left keys old)
          (sum_less (λ n. reorg_left keys old.cursors n (found_in old.reorgs n)) (λ n. reorg_left keys (moved ∷ old.cursors) n (found_in old.reorgs n)) old.newest.schema.next worked_at
          (λ n ne. let same = reorg_same keys (moved ∷ old.cursors) old.cursors n (found_in old.reorgs n) (λ p. other_element moved old.cursors n p ne) in omega (arith, same))
          (is_given worked_at (reorg_worked w) from.reorg) reorg_falls);
    }
