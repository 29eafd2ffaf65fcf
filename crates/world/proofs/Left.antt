-- The items that are left of a begun reorganisation are the pairs with an empty value that are left
-- in its pieces, and no more than all pairs.
use Rattle.std.proofs.Common.{◌≡◌, ℕ, ◌+◌, ◌≤◌, Bool, true, false, cond, List, [], ◌∷◌, length, Option, Some, None, refl, sym, ap, subst, ◌∙◌, arith}
use Rattle.std.specs.List.{AllByRecursion}
use Rattle.std.specs.FinMap as map
use Rattle.std.proofs.lemmas.List.{length-append}
use Rattle.std.proofs.lemmas.List.Elements.{filter_map-append}
use Rattle.byte_map.specs.Walk.{within}
use Rattle.row_map.specs.Rows.{Bytes, Pairs}
use Rattle.row_map.specs.Ranges.{is_within}
use Rattle.row_map.specs.Walk.{empty_key, empties, key_range}
use Rattle.schema_version.specs.declared.element.ElementDef.{ElementDef}
use Rattle.schema_version.specs.declared.element.Work.{Work}
use Rattle.reorganise.specs.declared.work.Span.{Span}
use Rattle.reorganise.specs.declared.work.Progress.{Progress}
use Rattle.reorganise.specs.ScanRanges.{scan_range_of, start, end, items, ItemsAreEmpty}
use Rattle.reorganise.specs.Partition.{AreJoined}
use Rattle.reorganise.specs.Left.{left_in, items_left}
use Rattle.reorganise.proofs.EmptyValues.{items_between}
use Rattle.reorganise.proofs.Items.{Pair}
use Rattle.reorganise.proofs.Order.{le, le_trans, le_itself, join}
use Rattle.reorganise.proofs.Shares.{joined_le}
use Rattle.replay.specs.Replay.{Facts, progress_of}
use Rattle.replay.specs.Kept.{IsInPiece, IsReached, IsBegun, IsKept}
use Rattle.replay.proofs.Begun.{found}
use Rattle.replay.proofs.Standing.{lemma_items_stand}
use Rattle.world.specs.declared.world.World.TheInside.{Inside}
use Rattle.world.specs.Inside.{state_of, IsHeld}
use Rattle.world.specs.State.{State, facts_of}
use Rattle.world.specs.inner.Left.{empties_left, empties_in}
use Rattle.world.proofs.Invariant.{follow_of, kept_of, replayed}

-- ---- by the values

module _ (element : ElementDef) (kind : Work) (P : Pairs) (each : ItemsAreEmpty (scan_range_of element kind) P) where
  left_counted : (low : Bytes) (pieces : List Span) → le (start (scan_range_of element kind)) low ≡ true → AreJoined low (end (scan_range_of element kind)) pieces → AllByRecursion IsReached pieces
      → left_in (scan_range_of element kind) P pieces ≡ empties_left P pieces
  left_counted low [] from joined reached = refl
  left_counted low (s ∷ ss) from joined reached =
      let range = scan_range_of element kind in
      let at_low : le (start range) s.low ≡ true = subst (λ (x : Bytes). le (start range) x ≡ true) (sym joined.0) from in
      let at_cursor = le_trans (start range) s.low s.cursor at_low reached.0 in
      let here = items_between range P s.cursor s.high each at_cursor (joined_le s.high (end range) ss joined.2) in
      ap (λ (keys : List Bytes). length keys + left_in range P ss) here
      ∙ ap (λ (n : ℕ). length (empties (key_range P s.cursor s.high)) + n) (left_counted s.high ss (le_trans (start range) s.low s.high at_low joined.1) joined.2 reached.1)

-- ---- no more than all

empties_le : (ps : List Pair) → length (empties ps) ≤ length ps
empties_le [] = omega arith
empties_le (p ∷ ps) = one (empty_key p) refl (empties_le ps)
  where
    one : (o : Option Bytes) → empty_key p ≡ o → length (empties ps) ≤ length ps → length (empties (p ∷ ps)) ≤ length (p ∷ ps)
    one (Some x) is le = simp (is) (omega (arith, le))
    one None is le = simp (is) (omega (arith, le))

within_le : (low high : Bytes) (es : List Pair) → length (within low high es) ≤ length es
within_le low high [] = omega arith
within_le low high (e ∷ es) = one (is_within low high e.0) (within low high es) (within_le low high es)
  where
    one : (b : Bool) (rest : List Pair) → length rest ≤ length es → length (cond b (e ∷ rest) rest) ≤ length (e ∷ es)
    one true rest le = omega (arith, le)
    one false rest le = omega (arith, le)

-- pieces that are joined have no pair in common
left_le : (P : Pairs) (low high : Bytes) (pieces : List Span) → AreJoined low high pieces → AllByRecursion IsReached pieces → AllByRecursion IsInPiece pieces → empties_left P pieces ≤ length (key_range P low high)
left_le P low high [] joined reached inside = omega arith
left_le P low high (s ∷ ss) joined reached inside =
    let from : le low s.high ≡ true = subst (λ (x : Bytes). le x s.high ≡ true) joined.0 joined.1 in
    let at : le low s.cursor ≡ true = subst (λ (x : Bytes). le x s.cursor ≡ true) joined.0 reached.0 in
    let all = ap length (join P low s.high high from (joined_le s.high high ss joined.2)) ∙ length-append (key_range P low s.high) (key_range P s.high high) in
    let one = ap length (join P low s.cursor s.high at inside.0) ∙ length-append (key_range P low s.cursor) (key_range P s.cursor s.high) in
    omega (arith, all, one, empties_le (key_range P s.cursor s.high), left_le P s.high high ss joined.2 reached.1 inside.1)

-- ---- all of them

empties_both : (P : Pairs) (a b c : Bytes) → le a b ≡ true → le b c ≡ true → length (empties (key_range P a c)) ≡ length (empties (key_range P a b)) + length (empties (key_range P b c))
empties_both P a b c ab bc =
    ap (λ (ps : List Pair). length (empties ps)) (join P a b c ab bc)
    ∙ ap length (filter_map-append empty_key (key_range P a b) (key_range P b c))
    ∙ length-append (empties (key_range P a b)) (empties (key_range P b c))

-- those of joined pieces are those of the range
all_in : (P : Pairs) (low high : Bytes) (pieces : List Span) → AreJoined low high pieces → length (empties (key_range P low high)) ≡ empties_in P pieces
all_in P low high [] joined = subst (λ (x : Bytes). length (empties (key_range P low x)) ≡ 0) joined (omega (arith, empties_both P low low low (le_itself low) (le_itself low)))
all_in P low high (s ∷ ss) joined =
    let from : le low s.high ≡ true = subst (λ (x : Bytes). le x s.high ≡ true) joined.0 joined.1 in
    let here : length (empties (key_range P low s.high)) ≡ length (empties (key_range P s.low s.high)) = ap (λ (x : Bytes). length (empties (key_range P x s.high))) (sym joined.0) in
    omega (arith, empties_both P low s.high high from (joined_le s.high high ss joined.2), here, all_in P s.high high ss joined.2)

-- ---- a begun reorganisation

pub record IsLeft (facts : Facts) (p : Progress) : Type 0 where
  pub counted : items_left p facts.pairs ≡ empties_left facts.pairs p.pieces
  pub few : empties_left facts.pairs p.pieces ≤ map.len facts.pairs

pub left_is : (facts : Facts) (number : ℕ) (p : Progress) → IsKept facts → progress_of facts.progress number ≡ Some p → IsLeft facts p
left_is facts number p kept at =
    let begun = (found (IsBegun facts.newest) facts.progress number p kept.begun at).0 in
    let pieces = kept.in_pieces number p at in
    let range = scan_range_of p.element p.kind in
    let stand = lemma_items_stand facts p.element.number p.element p.kind begun.element kept in
    let few = left_le facts.pairs (start range) (end range) p.pieces begun.joined pieces.reached pieces.cursors in
    record {
      counted = left_counted p.element p.kind facts.pairs stand (start range) p.pieces (le_itself (start range)) begun.joined pieces.reached;
      few = omega (arith, few, within_le (start range) (end range) (map.entries facts.pairs), map.len-entries facts.pairs);
    }

pub record IsWhole (facts : Facts) (p : Progress) : Type 0 where
  pub counted : length (items (scan_range_of p.element p.kind) facts.pairs) ≡ empties_in facts.pairs p.pieces
  pub few : empties_in facts.pairs p.pieces ≤ map.len facts.pairs

pub whole_is : (facts : Facts) (number : ℕ) (p : Progress) → IsKept facts → progress_of facts.progress number ≡ Some p → IsWhole facts p
whole_is facts number p kept at =
    let begun = (found (IsBegun facts.newest) facts.progress number p kept.begun at).0 in
    let range = scan_range_of p.element p.kind in
    let stand = lemma_items_stand facts p.element.number p.element p.kind begun.element kept in
    let all = all_in facts.pairs (start range) (end range) p.pieces begun.joined in
    let few = empties_le (key_range facts.pairs (start range) (end range)) in
    record {
      counted = ap length (items_between range facts.pairs (start range) (end range) stand (le_itself (start range)) (le_itself (end range))) ∙ all;
      few = omega (arith, all, few, within_le (start range) (end range) (map.entries facts.pairs), map.len-entries facts.pairs);
    }

-- in the fields of a World
module _ (f : Inside) (s : State) (h : IsHeld f) (view : state_of f ≡ s) (number : ℕ) (p : Progress) (pieces : List Span) (at : progress_of (facts_of s).progress number ≡ Some p) (same : pieces ≡ p.pieces) where
  left : IsLeft (facts_of s) p
  left = left_is (facts_of s) number p (kept_of f s h view) at

  store : f.store ≡ (facts_of s).pairs
  store = (follow_of f s h view).pairs

  pub left_held : items_left p s.pairs ≡ empties_left f.store pieces
  left_held = ap (items_left p) (replayed f s h view) ∙ left.counted ∙ (λ i. empties_left (sym store i) (sym same i))

  pub few_left : empties_left f.store pieces ≤ map.len f.store
  few_left = subst (λ (P : Pairs). empties_left P pieces ≤ map.len P) (sym store) (subst (λ (ps : List Span). empties_left (facts_of s).pairs ps ≤ map.len (facts_of s).pairs) (sym same) left.few)

  pub few_pieces : length pieces ≤ 64
  few_pieces = subst (λ (ps : List Span). length ps ≤ 64) (sym same) ((kept_of f s h view).in_pieces number p at).few

  whole : IsWhole (facts_of s) p
  whole = whole_is (facts_of s) number p (kept_of f s h view) at

  pub all_held : length (items (scan_range_of p.element p.kind) s.pairs) ≡ empties_in f.store pieces
  all_held = ap (λ (P : Pairs). length (items (scan_range_of p.element p.kind) P)) (replayed f s h view) ∙ whole.counted ∙ (λ i. empties_in (sym store i) (sym same i))

  pub few_in_all : empties_in f.store pieces ≤ map.len f.store
  few_in_all = subst (λ (P : Pairs). empties_in P pieces ≤ map.len P) (sym store) (subst (λ (ps : List Span). empties_in (facts_of s).pairs ps ≤ map.len (facts_of s).pairs) (sym same) whole.few)
