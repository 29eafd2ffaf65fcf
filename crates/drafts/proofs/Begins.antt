-- A reorganisation that begins, in one piece.
use Rattle.std.proofs.Common.{◌≡◌, ℕ, zero, suc, List, [], ◌∷◌, ◌++◌, Option, Some, None, option_map, refl, sym, ap, subst, ◌∙◌, inl, inr, Bool, true, false, cond, eq-eqb, ne_eqb, arith}
use Rattle.std.specs.Prelude.{◌≢◌}
use Rattle.std.specs.FinMap as map
use Rattle.std.proofs.lemmas.Bool.{le-ltb}
use Rattle.lease.specs.Timeline.{earliest}
use Rattle.row_map.specs.Rows.{Bytes, Pairs}
use Rattle.element_state.proofs.Whole.{number_one}
use Rattle.schema_version.specs.declared.element.ElementDef.{ElementDef}
use Rattle.schema_version.specs.declared.element.Work.{Work}
use Rattle.schema_version.specs.Version.{Version, element_at, state_of, state_or_absent}
use Rattle.reorganise.specs.declared.work.Span.{Span}
use Rattle.reorganise.specs.declared.work.Progress.{Progress}
use Rattle.reorganise.specs.Pieces.{begun}
use Rattle.reorganise.specs.ScanRanges.{scan_range_of, start, end, items}
use Rattle.reorganise.proofs.Shares.{bound_last}
use Rattle.replay.specs.declared.entry.What.TheVariants.{Begin as BeginEntry}
use Rattle.replay.specs.Replay.{Facts, before_of, is_of, progress_of, begun_by, begun_of}
use Rattle.replay.specs.Kept.{IsKept, used_before}
use Rattle.replay.proofs.Time.{at}
use Rattle.drafts.specs.Store.{Store, OfVersion, OfReorg, OfCursor, Control, version_key, reorg_key, cursor_key, MayApply}
use Rattle.drafts.specs.Calls.{Beginning, reorg_begun, begin_draft, IsBeginning, Begin}
use Rattle.drafts.specs.Mirror.{Mirrors, open_at, reorg_of, piece_of}
use Rattle.drafts.specs.Laws.{HasEntry}
use Rattle.drafts.proofs.Opens.{newest_is, alone, closed, read_none, none_some}
use Rattle.drafts.proofs.Records.{put_here, put_apart, laid_nothing, other_kind, other_number, zero_one, zero_two, one_two, two_one}

-- ---- one piece

-- a reorganisation in one piece does not ask for the pairs
abbrev whole : ElementDef → Work → Progress
whole element work = record { element = element; kind = work; pieces = record { low = start (scan_range_of element work); high = end (scan_range_of element work); cursor = start (scan_range_of element work) } ∷ [] }

pub begun_whole : (element : ElementDef) (work : Work) (pairs : Pairs) → begun element work pairs 1 ≡ whole element work
begun_whole element work pairs =
    ap (λ (high : Bytes). let p : Progress = record { element = element; kind = work; pieces = record { low = start (scan_range_of element work); high = high; cursor = start (scan_range_of element work) } ∷ [] } in p)
    (bound_last (scan_range_of element work) (items (scan_range_of element work) pairs) 1 (omega arith))

-- ---- the reorganisation that was added

pub found_last : (ps : List Progress) (q : Progress) (n : ℕ) → is_of n q ≡ true → progress_of ps n ≡ None → progress_of (ps ++ q ∷ []) n ≡ Some q
found_last [] q n own none = ap (λ b. cond b (Some q) None) own
found_last (p ∷ ps) q n own none = by (is_of n p) (found_last ps q n own) none
  where
    by : (b : Bool) → (progress_of ps n ≡ None → progress_of (ps ++ q ∷ []) n ≡ Some q) → cond b (Some p) (progress_of ps n) ≡ None → cond b (Some p) (progress_of (ps ++ q ∷ []) n) ≡ Some q
    by true rest e = none_some (sym e)
    by false rest e = rest e

pub found_other : (ps : List Progress) (q : Progress) (n : ℕ) → is_of n q ≡ false → progress_of (ps ++ q ∷ []) n ≡ progress_of ps n
found_other [] q n other = ap (λ b. cond b (Some q) None) other
found_other (p ∷ ps) q n other = ap (cond (is_of n p) (Some p)) (found_other ps q n other)

module _ (facts : Facts) (store : Store) (b : Beginning) (k : IsKept facts) (m : Mirrors facts store) (made : IsBeginning b) (may : MayApply (begin_draft b) store) where
  abbrev n : ℕ
  n = b.element.number

  abbrev rk : List ℕ
  rk = reorg_key b.element.number

  abbrev ck : List ℕ
  ck = cursor_key b.element.number 0

  abbrev c1 : Control
  c1 = map.insert store.control rk (OfReorg (reorg_begun b))

  abbrev c2 : Control
  c2 = map.insert c1 ck (OfCursor (start (scan_range_of b.element b.work)))

  there : element_at facts.newest b.element.number ≡ Some b.element
  there = ap (λ (v : Version). element_at v b.element.number) (newest_is facts store b.newest k m (may.control.0, (may.control.1.0, tt))).schema ∙ made.there

  new : progress_of facts.progress b.element.number ≡ None
  new = read_none (λ p. OfReorg (reorg_of p)) (progress_of facts.progress b.element.number) (sym (m.reorgs b.element.number) ∙ may.control.1.1.1.0)

  added : begun_of (element_at facts.newest b.element.number) facts.pairs 1 ≡ whole b.element b.work ∷ []
  added =
      ap (λ (o : Option ElementDef). begun_of o facts.pairs 1) there
      ∙ ap (λ (o : Option Work). begun_by b.element o facts.pairs 1) made.wants
      ∙ ap (λ (p : Progress). p ∷ []) (begun_whole b.element b.work facts.pairs)

  abbrev then : List Progress
  then = facts.progress ++ begun_of (element_at facts.newest b.element.number) facts.pairs 1

  then_own : progress_of then b.element.number ≡ Some (whole b.element b.work)
  then_own = ap (λ qs. progress_of (facts.progress ++ qs) b.element.number) added ∙ found_last facts.progress (whole b.element b.work) b.element.number (eq-eqb b.element.number b.element.number refl) new

  then_other : (e : ℕ) → e ≢ b.element.number → progress_of then e ≡ progress_of facts.progress e
  then_other e ne = ap (λ qs. progress_of (facts.progress ++ qs) e) added ∙ found_other facts.progress (whole b.element b.work) e (ne_eqb b.element.number e (λ s. ne (sym s)))

  settled : state_of (used_before facts (earliest facts.line)) b.element.number ≡ b.element.state
  settled =
      ap (λ x. state_of (cond x (before_of facts) facts.newest) b.element.number) (le-ltb (earliest facts.line) (earliest facts.line) (omega arith))
      ∙ ap state_or_absent there

  versions : (v : ℕ) → map.get c2 (version_key v) ≡ option_map OfVersion (open_at (at facts (earliest facts.line)) v)
  versions v =
      put_apart c1 ck (version_key v) (OfCursor (start (scan_range_of b.element b.work))) (other_kind 0 2 _ _ zero_two) ∙ put_apart store.control rk (version_key v) (OfReorg (reorg_begun b)) (other_kind 0 1 _ _ zero_one) ∙ m.versions v ∙ ap (option_map OfVersion) same
    where
      same : open_at facts v ≡ open_at (at facts (earliest facts.line)) v
      same = elim (number_one v b.newest.before) [
        | inl e ↦ subst (λ (x : ℕ). open_at facts x ≡ open_at (at facts (earliest facts.line)) x) (sym e)
            (read_none OfVersion (open_at facts b.newest.before) (sym (m.versions b.newest.before) ∙ may.control.1.1.0)
            ∙ sym (closed facts b.newest.before (newest_is facts store b.newest k m (may.control.0, (may.control.1.0, tt))).number))
        | inr ne ↦ alone facts v (λ e. ne (omega (arith, e, (newest_is facts store b.newest k m (may.control.0, (may.control.1.0, tt))).number)))
      ]

  reorgs : (e : ℕ) → map.get c2 (reorg_key e) ≡ option_map (λ p. OfReorg (reorg_of p)) (progress_of then e)
  reorgs e = put_apart c1 ck (reorg_key e) (OfCursor (start (scan_range_of b.element b.work))) (other_kind 1 2 _ _ one_two) ∙ (elim (number_one e b.element.number) [
    | inl s ↦ subst (λ (x : ℕ). map.get c1 (reorg_key x) ≡ option_map (λ p. OfReorg (reorg_of p)) (progress_of then x)) (sym s)
        (put_here store.control rk (OfReorg (reorg_begun b)) ∙ sym (ap (option_map (λ p. OfReorg (reorg_of p))) then_own))
    | inr ne ↦ put_apart store.control rk (reorg_key e) (OfReorg (reorg_begun b)) (other_number 1 e b.element.number ne) ∙ m.reorgs e ∙ ap (option_map (λ p. OfReorg (reorg_of p))) (sym (then_other e ne))
  ])

  old_none : (p : ℕ) → map.get store.control (cursor_key b.element.number p) ≡ None
  old_none p = m.cursors b.element.number p ∙ ap (λ o. option_map (λ (s : Span). OfCursor s.cursor) (piece_of o p)) new

  own_cursors : (p : ℕ) → map.get c2 (cursor_key b.element.number p) ≡ option_map (λ (s : Span). OfCursor s.cursor) (piece_of (Some (whole b.element b.work)) p)
  own_cursors zero = put_here c1 ck (OfCursor (start (scan_range_of b.element b.work)))
  own_cursors (suc p) =
      put_apart c1 ck (cursor_key b.element.number (suc p)) (OfCursor (start (scan_range_of b.element b.work))) (λ e. suc_zero p e)
      ∙ put_apart store.control rk (cursor_key b.element.number (suc p)) (OfReorg (reorg_begun b)) (other_kind 2 1 _ _ two_one) ∙ old_none (suc p)
    where
      suc_zero : (p : ℕ) → cursor_key b.element.number (suc p) ≢ cursor_key b.element.number 0
      suc_zero p e = absurd cc

  cursors : (e p : ℕ) → map.get c2 (cursor_key e p) ≡ option_map (λ (s : Span). OfCursor s.cursor) (piece_of (progress_of then e) p)
  cursors e p = elim (number_one e b.element.number) [
    | inl s ↦ subst (λ (x : ℕ). map.get c2 (cursor_key x p) ≡ option_map (λ (t : Span). OfCursor t.cursor) (piece_of (progress_of then x) p)) (sym s)
        (own_cursors p ∙ ap (λ o. option_map (λ (t : Span). OfCursor t.cursor) (piece_of o p)) (sym then_own))
    | inr ne ↦
        put_apart c1 ck (cursor_key e p) (OfCursor (start (scan_range_of b.element b.work))) (λ s. ne (first_of s)) ∙ put_apart store.control rk (cursor_key e p) (OfReorg (reorg_begun b)) (other_kind 2 1 _ _ two_one)
        ∙ m.cursors e p ∙ ap (λ o. option_map (λ (t : Span). OfCursor t.cursor) (piece_of o p)) (sym (then_other e ne))
  ]
    where
      first_of : cursor_key e p ≡ cursor_key b.element.number 0 → e ≡ b.element.number
      first_of s = cc

  pub begin_kept : HasEntry facts store (Begin b)
  begin_kept = record {
    entry = record { moment = earliest facts.line; what = BeginEntry b.element.number 1 };
    entry_of = refl;
    later = m.clock.within;
    may = record { element = b.element; work = b.work; there = there; wants = made.wants; settled = settled; new = new; count = (omega arith, omega arith) };
    mirrors = record {
      clock = record { length = m.clock.length; counted = m.clock.counted; within = omega arith };
      versions = versions;
      reorgs = reorgs;
      cursors = cursors;
      pairs = laid_nothing store.pairs ∙ m.pairs;
    };
    rows = refl;
  }
