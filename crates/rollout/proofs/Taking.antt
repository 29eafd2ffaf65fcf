-- A piece that is committed takes its limit from what is ahead of its element, and adds nothing to what is ahead of another.
use Rattle.std.proofs.Common.{◌≡◌, ◌≢◌, ℕ, zero, suc, ◌+◌, ◌<◌, ◌≤◌, ◌^◌, Bool, true, cond, List, [], ◌∷◌, Option, Some, None, ◌⊎◌, inl, inr, refl, sym, ap, ◌∙◌, arith, option_map}
use Rattle.std.specs.Prelude.{slice_get}
use Rattle.std.specs.Option.{unwrap_or}
use Rattle.std.proofs.lemmas.Bool.Decides.{Decides-eqb}
use Rattle.std.specs.declared.cmp.Ordering.TheVariants.{Less}
use Rattle.keycode.specs.Order.{bytes_cmp}
use Rattle.row_map.specs.Expect.{Holds}
use Rattle.row_map.specs.Rows.{Bytes}
use Rattle.row_map.specs.Walk.{key_range}
use Rattle.row_map.specs.Writes.{written_all}
use Rattle.schema_version.specs.declared.element.ElementDef.{ElementDef}
use Rattle.schema_version.specs.declared.element.Work.{Work}
use Rattle.schema_version.specs.Version.{element_at}
use Rattle.element_state.specs.Elements.{Exact}
use Rattle.element_state.specs.Exists.{exists_meaning}
use Rattle.element_state.specs.Items.{IsIn}
use Rattle.reorganise.specs.declared.work.Span.{Span}
use Rattle.reorganise.specs.declared.work.Progress.{Progress}
use Rattle.reorganise.specs.declared.read.Reading.{Reading}
use Rattle.reorganise.specs.Batches.{expect_of, piece_writes}
use Rattle.reorganise.specs.Pieces.{next_cursor, part, view_at, key_range_read, ComesTo, IsReading}
use Rattle.reorganise.specs.ScanRanges.{scan_range_of, item_keys, start, end, IsItemKey}
use Rattle.reorganise.proofs.Bounds.{item_formed}
use Rattle.reorganise.proofs.KeyRanges.{reading_made}
use Rattle.reorganise.proofs.Order.{less_le}
use Rattle.replay.specs.Kept.{IsKept, IsBegun}
use Rattle.replay.specs.Laws.{piece_entry}
use Rattle.replay.specs.Replay.{Facts, after, is_of, progress_of, come_to, moved_to, writes_by_piece, span_writes}
use Rattle.replay.proofs.Agree.{consistent}
use Rattle.replay.proofs.Begun.{found, progress_moved}
use Rattle.replay.proofs.Pieces.{lemma_pieces_keep}
use Rattle.replay.proofs.Soundness.{lawful_entry}
use Rattle.rollout.specs.Pieces.{work_ahead, items_of, items_by}
use Rattle.rollout.proofs.Ahead.{ahead_by}
use Rattle.rollout.proofs.Cursor.{fewer_left, moved_count}
use Rattle.rollout.proofs.Fewer.{HasItemsOf, fewer_items, item_there}
use Rattle.rollout.proofs.Rises.{comes_up}
use Rattle.rollout.proofs.Written.{items_were}

none_some : {A B : Type 0} {x : A} → None ≡ Some x → B
none_some e = absurd cc

some_one : {A : Type 0} {v w : A} → Some v ≡ (let o : Option A = Some w in o) → v ≡ w
some_one e = cc

slice_in : (xs : List Bytes) (i : ℕ) (x : Bytes) → slice_get xs i ≡ Some x → IsIn x xs
slice_in [] i x at = none_some at
slice_in (y ∷ ys) zero x at = inl (sym (some_one at))
slice_in (y ∷ ys) (suc i) x at = inr (slice_in ys i x at)

exact : (facts : Facts) → IsKept facts → Exact exists_meaning facts.pairs facts.rows
exact facts kept = (consistent facts.newest facts.rows facts.pairs kept.core_kept.newest kept.core_kept.formed kept.rows).exists

-- what is ahead of an element
abbrev pub facts_ahead : ℕ → ℕ → Facts → ℕ → ℕ
facts_ahead pieces limit facts k = ahead_by pieces limit facts.pairs (element_at facts.newest k) (progress_of facts.progress k)

module _ (facts : Facts) (kept : IsKept facts) (number : ℕ) (p : Progress) (begun : progress_of facts.progress number ≡ Some p) (piece limit : ℕ) (some : 1 ≤ limit) (span : Span) (here : slice_get p.pieces piece ≡ Some span) (less : bytes_cmp span.cursor span.high ≡ Less) where
  abbrev pub read : Reading
  read = view_at p facts.pairs piece limit span

  abbrev to : Bytes
  to = next_cursor (scan_range_of p.element p.kind) facts.pairs span.cursor span.high limit

  ends : (o : Option Bytes) → slice_get (item_keys (scan_range_of p.element p.kind) (key_range facts.pairs span.cursor span.high)) limit ≡ o → (unwrap_or o span.high ≡ span.high) ⊎ IsItemKey (scan_range_of p.element p.kind) (unwrap_or o span.high)
  ends None is = inl refl
  ends (Some k) is =
      let t = item_there p.element p.kind facts.pairs span.cursor span.high k (slice_in (item_keys (scan_range_of p.element p.kind) (key_range facts.pairs span.cursor span.high)) limit k is) in
      inr (item_formed (scan_range_of p.element p.kind) k (kept.core_kept.formed k t.2.0 t.2.1) t.0)

  comes : ComesTo (scan_range_of p.element p.kind) span.cursor span.high to
  comes =
      let up = comes_up p.element p.kind facts.pairs span.cursor span.high limit some less in
      record {
        onward = less_le span.cursor to up.0;
        bounded = up.1;
        ends = ends (slice_get (item_keys (scan_range_of p.element p.kind) (key_range facts.pairs span.cursor span.high)) limit) refl;
      }

  reading : IsReading read
  reading = reading_made (scan_range_of p.element p.kind) facts.pairs span.cursor span.high limit p.element p.kind piece span.low span.high (key_range_read (scan_range_of p.element p.kind) facts.pairs span.cursor span.high limit) refl refl refl comes

  begun_p : IsBegun facts.newest p × (p.element.number ≡ number)
  begun_p = found (IsBegun facts.newest) facts.progress number p kept.begun begun

  module _ (now : ℕ) (later : facts.moment ≤ now) (holds : Holds (expect_of read.key_range) facts.pairs) where
    abbrev pub then : Facts
    then = after facts (piece_entry now number read)

    pub kept_then : IsKept then
    kept_then =
        (lemma_pieces_keep facts now number read later (record {
          progress = p;
          here = begun;
          element = refl;
          work = refl;
          span = span;
          piece = here;
          high = refl;
          cursor = refl;
          read_so = reading;
          holds = holds;
        }) kept).1

    written_so : then.pairs ≡ written_all facts.pairs (piece_writes (part facts.pairs span.cursor to) p.element p.kind)
    written_so = ap (λ (o : Option Progress). written_all facts.pairs (writes_by_piece o piece facts.pairs to)) begun ∙ ap (λ (o : Option Span). written_all facts.pairs (span_writes p o facts.pairs to)) here

    wide : p.element.number + 1 < 2 ^ 32
    wide = (lawful_entry facts.newest kept.sound p.element.number p.element begun_p.0.element).range.number_below

    has_items : (e : ElementDef) (w : Work) → (w ≡ p.kind) ⊎ (e.number ≢ p.element.number) → HasItemsOf e w facts.pairs then.pairs
    has_items e w apart = items_were facts.pairs then.pairs facts.rows kept_then.core_kept.formed (exact facts kept) (exact then kept_then) p.element p.kind (part facts.pairs span.cursor to) wide written_so e w apart

    -- its own element: so much is taken
    pub taken_here : (pieces : ℕ) → facts_ahead pieces limit then number + limit ≤ facts_ahead pieces limit facts number
    taken_here pieces =
        let own : is_of number p ≡ true = (Decides-eqb p.element.number number).1 begun_p.1 in
        let moved : progress_of then.progress number ≡ Some (come_to piece to p) =
        progress_moved number piece to facts.progress number ∙ ap (option_map (moved_to number piece to)) begun ∙ ap (λ (b : Bool). let o : Option Progress = Some (cond b (come_to piece to p) p) in o) own in
        let count = moved_count p.element p.kind facts.pairs limit some p.pieces piece span here less to refl in
        let fewer = fewer_left p.element p.kind facts.pairs then.pairs (has_items p.element p.kind (inl refl)) (come_to piece to p).pieces in
        let new : facts_ahead pieces limit then number ≡ ahead_by pieces limit then.pairs (element_at facts.newest number) (Some (come_to piece to p)) = ap (ahead_by pieces limit then.pairs (element_at facts.newest number)) moved in
        let old : facts_ahead pieces limit facts number ≡ ahead_by pieces limit facts.pairs (element_at facts.newest number) (Some p) = ap (ahead_by pieces limit facts.pairs (element_at facts.newest number)) begun in
        omega (arith, new, old, count, fewer)

    items_apart : (k : ℕ) → k ≢ number → (e : Option ElementDef) → element_at facts.newest k ≡ e → (w : Option Work) → items_of then.pairs e w ≤ items_of facts.pairs e w
    items_apart k ne None is w = omega arith
    items_apart k ne (Some e) is None = omega arith
    items_apart k ne (Some e) is (Some w) =
        let own : e.number ≡ k = (kept.sound.elements k e is).own in
        fewer_items e w facts.pairs then.pairs (has_items e w (inr (λ same. ne (sym own ∙ same ∙ begun_p.1)))) (start (scan_range_of e w)) (end (scan_range_of e w))

    ahead_apart : (k : ℕ) → k ≢ number → (o : Option Progress) → progress_of facts.progress k ≡ o → items_by then.pairs (element_at facts.newest k) o ≤ items_by facts.pairs (element_at facts.newest k) o
    ahead_apart k ne None is = items_apart k ne (element_at facts.newest k) refl (work_ahead (element_at facts.newest k))
    ahead_apart k ne (Some q) is =
        let own : q.element.number ≡ k = (found (IsBegun facts.newest) facts.progress k q kept.begun is).1 in
        fewer_left q.element q.kind facts.pairs then.pairs (has_items q.element q.kind (inr (λ same. ne (sym own ∙ same ∙ begun_p.1)))) q.pieces

    -- another element: no more is ahead
    pub taken_apart : (pieces k : ℕ) → k ≢ number → progress_of then.progress k ≡ progress_of facts.progress k → facts_ahead pieces limit then k ≤ facts_ahead pieces limit facts k
    taken_apart pieces k ne same =
        let new : facts_ahead pieces limit then k ≡ ahead_by pieces limit then.pairs (element_at facts.newest k) (progress_of facts.progress k) = ap (ahead_by pieces limit then.pairs (element_at facts.newest k)) same in
        let fewer = ahead_apart k ne (progress_of facts.progress k) refl in
        omega (arith, new, fewer)
