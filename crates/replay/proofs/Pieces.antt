-- A piece of a reorganisation: what it writes is what its entry says, and it keeps all.
use Rattle.std.proofs.Common.{◌≡◌, ℕ, zero, suc, ◌+◌, ◌<◌, ◌≤◌, ◌^◌, List, [], ◌∷◌, Option, Some, None, option_map, refl, sym, ap, subst, ◌∙◌, ◌⊎◌, inl, inr, Bool, true, false, cond, eqb-true, eq-eqb, ne_eqb}
use Rattle.std.specs.Prelude.{◌≢◌, slice_get}
use Rattle.std.specs.List.{AllByRecursion}
use mathlib.Core.List.{map as each}
use Rattle.std.specs.FinMap as map
use Rattle.std.specs.FinMap.{nat_cmp-IsAntisymmetric}
use Rattle.std.specs.Cmp.{nat_cmp_total}
use Rattle.std.specs.Ordering.{is_le}
use Rattle.byte_map.proofs.Written.{laid-noted, written_here, written_apart}
use Rattle.keycode.proofs.Orders.{bytes_cmp_total, bytes_cmp-IsAntisymmetric}
use Rattle.keycode.specs.Order.{bytes_cmp}
use Rattle.row_map.specs.Rows.{Bytes, Pairs}
use Rattle.row_map.specs.Writes.{written_all, laid}
use Rattle.schema_version.specs.declared.element.Way.{Way}
use Rattle.schema_version.specs.declared.element.Way.TheVariants.{Adding, Dropping}
use Rattle.schema_version.specs.declared.element.ElementState.{ElementState}
use Rattle.schema_version.specs.declared.element.ElementState.TheVariants.{Absent, DeleteOnly, WriteOnly, Public}
use Rattle.schema_version.specs.declared.element.ElementDef.{ElementDef}
use Rattle.schema_version.specs.Edges.{is_filled, wanted_work}
use Rattle.schema_version.specs.Version.{element_at}
use Rattle.element_state.specs.Consistent.{IsConsistent}
use Rattle.element_state.specs.Core.{Core, Invariant, NeverPublic, NoCell}
use Rattle.element_state.specs.Core as core
use Rattle.element_state.specs.Sources.{Source, source_in}
use Rattle.element_state.specs.Items.{ClearRange, IsBound, RowsOf, HasRange, fill_puts, clear_writes, row_items}
use Rattle.element_state.specs.Kinds.{kind_clear, kind_clears}
use Rattle.element_state.specs.Pieces.{moved}
use Rattle.element_state.specs.Reaches as reaches
use Rattle.element_state.proofs.Reaches.{fill_puts_kept, clear_piece_kept}
use Rattle.element_state.specs.Versions.{ElementKind, Of, the_kinds, meaning_of, schema_of, entry_of, is_adding, IsLawfulOf}
use Rattle.element_state.proofs.Versions.{exists_exact}
use Rattle.element_state.proofs.Whole.{number_one}
use Rattle.schema_version.specs.declared.element.Work.{Work}
use Rattle.schema_version.specs.declared.element.Work.TheVariants.{Fill, Clear}
use Rattle.reorganise.specs.declared.work.Span.{Span}
use Rattle.reorganise.specs.declared.work.Progress.{Progress}
use Rattle.reorganise.specs.declared.read.Reading.{Reading}
use Rattle.reorganise.specs.ScanRanges.{scan_range_of, start, end}
use Rattle.reorganise.specs.Pieces.{part}
use Rattle.reorganise.specs.Batches.{batch_for, piece_writes}
use Rattle.reorganise.specs.Laws.{passed_by, bounds_of, clear_of, IsPieceBound, HasBounds, HasColumns}
use Rattle.reorganise.proofs.Bounds.{cursor_stands, cursor_moves, join_stays, bounds_stay, comes_to_bound, bounds_serve, clear_is_of_kind}
use Rattle.reorganise.proofs.Clears.{clear_lays}
use Rattle.reorganise.proofs.Columns.{columns_agree}
use Rattle.reorganise.proofs.Fills.{fill_lays}
use Rattle.reorganise.proofs.Expectations.{part_is}
use Rattle.replay.specs.Replay.{Facts, after, is_of, progress_of, come_to, moved_to, writes_by_piece, span_writes}
use Rattle.replay.specs.Kept.{IsKept, IsBegun, AreInPieces, core_at, all_passed, passed}
use Rattle.replay.specs.Laws.{IsNextOf, piece_entry, PiecesKeep}
use Rattle.replay.proofs.Agree.{at_number, consistent}
use Rattle.replay.proofs.Begun.{found, get_passed, passed_at, progress_moved}
use Rattle.replay.proofs.Cursors.{move_in_pieces}
use Rattle.replay.proofs.Different.{move_different}
use Rattle.replay.proofs.Openings.{WantedBy, clear_fill, with_progress}
use Rattle.replay.proofs.Soundness.{lawful}
use Rattle.replay.proofs.Time.{at, kept_later}

some_one : {A : Type 0} {v w : A} → Some v ≡ (let o : Option A = Some w in o) → v ≡ w
some_one e = cc

none_some : {A B : Type 0} {v : A} → None ≡ Some v → B
none_some e = absurd cc

-- ---- lists

-- what all have, the one at a place has
pub at_place : {A : Type 0} (P : A → Type 0) (xs : List A) (i : ℕ) (x : A) → AllByRecursion P xs → slice_get xs i ≡ Some x → P x
at_place P [] i x all at = none_some at
at_place P (y ∷ ys) zero x all at = subst P (some_one at) all.0
at_place P (y ∷ ys) (suc i) x all at = at_place P ys i x all.1 at

all_moved : (P : Progress → Type 0) (n piece : ℕ) (cursor : Bytes) → ((p : Progress) → P p → p.element.number ≡ n → P (come_to piece cursor p)) → (ps : List Progress) → AllByRecursion P ps → AllByRecursion P (each (moved_to n piece cursor) ps)
all_moved P n piece cursor f [] all = tt
all_moved P n piece cursor f (p ∷ ps) all = (by (is_of n p) refl, all_moved P n piece cursor f ps all.1)
  where
    by : (b : Bool) → is_of n p ≡ b → P (cond b (come_to piece cursor p) p)
    by true e = f p all.0 (eqb-true p.element.number n e)
    by false e = all.0

-- ---- what wants a fill was never public

-- the state that wants one, by whether a fill puts the kind's pairs
fill_state : (filled : Bool) (way : Way) (q : ElementState) → WantedBy filled way q ≡ Some Fill → (is_adding way ≡ true) × (q ≢ Public)
fill_state true Adding WriteOnly e = (refl, λ x. cc)
fill_state true Adding Absent e = none_some e
fill_state true Adding DeleteOnly e = none_some e
fill_state true Adding Public e = none_some e
fill_state true Dropping Absent e = none_some e
fill_state true Dropping DeleteOnly e = clear_fill (some_one e)
fill_state true Dropping WriteOnly e = none_some e
fill_state true Dropping Public e = none_some e
fill_state false Adding Absent e = none_some e
fill_state false Adding DeleteOnly e = none_some e
fill_state false Adding WriteOnly e = none_some e
fill_state false Adding Public e = none_some e
fill_state false Dropping Absent e = none_some e
fill_state false Dropping DeleteOnly e = clear_fill (some_one e)
fill_state false Dropping WriteOnly e = none_some e
fill_state false Dropping Public e = none_some e

never_public : (element : ElementDef) → wanted_work element ≡ Some Fill → (is_adding element.way ≡ true) × (element.state ≢ Public)
never_public element wants = fill_state (is_filled element.kind) element.way element.state wants

module _ (facts : Facts) (now number : ℕ) (read : Reading) (later : facts.moment ≤ now) (next : IsNextOf facts number read) (kept : IsKept facts) where
  k : IsKept (at facts now)
  k = kept_later facts now later kept

  abbrev pub p : Progress
  p = next.progress

  abbrev pub to : Bytes
  to = read.key_range.high

  abbrev pub w : Core ElementKind
  w = core_at (at facts now) now

  begun_p : IsBegun facts.newest p × (p.element.number ≡ number)
  begun_p = found (IsBegun facts.newest) facts.progress number p kept.begun next.here

  there : element_at facts.newest number ≡ Some p.element
  there = subst (λ (m : ℕ). element_at facts.newest m ≡ Some p.element) begun_p.1 begun_p.0.element

  above : 1 ≤ number
  above = (kept.sound.elements number p.element there).first

  entry : map.get (schema_of facts.newest) number ≡ Some (entry_of facts.newest p.element)
  entry = at_number facts.newest number above ∙ ap (option_map (entry_of facts.newest)) there

  -- what the element's pairs are built from
  abbrev pub source : ElementDef → Source
  source element = source_in facts.newest element.kind

  own : IsLawfulOf number p.element.table (source p.element)
  own = lawful facts.newest kept.sound number (entry_of facts.newest p.element) entry

  passed_p : map.get w.progress number ≡ Some (passed p)
  passed_p = passed_at facts.progress number p next.here

  bounds_p : HasBounds (scan_range_of p.element p.kind) next.span
  bounds_p = at_place (HasBounds (scan_range_of p.element p.kind)) p.pieces read.piece next.span begun_p.0.bounds next.piece

  bound_to : IsPieceBound (scan_range_of p.element p.kind) to
  bound_to =
      subst (λ (e : ElementDef). IsPieceBound (scan_range_of e p.kind) to) next.element
      (subst (λ (u : Work). IsPieceBound (scan_range_of read.element u) to) next.work
      (comes_to_bound read next.read_so
      (subst (λ (e : ElementDef). IsPieceBound (scan_range_of e read.kind) read.high) (sym next.element)
      (subst (λ (u : Work). IsPieceBound (scan_range_of p.element u) read.high) (sym next.work)
      (subst (IsPieceBound (scan_range_of p.element p.kind)) (sym next.high) bounds_p.high)))))

  serves : (key : Bytes) → IsPieceBound (scan_range_of p.element p.kind) key → IsBound (bounds_of p.element p.kind) key
  serves key = bounds_serve p.element p.kind key own.range.table_below

  -- ---- what it writes

  -- its batch is what its entry says
  pub lays : laid (batch_for read) facts.pairs ≡ (after facts (piece_entry now number read)).pairs
  lays =
      laid-noted bytes_cmp_total bytes_cmp-IsAntisymmetric (piece_writes read.key_range.pairs read.element read.kind) facts.pairs
      ∙ ap (λ (ps : Pairs). written_all facts.pairs (piece_writes ps read.element read.kind)) (sym (part_is read facts.pairs next.read_so next.holds))
      ∙ ap (λ (low : Bytes). written_all facts.pairs (piece_writes (part facts.pairs low to) read.element read.kind)) next.cursor
      ∙ ap (λ (e : ElementDef). written_all facts.pairs (piece_writes (part facts.pairs next.span.cursor to) e read.kind)) next.element
      ∙ ap (λ (u : Work). written_all facts.pairs (piece_writes (part facts.pairs next.span.cursor to) p.element u)) next.work
      ∙ ap (λ (o : Option Span). written_all facts.pairs (span_writes p o facts.pairs to)) (sym next.piece)
      ∙ ap (λ (o : Option Progress). written_all facts.pairs (writes_by_piece o read.piece facts.pairs to)) (sym next.here)

  -- ---- the core

  -- the reorganisation with its cursor moved
  abbrev pub come : core.CoreProgress
  come = record { work = p.kind; spans = reaches.with_cursor read.piece to (passed_by p.pieces) }

  cursor_is : reaches.cursor_at read.piece (passed_by p.pieces) ≡ read.key_range.low
  cursor_is = cursor_stands p.pieces read.piece next.span next.piece ∙ sym next.cursor

  columns_fit : p.kind ≡ Fill → HasColumns facts.newest read.element facts.pairs facts.rows
  columns_fit is =
      let wants : wanted_work p.element ≡ Some Fill = begun_p.0.wanted_so ∙ ap Some is in
      let never : NeverPublic the_kinds facts.newest.next number (map.get (schema_of facts.newest) number) = subst (NeverPublic the_kinds facts.newest.next number) (sym entry) (never_public p.element wants) in
      let agrees : IsConsistent facts.newest facts.rows facts.pairs = consistent facts.newest facts.rows facts.pairs kept.core_kept.newest kept.core_kept.formed kept.rows in
      subst (λ (e : ElementDef). HasColumns facts.newest e facts.pairs facts.rows) (sym next.element)
      (columns_agree facts.newest p.element facts.pairs facts.rows kept.sound begun_p.0.element agrees.elements (subst (λ (n : ℕ). NoCell n facts.rows) (sym begun_p.1) (kept.core_kept.bare number never).0))

  abbrev pub After : Pairs → Type 0
  After pairs = Invariant the_kinds (moved the_kinds w number come pairs)

  core_by : (work : Work) → p.kind ≡ work → After (laid (batch_for read) facts.pairs)
  core_by Fill is =
      let bound = subst (λ (u : Work). IsBound (bounds_of p.element u) to) is (serves to bound_to) in
      let same : read.element ≡ p.element = next.element in
      let laying = fill_lays facts.newest read facts.pairs facts.rows next.read_so (next.work ∙ is) next.holds kept.core_kept.held kept.core_kept.formed (exists_exact facts.newest facts.pairs facts.rows kept.core_kept.newest) (columns_fit is)
      (subst (λ (e : ElementDef). e.table + 1 < 2 ^ 32) (sym same) own.range.table_below) (subst (λ (e : ElementDef). IsBound (RowsOf e.table) to) (sym same) bound) in
      subst After (sym laying)
      (subst (λ (e : ElementDef). After (written_all facts.pairs (fill_puts (meaning_of e.number (Of e.table (source e))) (row_items (meaning_of e.number (Of e.table (source e))).serves facts.rows read.key_range.low to)))) (sym same)
      (subst (λ (n : ℕ). After (written_all facts.pairs (fill_puts (meaning_of n (Of p.element.table (source p.element))) (row_items (meaning_of n (Of p.element.table (source p.element))).serves facts.rows read.key_range.low to)))) (sym begun_p.1)
      (subst (λ (low : Bytes). After (written_all facts.pairs (fill_puts (meaning_of number (Of p.element.table (source p.element))) (row_items (meaning_of number (Of p.element.table (source p.element))).serves facts.rows low to)))) cursor_is
      (subst (λ (u : Work). Invariant the_kinds (moved the_kinds w number (let c : core.CoreProgress = record { work = u; spans = reaches.with_cursor read.piece to (passed_by p.pieces) } in c)
      (written_all facts.pairs (fill_puts (meaning_of number (Of p.element.table (source p.element))) (row_items (meaning_of number (Of p.element.table (source p.element))).serves facts.rows (reaches.cursor_at read.piece (passed_by p.pieces)) to))))) (sym is)
      (fill_puts_kept the_kinds w number (entry_of facts.newest p.element) (passed_by p.pieces) read.piece to k.core_kept entry
      (passed_p ∙ ap (λ (u : Work). Some (let c : core.CoreProgress = record { work = u; spans = passed_by p.pieces } in c)) is))))))
  core_by Clear is =
      let of_source = λ (key : Bytes) (b : IsBound (clear_of p.element).bounds key). subst (λ (c : ClearRange). IsBound c.bounds key) (clear_is_of_kind facts.newest p.element) b in
      let bound = subst (λ (u : Work). IsBound (bounds_of p.element u) to) is (serves to bound_to) in
      let from = subst (λ (u : Work). IsBound (bounds_of p.element u) next.span.cursor) is (serves next.span.cursor bounds_p.cursor) in
      let same : read.element ≡ p.element = next.element in
      let laying = clear_lays read facts.pairs facts.rows next.read_so (next.work ∙ is) next.holds kept.core_kept.held kept.core_kept.formed (exists_exact facts.newest facts.pairs facts.rows kept.core_kept.newest)
      (subst (λ (e : ElementDef). HasRange e.table e.number) (sym same) (subst (HasRange p.element.table) (sym begun_p.1) own.range)) in
      subst After (sym laying)
      (subst (λ (e : ElementDef). After (written_all facts.pairs (clear_writes ((clear_of e).items facts.rows facts.pairs read.key_range.low to)))) (sym same)
      (subst (λ (c : ClearRange). After (written_all facts.pairs (clear_writes (c.items facts.rows facts.pairs read.key_range.low to)))) (sym (clear_is_of_kind facts.newest p.element))
      (subst (λ (n : ℕ). After (written_all facts.pairs (clear_writes ((kind_clear p.element.table n (source p.element)).items facts.rows facts.pairs read.key_range.low to)))) (sym begun_p.1)
      (subst (λ (low : Bytes). After (written_all facts.pairs (clear_writes ((kind_clear p.element.table number (source p.element)).items facts.rows facts.pairs low to)))) cursor_is
      (subst (λ (u : Work). Invariant the_kinds (moved the_kinds w number (let c : core.CoreProgress = record { work = u; spans = reaches.with_cursor read.piece to (passed_by p.pieces) } in c)
      (written_all facts.pairs (clear_writes ((kind_clear p.element.table number (source p.element)).items facts.rows facts.pairs (reaches.cursor_at read.piece (passed_by p.pieces)) to))))) (sym is)
      (clear_piece_kept the_kinds w number (entry_of facts.newest p.element) (passed_by p.pieces) read.piece to (kind_clear p.element.table number (source p.element)) (kind_clears p.element.table number (source p.element) own.lawful own.range) k.core_kept entry
      (passed_p ∙ ap (λ (u : Work). Some (let c : core.CoreProgress = record { work = u; spans = passed_by p.pieces } in c)) is)
      (subst (λ (n : ℕ). IsBound (kind_clear p.element.table n (source p.element)).bounds (reaches.cursor_at read.piece (passed_by p.pieces))) begun_p.1 (of_source (reaches.cursor_at read.piece (passed_by p.pieces)) (subst (IsBound (bounds_of p.element Clear)) (sym (cursor_stands p.pieces read.piece next.span next.piece)) from)))
      (subst (λ (n : ℕ). IsBound (kind_clear p.element.table n (source p.element)).bounds to) begun_p.1 (of_source to bound))))))))

  -- the map of the moved list has what the moved map has
  fewer : (m : ℕ) (c : core.CoreProgress) → map.get (all_passed (each (moved_to number read.piece to) facts.progress)) m ≡ Some c → map.get (map.insert (all_passed facts.progress) number come) m ≡ Some c
  fewer m c got = by (number_one m number)
    where
      all : option_map passed (option_map (moved_to number read.piece to) (progress_of facts.progress m)) ≡ Some c
      all = ap (option_map passed) (sym (progress_moved number read.piece to facts.progress m)) ∙ sym (get_passed (each (moved_to number read.piece to) facts.progress) m) ∙ got

      moved_p : passed (moved_to number read.piece to p) ≡ come
      moved_p =
          ap (λ (b : Bool). passed (cond b (come_to read.piece to p) p)) (eq-eqb p.element.number number begun_p.1)
          ∙ ap (λ spans. let x : core.CoreProgress = record { work = p.kind; spans = spans } in x) (cursor_moves p.pieces read.piece to)

      other : (o : Option Progress) → progress_of facts.progress m ≡ o → m ≢ number → option_map passed (option_map (moved_to number read.piece to) o) ≡ option_map passed o
      other None is ne = refl
      other (Some q) is ne =
          let own_number = (found (IsBegun facts.newest) facts.progress m q kept.begun is).1 in
          ap (λ (b : Bool). Some (passed (cond b (come_to read.piece to q) q))) (ne_eqb q.element.number number (λ e. ne (sym own_number ∙ e)))

      by : (m ≡ number) ⊎ (m ≢ number) → map.get (map.insert (all_passed facts.progress) number come) m ≡ Some c
      by (inl e) =
          let is : Some (passed (moved_to number read.piece to p)) ≡ Some c = sym (ap (λ (o : Option Progress). option_map passed (option_map (moved_to number read.piece to) o)) (ap (progress_of facts.progress) e ∙ next.here)) ∙ all in
          ap (map.get (map.insert (all_passed facts.progress) number come)) e ∙ written_here nat_cmp_total nat_cmp-IsAntisymmetric (all_passed facts.progress) number (Some come) ∙ ap Some (sym moved_p) ∙ is
      by (inr ne) =
          written_apart nat_cmp_total nat_cmp-IsAntisymmetric (all_passed facts.progress) number (Some come) m ne ∙ get_passed facts.progress m ∙ sym (other (progress_of facts.progress m) refl ne) ∙ all

  -- a begun reorganisation of the element is this one's twin
  come_begun : (q : Progress) → IsBegun facts.newest q → q.element.number ≡ number → IsBegun facts.newest (come_to read.piece to q)
  come_begun q h is =
      let same : p.element ≡ q.element = some_one (sym there ∙ subst (λ (m : ℕ). element_at facts.newest m ≡ Some q.element) is h.element) in
      let work : p.kind ≡ q.kind = some_one (sym begun_p.0.wanted_so ∙ ap wanted_work same ∙ h.wanted_so) in
      record {
        element = h.element;
        wanted_so = h.wanted_so;
        joined = join_stays (start (scan_range_of q.element q.kind)) (end (scan_range_of q.element q.kind)) q.pieces read.piece to h.joined;
        bounds = bounds_stay (scan_range_of q.element q.kind) q.pieces read.piece to (subst (λ (u : Work). IsPieceBound (scan_range_of q.element u) to) work (subst (λ (e : ElementDef). IsPieceBound (scan_range_of e p.kind) to) same bound_to)) h.bounds;
      }

  in_pieces : AreInPieces (each (moved_to number read.piece to) facts.progress)
  in_pieces =
      move_in_pieces facts.progress number read.piece to p next.span next.here next.piece
      (subst (λ (cursor : Bytes). is_le (bytes_cmp cursor to) ≡ true) next.cursor next.read_so.comes.onward)
      (subst (λ (high : Bytes). is_le (bytes_cmp to high) ≡ true) next.high next.read_so.comes.bounded)
      (λ m q at. (found (IsBegun facts.newest) facts.progress m q kept.begun at).1) kept.in_pieces

  pub piece_kept : IsKept (after facts (piece_entry now number read))
  piece_kept = record {
    counted = k.counted;
    valid = k.valid;
    since = k.since;
    sound = k.sound;
    sound_before = k.sound_before;
    tables = k.tables;
    core_kept = with_progress (moved the_kinds w number come (after facts (piece_entry now number read)).pairs) (all_passed (each (moved_to number read.piece to) facts.progress)) fewer (subst After lays (core_by p.kind refl));
    rows = k.rows;
    rows_before = k.rows_before;
    begun = all_moved (IsBegun facts.newest) number read.piece to come_begun facts.progress k.begun;
    different = move_different number read.piece to facts.progress k.different;
    in_pieces = in_pieces;
  }

pub lemma_pieces_keep : PiecesKeep
lemma_pieces_keep facts now number read later next kept = (lays facts now number read later next kept, piece_kept facts now number read later next kept)
