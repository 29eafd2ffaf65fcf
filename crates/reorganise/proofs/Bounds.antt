-- Pieces in the words of the laws: they join, end, and stand where they may.
use Rattle.std.proofs.Common.{Some, None, ◌≡◌, eqb-true, ℕ, zero, suc, ◌+◌, ◌*◌, ◌/◌, ◌<◌, ◌^◌, ◌==◌, Bool, true, false, ◌&&◌, if◌then◌else◌, List, [], ◌∷◌, length, Ok, slice_get, unwrap_or, refl, sym, ap, subst, ◌∙◌, inl, inr}
use Rattle.std.specs.List.{AllByRecursion}
use Rattle.std.proofs.lemmas.Bool.{lt-ltb}
use Rattle.std.specs.declared.cmp.Ordering.{Ordering}
use Rattle.std.specs.declared.cmp.Ordering.TheVariants.{Less, Equal, Greater}
use Rattle.std.specs.Ordering.{is_eq}
use Rattle.std.specs.FinMap as map
use Rattle.std.specs.Cmp.{tied_itself}
use Rattle.byte_map.proofs.Order.{bytes_cmp_total, bytes_cmp-IsAntisymmetric}
use Rattle.collections.proofs.Steps.{AllByRecursion-append}
use Rattle.keycode.specs.Order.{bytes_cmp}
use Rattle.row_map.specs.declared.key.KeyOf.{KeyOf}
use Rattle.row_map.specs.declared.key.KeyOf.TheVariants.{Exists, Column, Index as IndexKey}
use Rattle.row_map.specs.Keys.{key_code, IsKey}
use Rattle.row_map.specs.Rows.{Bytes, Pairs}
use Rattle.row_map.specs.Ranges.{Low, High, At}
use Rattle.row_map.specs.Walk.{key_range}
use Rattle.row_map.proofs.KeyLaws.{key_again}
use Rattle.row_map.proofs.Entries.{each_found}
use Rattle.row_map.proofs.KeyRanges.{find_key_range, key_range_sorted}
use Rattle.schema_version.specs.declared.element.Kind.{Kind}
use Rattle.schema_version.specs.declared.element.Kind.TheVariants.{Index, Optional, Required}
use Rattle.schema_version.specs.declared.element.ElementDef.{ElementDef}
use Rattle.element_state.specs.Elements.{HasForm, AreFormed}
use Rattle.element_state.specs.Items.{Bounds, AnyKey, RowsOf, IsBound}
use Rattle.element_state.specs.Kinds.{kind_clear}
use Rattle.element_state.specs.Sources.{source_in, source_alone}
use Rattle.element_state.specs.Ended.{HaveEnded}
use Rattle.schema_version.specs.declared.element.Work.{Work}
use Rattle.schema_version.specs.declared.element.Work.TheVariants.{Fill, Clear}
use Rattle.reorganise.specs.declared.work.Span.{Span}
use Rattle.reorganise.specs.declared.scan_range.ScanRange.{ScanRange}
use Rattle.reorganise.specs.declared.scan_range.ScanRange.TheVariants.{Rows, Entries}
use Rattle.reorganise.specs.ScanRanges.{scan_range_of, cleared, prefix, prefix_end, start, end, is_item_read, is_item, IsItemKey, item_keys, items}
use Rattle.reorganise.specs.Pieces.{bound, span_at, spans, is_ended, are_ended}
use Rattle.element_state.specs.Whole.{fresh_spans}
use mathlib.Core.List.{map as each}
use Rattle.reorganise.specs.Laws.{pieces_of, passed_by, PiecesJoin, PiecesEnd, BeginsFresh, CursorStands, CursorMoves, JoinStays, bounds_of, FillRange, ClearRangeIs, IsPieceBound, HasBounds, ClearIsOfKind, BeginsAtBounds, BoundsStay, ComesToBound, BoundsServe}
use Rattle.reorganise.proofs.Items.{Pair, item_keys-cons}
use Rattle.reorganise.proofs.Order.{and_true, some_in}

-- ---- joined and ended

pub pieces_join : PiecesJoin
pieces_join low high [] j = j
pieces_join low high (s ∷ ss) j = (j.0, pieces_join s.high high ss j.2)

equal_of : (r : Ordering) → is_eq r ≡ true → r ≡ Equal
equal_of Less e = cc
equal_of Equal e = refl
equal_of Greater e = cc

both_true : (a b : Bool) → a ≡ true → b ≡ true → (a && b) ≡ true
both_true true b p q = q
both_true false b p q = cc

have_ended : (pieces : List Span) → are_ended pieces ≡ true → HaveEnded (pieces_of pieces)
have_ended [] e = tt
have_ended (s ∷ ss) e =
    let p = and_true (is_ended s) (are_ended ss) e in
    (bytes_cmp-IsAntisymmetric s.cursor s.high (equal_of (bytes_cmp s.cursor s.high) p.0), have_ended ss p.1)

ended_are : (pieces : List Span) → HaveEnded (pieces_of pieces) → are_ended pieces ≡ true
ended_are [] h = refl
ended_are (s ∷ ss) h = both_true (is_ended s) (are_ended ss) (ap (λ k. is_eq (bytes_cmp k s.high)) h.0 ∙ ap is_eq (tied_itself bytes_cmp_total s.high)) (ended_are ss h.1)

pub pieces_end : PiecesEnd
pieces_end pieces = (have_ended pieces, ended_are pieces)

-- ---- cursors

abbrev AreFresh : List Span → Type 0
AreFresh = AllByRecursion (λ s. s.cursor ≡ s.low)

fresh_pieces : (pieces : List Span) → AreFresh pieces → passed_by pieces ≡ fresh_spans (each (λ (s : Span). s.low) pieces)
fresh_pieces [] h = refl
fresh_pieces (s ∷ ss) h = λ i. record { low = s.low; cursor = h.0 i } ∷ fresh_pieces ss h.1 i

spans_fresh : (scan_range : ScanRange) (keys : List Bytes) (pieces k : ℕ) → AreFresh (spans scan_range keys pieces k)
spans_fresh scan_range keys pieces zero = tt
spans_fresh scan_range keys pieces (suc k) = AllByRecursion-append (λ (s : Span). s.cursor ≡ s.low) (spans scan_range keys pieces k) (span_at scan_range keys pieces k ∷ []) (spans_fresh scan_range keys pieces k) (refl, tt)

pub begins_fresh : BeginsFresh
begins_fresh element kind pairs pieces =
    let scan_range = scan_range_of element kind in
    fresh_pieces (spans scan_range (items scan_range pairs) pieces pieces) (spans_fresh scan_range (items scan_range pairs) pieces pieces)

same_some : {A : Type 0} (v w : A) → Some v ≡ Some w → v ≡ w
same_some v w e = cc

none_some : {A B : Type 0} (v : A) → None ≡ Some v → B
none_some v e = absurd cc

pub cursor_stands : CursorStands
cursor_stands [] place span at = none_some span at
cursor_stands (s ∷ ss) zero span at = ap (λ (x : Span). x.cursor) (same_some s span at)
cursor_stands (s ∷ ss) (suc place) span at = cursor_stands ss place span at

pub cursor_moves : CursorMoves
cursor_moves [] place to = refl
cursor_moves (s ∷ ss) zero to = refl
cursor_moves (s ∷ ss) (suc place) to = λ i. record { low = s.low; cursor = s.cursor } ∷ cursor_moves ss place to i

pub join_stays : JoinStays
join_stays low high [] place to j = j
join_stays low high (s ∷ ss) zero to j = j
join_stays low high (s ∷ ss) (suc place) to j = (j.0, j.1, join_stays s.high high ss place to j.2)

pub bounds_stay : BoundsStay
bounds_stay range [] place to b all = tt
bounds_stay range (s ∷ ss) zero to b all = (record { low = all.0.low; high = all.0.high; cursor = b }, all.1)
bounds_stay range (s ∷ ss) (suc place) to b all = (all.0, bounds_stay range ss place to b all.1)

-- ---- ranges

pub end_is : (tag n : ℕ) → n + 1 < 2 ^ 32 → prefix_end tag n ≡ prefix tag (n + 1)
end_is tag n fits = ap (λ b. if b then prefix tag (n + 1) else (tag + 1) ∷ []) (lt-ltb _ _ fits)

pub fill_range : FillRange
fill_range element fits = (refl, end_is 82 element.table fits)

pub clear_range : ClearRangeIs
clear_range element range = by_kind element.kind
  where
    by_kind : (k : Kind) → (start (cleared k element) ≡ (kind_clear element.table element.number (source_alone k)).low) × (end (cleared k element) ≡ (kind_clear element.table element.number (source_alone k)).high)
    by_kind (Index columns) = (refl, end_is 88 element.number range.number_below)
    by_kind (Optional type) = (refl, end_is 82 element.table range.table_below)
    by_kind (Required type fallback) = (refl, end_is 82 element.table range.table_below)

pub clear_is_of_kind : ClearIsOfKind
clear_is_of_kind version element = by_kind element.kind
  where
    by_kind : (k : Kind) → kind_clear element.table element.number (source_alone k) ≡ kind_clear element.table element.number (source_in version k)
    by_kind (Index columns) = refl
    by_kind (Optional type) = refl
    by_kind (Required type fallback) = refl

-- ---- bounds

-- where the pieces of a scan range may begin and end
abbrev pub bounds_in : ScanRange → Bounds
bounds_in (Rows table) = RowsOf table
bounds_in (Entries number) = AnyKey

bounds_are : (element : ElementDef) (kind : Work) → bounds_in (scan_range_of element kind) ≡ bounds_of element kind
bounds_are element Fill = refl
bounds_are element Clear = by_kind element.kind
  where
    by_kind : (k : Kind) → bounds_in (cleared k element) ≡ (kind_clear element.table element.number (source_alone k)).bounds
    by_kind (Index columns) = refl
    by_kind (Optional type) = refl
    by_kind (Required type fallback) = refl

item_bound : (scan_range : ScanRange) (x : Bytes) → IsItemKey scan_range x → IsBound (bounds_in scan_range) x
item_bound (Rows table) x i = At i.0 i.1.1.values i.2
item_bound (Entries number) x i = tt

front_bound : (scan_range : ScanRange) → IsBound (bounds_in scan_range) (start scan_range)
front_bound (Rows table) = Low refl
front_bound (Entries number) = tt

abbrev FitsRows : ScanRange → Type 0
FitsRows (Rows table) = table + 1 < 2 ^ 32
FitsRows (Entries number) = Unit {0}

back_bound : (scan_range : ScanRange) → FitsRows scan_range → IsBound (bounds_in scan_range) (end scan_range)
back_bound (Rows table) fits = High (end_is 82 table fits)
back_bound (Entries number) fits = tt

bound_in : (scan_range : ScanRange) (key : Bytes) → FitsRows scan_range → IsPieceBound scan_range key → IsBound (bounds_in scan_range) key
bound_in range key fits (inl low) = subst (IsBound (bounds_in range)) (sym low) (front_bound range)
bound_in range key fits (inr (inl high)) = subst (IsBound (bounds_in range)) (sym high) (back_bound range fits)
bound_in range key fits (inr (inr item)) = item_bound range key item

fits_rows : (element : ElementDef) (kind : Work) → element.table + 1 < 2 ^ 32 → FitsRows (scan_range_of element kind)
fits_rows element Fill fits = fits
fits_rows element Clear fits = by_kind element.kind
  where
    by_kind : (k : Kind) → FitsRows (cleared k element)
    by_kind (Index columns) = tt
    by_kind (Optional type) = fits
    by_kind (Required type fallback) = fits

pub bounds_serve : BoundsServe
bounds_serve element kind key fits b = subst (λ bounds. IsBound bounds key) (bounds_are element kind) (bound_in (scan_range_of element kind) key (fits_rows element kind fits) b)

pub comes_to_bound : ComesToBound
comes_to_bound read r high = elim r.comes.ends [
  | inl e ↦ subst (IsPieceBound (scan_range_of read.element read.kind)) (sym e) high
  | inr i ↦ inr (inr i)
]

same_number : (m n : ℕ) → (m == n) ≡ true → m ≡ n
same_number m n e = eqb-true m n e

-- an item whose key is formed
form_item : (scan_range : ScanRange) (k : KeyOf) → IsKey k → is_item_read scan_range (Ok k) ≡ true → IsItemKey scan_range (key_code k)
form_item (Rows table) (Exists t key) f e = subst (λ n. IsItemKey (Rows n) (key_code (Exists t key))) (same_number t table e) (key, f, refl)
form_item (Rows table) (Column t key c) f e = cc
form_item (Rows table) (IndexKey c values) f e = cc
form_item (Entries number) (Exists t key) f e = cc
form_item (Entries number) (Column t key c) f e = cc
form_item (Entries number) (IndexKey c values) f e = subst (λ n. IsItemKey (Entries n) (key_code (IndexKey c values))) (same_number c number e) (values, f, refl)

pub item_formed : (scan_range : ScanRange) (x : Bytes) → HasForm x → is_item scan_range x ≡ true → IsItemKey scan_range x
item_formed scan_range x f e =
    subst (IsItemKey scan_range) (sym f.encoded) (form_item scan_range f.key f.form (ap (is_item_read scan_range) (sym (key_again f.key f.form)) ∙ ap (is_item scan_range) (sym f.encoded) ∙ e))

-- the items' keys are bounds
keys_bound : (scan_range : ScanRange) (es : List Pair) → AllByRecursion (λ (e : Pair). HasForm e.0) es → AllByRecursion (IsPieceBound scan_range) (item_keys scan_range es)
keys_bound scan_range [] h = tt
keys_bound scan_range (e ∷ es) h =
    elim (is_item scan_range e.0) as (λ b. is_item scan_range e.0 ≡ b → AllByRecursion (IsPieceBound scan_range) (item_keys scan_range (e ∷ es))) [
      | true ↦ λ item. subst (AllByRecursion (IsPieceBound scan_range)) (sym (item_keys-cons scan_range e es true item)) (inr (inr (item_formed scan_range e.0 h.0 item)), keys_bound scan_range es h.1)
      | false ↦ λ item. subst (AllByRecursion (IsPieceBound scan_range)) (sym (item_keys-cons scan_range e es false item)) (keys_bound scan_range es h.1)
    ] refl

key_range_formed : (pairs : Pairs) (low high : Bytes) → AreFormed pairs → AllByRecursion (λ (e : Pair). HasForm e.0) (key_range pairs low high)
key_range_formed pairs low high formed =
    each_found bytes_cmp bytes_cmp_total bytes_cmp-IsAntisymmetric (λ x v. HasForm x) (key_range pairs low high) (key_range_sorted pairs low high)
    (λ q x at. formed q x (some_in _ (map.get pairs q) x (sym (find_key_range pairs low high q) ∙ at)).1)

at_bound : (scan_range : ScanRange) (high : Bytes) (keys : List Bytes) (i : ℕ) → IsPieceBound scan_range high → AllByRecursion (IsPieceBound scan_range) keys → IsPieceBound scan_range (unwrap_or (slice_get keys i) high)
at_bound scan_range high [] i h all = h
at_bound scan_range high (k ∷ ks) zero h all = all.0
at_bound scan_range high (k ∷ ks) (suc i) h all = at_bound scan_range high ks i h all.1

module _ (scan_range : ScanRange) (keys : List Bytes) (all : AllByRecursion (IsPieceBound scan_range) keys) (pieces : ℕ) where
  bound_bound : (k : ℕ) → IsPieceBound scan_range (bound scan_range keys pieces k)
  bound_bound k = elim (k == 0) as (λ b. IsPieceBound scan_range (if b then start scan_range else unwrap_or (slice_get keys ((k * length keys) / pieces)) (end scan_range))) [
    | true ↦ inl refl
    | false ↦ at_bound scan_range (end scan_range) keys ((k * length keys) / pieces) (inr (inl refl)) all
  ]

  spans_bound : (k : ℕ) → AllByRecursion (HasBounds scan_range) (spans scan_range keys pieces k)
  spans_bound zero = tt
  spans_bound (suc k) =
      AllByRecursion-append (HasBounds scan_range) (spans scan_range keys pieces k) (span_at scan_range keys pieces k ∷ []) (spans_bound k)
      (record { low = bound_bound k; high = bound_bound (k + 1); cursor = bound_bound k }, tt)

pub begins_at_bounds : BeginsAtBounds
begins_at_bounds element kind pairs pieces formed =
    let scan_range = scan_range_of element kind in
    spans_bound scan_range (items scan_range pairs) (keys_bound scan_range (key_range pairs (start scan_range) (end scan_range)) (key_range_formed pairs (start scan_range) (end scan_range) formed)) pieces pieces
