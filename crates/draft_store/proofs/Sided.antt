-- Every draft that a call makes has its control records and its pairs apart, if the store applies it.
use Rattle.std.proofs.Common.{◌≡◌, ℕ, ◌+◌, ◌^◌, eqb, ne_eqb, true≢false, Bool, true, false, cond, not, List, [], ◌∷◌, Option, Some, None, option_map, Result, Ok, Err, refl, sym, ap, subst, ◌∙◌, ◌⊎◌, inl, inr, slice_get}
use Rattle.std.specs.Prelude.{nat_lt}
use Rattle.std.specs.List.{AllByRecursion, flat_map}
use Rattle.std.specs.FinMap as map
use Rattle.byte_map.specs.Writes.{AllKeys}
use Rattle.byte_map.proofs.Written.{same_or_apart, apart, AllKeys-append, AllKeys-map}
use Rattle.keycode.specs.Order.{bytes_cmp}
use Rattle.keycode.specs.declared.value.Value.{Value}
use Rattle.keycode.proofs.Orders.{bytes_cmp_total, bytes_cmp-IsAntisymmetric}
use Rattle.keycode.specs.declared.fault.KeyFault.{KeyFault}
use Rattle.keycode.specs.declared.fault.KeyFault.TheVariants.{BadTag}
use Rattle.row_map.specs.declared.expect.Expect.{Expect}
use Rattle.row_map.specs.declared.key.KeyOf.{KeyOf}
use Rattle.row_map.specs.declared.key.KeyOf.TheVariants.{Exists, Column, Index as IndexKey}
use Rattle.row_map.specs.Expect.{Holds, View}
use Rattle.row_map.specs.Keys.{row_code, index_code, key_code as pair_code}
use Rattle.row_map.specs.ReadKey.{key_at, row_key_at, index_key_at}
use Rattle.row_map.specs.Rows.{Bytes, RowKey, Cells, Rows, Pairs}
use Rattle.row_map.specs.Writes.{Writes, Batch, noted}
use Rattle.schema_version.specs.declared.element.Kind.{Kind}
use Rattle.schema_version.specs.declared.element.Kind.TheVariants.{Index, Optional, Required}
use Rattle.schema_version.specs.declared.element.ElementDef.{ElementDef}
use Rattle.schema_version.specs.declared.element.Work.{Work}
use Rattle.schema_version.specs.declared.element.Work.TheVariants.{Fill, Clear}
use Rattle.schema_version.specs.Version.{Version}
use Rattle.element_state.specs.Elements.{Change, rows_after, HasForm}
use Rattle.element_state.specs.Items.{put_pair}
use Rattle.element_state.specs.Kinds.{kind_meaning}
use Rattle.element_state.specs.Operations.{cells_of}
use Rattle.element_state.specs.Schemas.{Schema, AreLawful}
use Rattle.element_state.specs.Sources.{Source, IndexOn, OptionalIn, RequiredIn, source_alone}
use Rattle.element_state.specs.Versions.{ElementKind, the_kinds, schema_of}
use Rattle.element_state.specs.Whole.{RunsAll, all_writes}
use Rattle.row_map.specs.Rows.{AreStorable}
use Rattle.element_state.specs.lemmas.Effects.{both_storable, storable_after}
use Rattle.element_state.proofs.Schemas.{formed_writes}
use Rattle.row_write.specs.declared.fault.RowFault.{RowFault}
use Rattle.row_write.specs.Made.{PreparedTxn, IsMade}
use Rattle.row_write.specs.Plain.{applied, reported}
use Rattle.row_write.specs.Prepare.{writes_of, accepted_writes, txn_writes, Encodes}
use Rattle.row_write.specs.Reads.{IsRowKey}
use Rattle.reorganise.specs.declared.work.Progress.{Progress}
use Rattle.reorganise.specs.declared.work.Span.{Span}
use Rattle.reorganise.specs.Batches.{row_in, row_put, cell_removed, removed_of, pair_writes, piece_writes, batch_for}
use Rattle.reorganise.specs.Laws.{HasBounds, IsPieceBound}
use Rattle.reorganise.specs.ScanRanges.{scan_range_of, cleared, row_at, is_item, is_item_read}
use Rattle.replay.specs.Kept.{IsKept, IsBegun, used_before}
use Rattle.replay.specs.Replay.{Facts, progress_of}
use Rattle.replay.proofs.Begun.{found}
use Rattle.replay.proofs.Changes.{changes, all_applied}
use Rattle.replay.proofs.Encoding.{Agreeing, encodes}
use Rattle.replay.proofs.Operations.{all_steps}
use Rattle.replay.proofs.Pieces.{at_place}
use Rattle.replay.proofs.Soundness.{fits, small, lawful}
use Rattle.drafts.specs.Calls.{Working, reorg_worked, piece_draft}
use Rattle.drafts.specs.Mirror.{Mirrors, piece_of}
use Rattle.drafts.specs.declared.record.Record.TheVariants.{Cursor as OfCursor}
use Rattle.drafts.specs.Store.{Store, IsThere}
use Rattle.drafts.proofs.Opens.{none_some, some_one}
use Rattle.drafts.proofs.Pieces.{cursor_one, found_of, IsFound}
use Rattle.draft_store.specs.OneMap.{is_pair, ArePairs}

abbrev IsPairKey : Bytes → Type 0
IsPairKey x = is_pair x ≡ true

-- ---- keys of pairs

row_pair : (table : ℕ) (key : List Value) (element : ℕ) → IsPairKey (row_code table key element)
unfolding row_code
row_pair table key element = refl

index_pair : (element : ℕ) (values : List Value) → IsPairKey (index_code element values)
unfolding index_code
index_pair element values = refl

key_pair : (k : KeyOf) → IsPairKey (pair_code k)
key_pair (Exists table key) = row_pair table key 0
key_pair (Column table key element) = row_pair table key element
key_pair (IndexKey element values) = index_pair element values

form_pair : (x : Bytes) → HasForm x → IsPairKey x
form_pair x f = ap is_pair f.encoded ∙ key_pair f.key

pub read_pair : (version : Version) (table : ℕ) (primary : List Value) (x : Bytes) → IsRowKey version table primary x → IsPairKey x
read_pair version table primary x (inl e) = ap is_pair e ∙ row_pair table primary 0
read_pair version table primary x (inr column) = ap is_pair column.3 ∙ row_pair table primary column.0

-- ---- where pieces begin and end

end_pair : (b : Bool) (tag : ℕ) (one : Bytes) → nat_lt tag 4 ≡ false → nat_lt (tag + 1) 4 ≡ false → IsPairKey (cond b (tag ∷ one) ((tag + 1) ∷ []))
end_pair true tag one first next = ap not first
end_pair false tag one first next = ap not next

cleared_pair : (element : ElementDef) (kind : Kind) (x : Bytes) → IsPieceBound (cleared kind element) x → IsPairKey x
cleared_pair element (Index columns) x (inl e) = ap is_pair e
cleared_pair element (Index columns) x (inr (inl e)) = ap is_pair e ∙ end_pair (nat_lt (element.number + 1) (2 ^ 32)) 88 _ refl refl
cleared_pair element (Index columns) x (inr (inr i)) = ap is_pair i.2 ∙ key_pair (IndexKey element.number i.0)
cleared_pair element (Optional type) x (inl e) = ap is_pair e
cleared_pair element (Optional type) x (inr (inl e)) = ap is_pair e ∙ end_pair (nat_lt (element.table + 1) (2 ^ 32)) 82 _ refl refl
cleared_pair element (Optional type) x (inr (inr i)) = ap is_pair i.2 ∙ key_pair (Exists element.table i.0)
cleared_pair element (Required type fallback) x (inl e) = ap is_pair e
cleared_pair element (Required type fallback) x (inr (inl e)) = ap is_pair e ∙ end_pair (nat_lt (element.table + 1) (2 ^ 32)) 82 _ refl refl
cleared_pair element (Required type fallback) x (inr (inr i)) = ap is_pair i.2 ∙ key_pair (Exists element.table i.0)

pub bound_pair : (element : ElementDef) (work : Work) (x : Bytes) → IsPieceBound (scan_range_of element work) x → IsPairKey x
bound_pair element Fill x (inl e) = ap is_pair e
bound_pair element Fill x (inr (inl e)) = ap is_pair e ∙ end_pair (nat_lt (element.table + 1) (2 ^ 32)) 82 _ refl refl
bound_pair element Fill x (inr (inr i)) = ap is_pair i.2 ∙ key_pair (Exists element.table i.0)
bound_pair element Clear x at = cleared_pair element element.kind x at

-- ---- what a piece writes

kind_pair : (number : ℕ) (source : Source) (k : RowKey) (r : Cells) → IsPairKey ((kind_meaning number source).pair_key k r)
kind_pair number (IndexOn columns) k r = index_pair number _
kind_pair number (OptionalIn type) k r = row_pair k.0 k.1 number
kind_pair number (RequiredIn type fallback) k r = row_pair k.0 k.1 number

put_pairs : (b : Bool) (x : Bytes) (v : Option Bytes) → IsPairKey x → AllKeys IsPairKey (put_pair (cond b (option_map (λ (w : Bytes). (x, w)) v) None))
put_pairs true x None is = tt
put_pairs true x (Some w) is = (is, tt)
put_pairs false x v is = tt

fill_pairs : (pairs : Pairs) (element : ElementDef) (o : Option (List Value)) → AllKeys IsPairKey (row_put pairs element o)
fill_pairs pairs element None = tt
fill_pairs pairs element (Some key) =
    let m = kind_meaning element.number (source_alone element.kind) in
    let cells = cells_of (row_in pairs element key) in
    put_pairs m.filled (m.pair_key (element.table, key) cells) (m.pair_value (element.table, key) cells) (kind_pair element.number (source_alone element.kind) (element.table, key) cells)

cell_pairs : (element : ElementDef) (o : Option (List Value)) → AllKeys IsPairKey (cell_removed element o)
cell_pairs element None = tt
cell_pairs element (Some key) = (key_pair (Column element.table key element.number), tt)

-- what begins with neither letter is no item
item_begins : (columns : List ℕ) (element : ElementDef) (r s : Bool) (row index : Result KeyOf KeyFault) → r ≡ false → s ≡ false → is_item_read (cleared (Index columns) element) (cond r row (cond s index (Err BadTag))) ≡ true → ⊥
item_begins columns element r s row index e f is = true≢false (sym is ∙ (λ i. is_item_read (cleared (Index columns) element) (cond (e i) row (cond (f i) index (Err BadTag)))))

other_tag : (tag number : ℕ) → nat_lt tag 4 ≡ true → nat_lt number 4 ≡ false → eqb tag number ≡ false
other_tag tag number low high = ne_eqb tag number (λ e. true≢false (sym low ∙ ap (λ (n : ℕ). nat_lt n 4) e ∙ high))

item_pair : (columns : List ℕ) (element : ElementDef) (x : Bytes) → is_item (cleared (Index columns) element) x ≡ true → IsPairKey x
unfolding key_at
item_pair columns element [] is = absurd (true≢false (sym is))
item_pair columns element (tag ∷ bytes) is = elim (nat_lt tag 4) as (λ b. nat_lt tag 4 ≡ b → not b ≡ true) [
  | false ↦ λ e. refl
  | true ↦ λ e. absurd (item_begins columns element (eqb tag 82) (eqb tag 88) (row_key_at bytes) (index_key_at bytes) (other_tag tag 82 e refl) (other_tag tag 88 e refl) is)
] refl

index_removed : (b : Bool) (x : Bytes) → (b ≡ true → IsPairKey x) → AllKeys IsPairKey (let ws : Writes = cond b ((x, None) ∷ []) [] in ws)
index_removed true x is = (is refl, tt)
index_removed false x is = tt

clear_pairs : (element : ElementDef) (kind : Kind) (x : Bytes) → AllKeys IsPairKey (removed_of kind element x)
clear_pairs element (Index columns) x = index_removed (is_item (cleared (Index columns) element) x) x (item_pair columns element x)
clear_pairs element (Optional type) x = cell_pairs element (row_at element.table x)
clear_pairs element (Required type fallback) x = cell_pairs element (row_at element.table x)

one_pair : (pairs : Pairs) (element : ElementDef) (work : Work) (x : Bytes) → AllKeys IsPairKey (pair_writes pairs element work x)
one_pair pairs element Fill x = fill_pairs pairs element (row_at element.table x)
one_pair pairs element Clear x = clear_pairs element element.kind x

all_pairs : (f : Bytes × Bytes → Writes) → ((e : Bytes × Bytes) → AllKeys IsPairKey (f e)) → (es : List (Bytes × Bytes)) → AllKeys IsPairKey (flat_map f es)
all_pairs f h [] = tt
all_pairs f h (e ∷ es) = AllKeys-append IsPairKey (f e) (flat_map f es) (h e) (all_pairs f h es)

-- ---- batches

noted_pairs : (ws : Writes) (b : Batch) → AllKeys IsPairKey ws → ArePairs b → ArePairs (noted b ws)
noted_pairs [] b h all = all
noted_pairs (w ∷ ws) b h all = noted_pairs ws (map.insert b w.0 w.1) h.1 (λ q v at. elim (same_or_apart bytes_cmp_total bytes_cmp-IsAntisymmetric q w.0) [
  | inl e ↦ subst IsPairKey (sym e) h.0
  | inr ne ↦ all q v (sym (map.get-insert bytes_cmp_total b w.0 w.1 q ∙ ap (λ t. cond t (Some w.1) (map.get b q)) (apart bytes_cmp_total bytes_cmp-IsAntisymmetric q w.0 ne)) ∙ at)
])

pub no_pairs : {X : Type 0} → ArePairs (map.empty {X = X} {R = bytes_cmp})
no_pairs key value at = none_some (sym (map.get-empty bytes_cmp key) ∙ at)

pub batch_pairs : (ws : Writes) → AllKeys IsPairKey ws → ArePairs (let b : Batch = noted map.empty ws in b)
batch_pairs ws h = noted_pairs ws map.empty h no_pairs

-- ---- a piece

cursor_is : (P : Bytes → Type 0) (o : Option Span) (cursor : Bytes) → option_map (λ (s : Span). OfCursor s.cursor) o ≡ Some (OfCursor cursor) → ((s : Span) → o ≡ Some s → P s.cursor) → P cursor
cursor_is P None cursor e h = none_some e
cursor_is P (Some s) cursor e h = subst P (cursor_one (some_one e)) (h s refl)

pub piece_low : (facts : Facts) (store : Store) (w : Working) → IsKept facts → Mirrors facts store → AllByRecursion (IsThere store.control) (piece_draft w).reads → IsPairKey w.read.key_range.low
piece_low facts store w k m reads =
    let n = w.read.element.number in
    let own : IsFound (progress_of facts.progress n) (reorg_worked w) = found_of (progress_of facts.progress n) (reorg_worked w) (sym (m.reorgs n) ∙ reads.0) in
    let begun : IsBegun facts.newest own.progress = (found (IsBegun facts.newest) facts.progress n own.progress k.begun own.here).0 in
    let there : option_map (λ (s : Span). OfCursor s.cursor) (slice_get own.progress.pieces w.read.piece) ≡ Some (OfCursor w.read.key_range.low)
    = ap (λ (o : Option Progress). option_map (λ (s : Span). OfCursor s.cursor) (piece_of o w.read.piece)) (sym own.here) ∙ sym (m.cursors n w.read.piece) ∙ reads.1.0 in
    cursor_is IsPairKey (slice_get own.progress.pieces w.read.piece) w.read.key_range.low there
    (λ s at. bound_pair own.progress.element own.progress.kind s.cursor (at_place (HasBounds (scan_range_of own.progress.element own.progress.kind)) own.progress.pieces w.read.piece s begun.bounds at).cursor)

pub piece_batch : (w : Working) → ArePairs (batch_for w.read)
piece_batch w =
    batch_pairs (piece_writes w.read.key_range.pairs w.read.element w.read.kind)
    (all_pairs (λ (e : Bytes × Bytes). pair_writes w.read.key_range.pairs w.read.element w.read.kind e.0) (λ e. one_pair w.read.key_range.pairs w.read.element w.read.kind e.0) (map.entries w.read.key_range.pairs))

-- ---- a transaction

all_formed : (s : Schema ElementKind) (R : Rows) (cs : List Change) → AreLawful the_kinds s → AreStorable R → RunsAll the_kinds s R cs → AllKeys HasForm (all_writes the_kinds s cs)
all_formed s R [] lawful held runs = tt
all_formed s R (c ∷ cs) lawful held runs =
    AllKeys-append HasForm _ (all_writes the_kinds s cs) (formed_writes the_kinds s lawful c (both_storable R c runs.0.fits held runs.0.storable))
    (all_formed s (rows_after R c) cs lawful (storable_after R c held runs.0.storable) runs.1)

module _ (facts : Facts) (k : IsKept facts) where
  agreeing_before : Agreeing (used_before facts facts.moment) facts.pairs facts.rows
  agreeing_before = record {
    sound = k.sound_before;
    small = small (used_before facts facts.moment) k.sound_before;
    fit = fits (used_before facts facts.moment) k.sound_before;
    lawful = k.rows_before;
    held = k.core_kept.held;
    consistent = k.core_kept.before;
  }

  agreeing_newest : Agreeing facts.newest facts.pairs facts.rows
  agreeing_newest = record { sound = k.sound; small = small facts.newest k.sound; fit = fits facts.newest k.sound; lawful = k.rows; held = k.core_kept.held; consistent = k.core_kept.newest }

  agreeing : (version : Version) → (version ≡ used_before facts facts.moment) ⊎ (version ≡ facts.newest) → Agreeing version facts.pairs facts.rows
  agreeing version counts = elim counts [
    | inl e ↦ subst (λ (v : Version). Agreeing v facts.pairs facts.rows) (sym e) agreeing_before
    | inr e ↦ subst (λ (v : Version). Agreeing v facts.pairs facts.rows) (sym e) agreeing_newest
  ]

  module _ (txn : PreparedTxn) (made : IsMade txn) (counts : (txn.schema ≡ used_before facts facts.moment) ⊎ (txn.schema ≡ facts.newest)) (holds : Holds txn.expect facts.pairs) where
    agrees : Agreeing txn.schema facts.pairs facts.rows
    agrees = agreeing txn.schema counts

    encoded : Encodes txn.schema txn.ops made.view facts.rows
    encoded = encodes txn.schema txn.ops made.view facts.pairs facts.rows agrees made.keys (subst (λ (e : Expect). Holds e facts.pairs) made.expected holds) made.sound

    by_result : (r : Result Rows (ℕ × RowFault)) → applied 0 facts.rows txn.ops ≡ r → AllKeys HasForm (accepted_writes (reported r) (writes_of txn.schema facts.rows txn.ops))
    by_result (Ok new) is =
        subst (AllKeys HasForm) (all_applied txn.schema 0 facts.rows new txn.ops is).1
        (all_formed (schema_of txn.schema) facts.rows (changes facts.rows txn.ops) (lawful txn.schema agrees.sound) agrees.held (all_steps txn.schema facts.rows txn.ops agrees.small agrees.lawful made.sound).0)
    by_result (Err refusal) is = tt

    pub txn_batch : ArePairs txn.batch
    txn_batch =
        subst (λ (b : Batch). ArePairs b) (sym (made.prepared_so facts.rows encoded).1)
        (batch_pairs (txn_writes txn.schema facts.rows txn.ops) (AllKeys-map HasForm IsPairKey form_pair (txn_writes txn.schema facts.rows txn.ops) (by_result (applied 0 facts.rows txn.ops) refl)))

pub txn_points : (txn : PreparedTxn) → IsMade txn → ArePairs txn.expect.points
txn_points txn made =
    subst (λ (view : View). ArePairs view) (sym (ap (λ (e : Expect). e.points) made.expected)) (λ key value at.
    let read = (made.keys key).1 (value, at) in
    read_pair txn.schema _ _ key read.3)
