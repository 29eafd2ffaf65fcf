-- The worked log: what it says, by computation, and why each of its entries may follow those before it.
use Rattle.std.proofs.Common.{◌≡◌, ℕ, ◌∙◌, Bool, true, false, cond, [], ◌∷◌, Option, Some, None, pos, Ok, inl, inr, refl, sym, ap, subst, arith}
use Rattle.std.specs.Prelude.{Contains}
use Rattle.std.specs.FinMap as map
use Rattle.std.specs.Ordering.{eq_by_cmp}
use Rattle.byte_map.proofs.Order.{bytes_cmp_total}
use Rattle.keycode.specs.Order.{bytes_cmp}
use Rattle.keycode.specs.Read.{value_at, int_at}
use Rattle.keycode.specs.declared.value.Value.TheVariants.{Int}
use Rattle.lease.specs.Timeline.{IsUsable}
use Rattle.row_map.specs.Rows.{Bytes, Cells, row_cmp}
use Rattle.row_map.specs.Keys.{row_code, index_code}
use Rattle.row_map.specs.ReadKey.{key_at, row_key_at, number_at, until_zero, last_number, with_number}
use Rattle.row_map.specs.Expect.{View, Holds}
use Rattle.row_map.specs.Writes.{noted}
use Rattle.row_map.specs.declared.shape.ColumnType.{ColumnType}
use Rattle.row_map.specs.declared.shape.ColumnType.TheVariants.{Int as IntColumn}
use Rattle.schema_version.specs.declared.element.ElementState.{ElementState}
use Rattle.schema_version.specs.declared.element.ElementState.TheVariants.{DeleteOnly, WriteOnly, Public}
use Rattle.schema_version.specs.declared.element.Kind.{Kind}
use Rattle.schema_version.specs.declared.element.Kind.TheVariants.{Index, Optional, Required}
use Rattle.schema_version.specs.declared.element.ElementDef.{ElementDef}
use Rattle.schema_version.specs.declared.step.Move.TheVariants.{Enter, Go}
use Rattle.schema_version.specs.inner.AcceptTables.{are_lawful}
use Rattle.schema_version.specs.Checks.{step_check}
use Rattle.schema_version.specs.Moves.{as_element, in_state}
use Rattle.schema_version.specs.Shape.{column_types}
use Rattle.schema_version.specs.Sound.{IsSoundVersion}
use Rattle.schema_version.specs.Version.{element_at}
use Rattle.schema_version.proofs.DeclaredSound.{declared_sound}
use Rattle.schema_version.proofs.Decides.{AreNumbered}
use Rattle.schema_version.proofs.Declared.{lawful}
use Rattle.schema_version.proofs.Lists.{here_or_later, some_same}
use Rattle.schema_version.proofs.Steps.{step_allowed}
use Rattle.row_write.specs.declared.op.RowOp.{RowOp}
use Rattle.row_write.specs.declared.op.RowOp.TheVariants.{Insert}
use Rattle.row_write.specs.declared.op.RowOutcome.TheVariants.{Done}
use Rattle.row_write.specs.inner.Checks.{ops_check, AreKnownUntil}
use Rattle.row_write.specs.inner.Enter.{KeySet, entered_all}
use Rattle.row_write.specs.Made.{PreparedTxn, IsMade, expects}
use Rattle.row_write.specs.Plain.{outcome}
use Rattle.row_write.specs.Prepare.{IsEncodedRow, Encodes, txn_writes}
use Rattle.row_write.specs.Reads.{IsPublicColumn}
use Rattle.row_write.specs.inner.IndexedColumns.{IsServed}
use Rattle.row_write.specs.inner.View.{HaveSameKeys}
use Rattle.row_write.proofs.Columns.{column_listed}
use Rattle.row_write.proofs.Decides.{ops_sound}
use Rattle.row_write.proofs.Entered.{reads_are}
use Rattle.row_write.proofs.Keys.{keys_tell, encoded_with}
use Rattle.row_write.proofs.Prepares.{made_from}
use Rattle.row_write.proofs.Ran.{prepared_for_all}
use Rattle.row_write.proofs.Sound.{served_from}
use Rattle.schema_version.specs.declared.element.Work.TheVariants.{Fill}
use Rattle.reorganise.specs.declared.work.Span.{Span}
use Rattle.reorganise.specs.declared.work.Progress.{Progress}
use Rattle.reorganise.specs.declared.read.Reading.{Reading}
use Rattle.reorganise.specs.Pieces.{part, IsReading}
use Rattle.reorganise.specs.Batches.{expect_of}
use Rattle.reorganise.proofs.Order.{get-part, some_in}
use Rattle.replay.specs.declared.entry.What.TheVariants.{Lease as Granted, Txn, Publish, Begin, Piece}
use Rattle.replay.specs.Headline.{MayFollow, AllFollow}
use Rattle.replay.specs.Kept.{IsKept}
use Rattle.replay.specs.Laws.{IsDone, Needs, AreFinished}
use Rattle.replay.specs.Replay.{Facts, start, replay, progress_of}
use Rattle.replay.specs.Worked.{table_t, opening, first_lease, insertion, index_i, to_delete_only, second_lease, to_write_only, third_lease, to_public, front_of_t, end_of_t, log, opened, leased, inserted, entered, leased_again, writing, leased_last, begun, filled, exists_pair, column_pair, index_pair, ALogSays, ALogFollows}
use Rattle.replay.proofs.Computed.{computed}
use Rattle.replay.proofs.Follows.{call_kept, headline}
use Rattle.replay.proofs.Time.{opened_kept}

-- ---- what it says

pairs_before : map.entries begun.pairs ≡ exists_pair ∷ column_pair ∷ []
unfolding row_code
pairs_before = simp (computed) refl

pairs_behind : map.entries (replay opening log).pairs ≡ exists_pair ∷ column_pair ∷ index_pair ∷ []
unfolding row_code index_code key_at row_key_at number_at until_zero value_at int_at last_number with_number
pairs_behind = simp (computed) refl

pub a_log_says : ALogSays
a_log_says =
    record {
      moment = refl;
      published = refl;
      none = refl;
      first = refl;
      second = refl;
      fourth = refl;
      fifth = refl;
      before_the_piece = pairs_before;
      pairs = pairs_behind;
    }

-- ---- the opening, and a lease

lawful_tables : are_lawful (table_t ∷ []) ≡ true
lawful_tables = refl

opening_sound : IsSoundVersion opening.schema
opening_sound = declared_sound (table_t ∷ []) ((lawful (table_t ∷ [])).0 lawful_tables)

kept_opened : IsKept opened
kept_opened = opened_kept opening (omega arith, omega arith) opening_sound

lease_follows : MayFollow opened 0 (Granted first_lease)
lease_follows = tt

kept_leased : IsKept leased
kept_leased = call_kept opened 0 (Granted first_lease) (omega arith) lease_follows kept_opened

-- ---- a transaction: prepared from what the empty store has under the row's keys

abbrev op : RowOp
op = Insert 1 (Int (pos 7) ∷ []) ((1, Int (pos 5)) ∷ [])

abbrev exists_key : Bytes
exists_key = row_code 1 (Int (pos 7) ∷ []) 0

abbrev column_key : Bytes
column_key = row_code 1 (Int (pos 7) ∷ []) 1

-- neither pair was there
abbrev view : View
view = map.insert (map.insert map.empty exists_key None) column_key None

served : IsServed opening.schema
served = served_from opening.schema opening_sound

abbrev reads : KeySet
reads = entered_all opening.schema map.empty insertion

same_keys : HaveSameKeys reads view
unfolding row_code
same_keys = (keys_tell reads view true true (simp (computed) refl) (simp (computed) refl)).0 refl

columns_are : column_types opening.schema 1 ≡ (1, IntColumn) ∷ []
columns_are = simp (computed) refl

none_in : {X : Type 0} {A : Type 0} (x : X) → Contains [] x → A
none_in x (k, below, is) = absurd (omega (arith, below))

-- a is the one public column
only_a : (number : ℕ) (type : ColumnType) → IsPublicColumn opening.schema 1 number type → number ≡ 1
only_a number type column =
    let indexed_columns = subst (λ l. Contains l (number, type)) columns_are (column_listed opening.schema served 1 number type column) in
    elim (here_or_later (1, IntColumn) (number, type) [] indexed_columns) [
      | inl same ↦ ap (λ (c : ℕ × ColumnType). c.0) (sym same)
      | inr more ↦ none_in (number, type) more
    ]

absent_exists : map.get view exists_key ≡ Some None
unfolding row_code
absent_exists = simp (computed) refl

absent_column : map.get view column_key ≡ Some None
unfolding row_code
absent_column = simp (computed) refl

no_row : {A : Type 0} (cells : Cells) → map.get (map.empty {R = row_cmp}) (1, Int (pos 7) ∷ []) ≡ Some cells → A
no_row cells there = absurd (let x : None ≡ Some cells = sym (map.get-empty row_cmp (1, Int (pos 7) ∷ [])) ∙ there in cc)

encoded_row : IsEncodedRow opening.schema view map.empty op
encoded_row =
    record {
      absent = λ _. absent_exists;
      present = λ cells there. no_row cells there;
      no_columns = λ number type column _. subst (λ n. map.get view (row_code 1 (Int (pos 7) ∷ []) n) ≡ Some None) (sym (only_a number type column)) absent_column;
      columns = λ number type cells column there. no_row cells there;
    }

encoded : Encodes opening.schema insertion view map.empty
encoded = encoded_with opening.schema insertion view reads (reads_are opening.schema served insertion) same_keys map.empty (encoded_row, tt)

accepted : outcome map.empty insertion ≡ Done
accepted = simp (computed) refl

checked : ops_check opening.schema insertion ≡ None
checked = simp (computed) refl

known : AreKnownUntil opening.schema insertion
known = λ _. (record { key = (omega arith, tt); values = (omega arith, tt) }, tt)

abbrev prepared : PreparedTxn
prepared =
    record {
      schema = opening.schema;
      lease = first_lease;
      ops = insertion;
      expect = expects view;
      batch = noted map.empty (txn_writes opening.schema map.empty insertion);
      reported = Done;
    }

made : IsMade prepared
made =
    made_from opening.schema opening.schema insertion insertion first_lease view prepared.batch Done refl refl (ops_sound opening.schema served insertion known checked, omega arith) (map.empty, encoded)
    (prepared_for_all opening.schema served view insertion map.empty Done prepared.batch encoded (sym accepted) refl)

-- where all that was read is that there is nothing
all_none : (one two : Bool) (found wanted : Option Bytes) (rest : Option (Option Bytes)) → rest ≡ None → cond one (Some None) (cond two (Some None) rest) ≡ Some wanted → found ≡ None → found ≡ wanted
all_none true two found wanted rest empty at is = is ∙ some_same at
all_none false true found wanted rest empty at is = is ∙ some_same at
all_none false false found wanted rest empty at is = absurd (let x : None ≡ Some wanted = sym empty ∙ at in cc)

view_at : (key : Bytes) → map.get view key ≡ cond (eq_by_cmp bytes_cmp key column_key) (Some None) (cond (eq_by_cmp bytes_cmp key exists_key) (Some None) (map.get (map.empty {R = bytes_cmp}) key))
view_at key =
    map.get-insert bytes_cmp_total (map.insert map.empty exists_key None) column_key None key
    ∙ ap (λ (o : Option (Option Bytes)). cond (eq_by_cmp bytes_cmp key column_key) (Some None) o) (map.get-insert bytes_cmp_total map.empty exists_key None key)

reads_hold : Holds (expects view) leased.pairs
reads_hold key missed =
    elim missed [
      | inl other ↦ other.2 (all_none (eq_by_cmp bytes_cmp key column_key) (eq_by_cmp bytes_cmp key exists_key) (map.get leased.pairs key) other.0 (map.get (map.empty {R = bytes_cmp}) key) (map.get-empty bytes_cmp key)
          (sym (view_at key) ∙ other.1) (map.get-empty bytes_cmp key))
      | inr none ↦ none
    ]

first_usable : IsUsable leased.line 1 1
first_usable = (first_lease, refl, record { in_time = inl (refl, omega arith, omega arith); full = refl }, omega arith)

transaction_follows : MayFollow leased 1 (Txn first_lease insertion)
transaction_follows = record { prepared = prepared; same = refl; due = record { made = made; usable = first_usable; schema = refl; holds = reads_hold }; done = accepted }

kept_inserted : IsKept inserted
kept_inserted = call_kept leased 1 (Txn first_lease insertion) (omega arith) transaction_follows kept_leased

-- ---- steps

numbered : (facts : Facts) → IsKept facts → AreNumbered facts.newest
numbered facts kept n e at = (kept.sound.elements n e at).own

entry_checked : step_check inserted.newest to_delete_only ≡ Ok tt
entry_checked = simp (computed) refl

entry_finished : AreFinished inserted to_delete_only
entry_finished number to element moved at =
    elim (here_or_later (Enter index_i DeleteOnly) (Go number to) [] moved) [
      | inl same ↦ cc
      | inr more ↦ none_in (Go number to) more
    ]

entry_follows : MayFollow inserted 10 (Publish to_delete_only)
entry_follows = (omega arith, omega arith, step_allowed inserted.newest to_delete_only (numbered inserted kept_inserted) entry_checked, entry_finished)

kept_entered : IsKept entered
kept_entered = call_kept inserted 10 (Publish to_delete_only) (omega arith) entry_follows kept_inserted

kept_leased_again : IsKept leased_again
kept_leased_again = call_kept entered 10 (Granted second_lease) (omega arith) tt kept_entered

step_checked : step_check leased_again.newest to_write_only ≡ Ok tt
step_checked = simp (computed) refl

one_move : {A : Type 0} (n number : ℕ) (s to : ElementState) → Contains (Go n s ∷ []) (Go number to) → (number ≡ n → to ≡ s → A) → A
one_move n number s to moved use_it =
    elim (here_or_later (Go n s) (Go number to) [] moved) [
      | inl same ↦ use_it (cc) (cc)
      | inr more ↦ none_in (Go number to) more
    ]

needs_nothing : (facts : Facts) (kind : Kind) (number : ℕ) → Needs facts kind number WriteOnly
needs_nothing facts (Index columns) number = tt
needs_nothing facts (Optional type) number = tt
needs_nothing facts (Required type fallback) number = tt

step_finished : AreFinished leased_again to_write_only
step_finished number to element moved at =
    one_move 2 number WriteOnly to moved (λ same_number same_state. subst (λ s. Needs leased_again element.kind number s) (sym same_state) (needs_nothing leased_again element.kind number))

step_follows : MayFollow leased_again 20 (Publish to_write_only)
step_follows = (omega arith, omega arith, step_allowed leased_again.newest to_write_only (numbered leased_again kept_leased_again) step_checked, step_finished)

kept_writing : IsKept writing
kept_writing = call_kept leased_again 20 (Publish to_write_only) (omega arith) step_follows kept_leased_again

kept_leased_last : IsKept leased_last
kept_leased_last = call_kept writing 20 (Granted third_lease) (omega arith) tt kept_writing

-- ---- the begin of the fill, and its piece

abbrev index_written : ElementDef
index_written = in_state (as_element 2 index_i DeleteOnly) WriteOnly

begin_follows : MayFollow leased_last 30 (Begin 2 1)
begin_follows =
    record {
      element = index_written;
      work = Fill;
      there = simp (computed) refl;
      wants = refl;
      settled = simp (computed) refl;
      new = refl;
      count = (omega arith, omega arith);
    }

kept_begun : IsKept begun
kept_begun = call_kept leased_last 30 (Begin 2 1) (omega arith) begin_follows kept_leased_last

abbrev span : Span
span = record { low = front_of_t; high = end_of_t; cursor = front_of_t }

abbrev progress : Progress
progress = record { element = index_written; kind = Fill; pieces = span ∷ [] }

progress_is : progress_of begun.progress 2 ≡ Some progress
unfolding row_code key_at row_key_at number_at until_zero value_at int_at last_number with_number
progress_is = simp (computed) refl

-- what is read of the one piece, with room for more rows than there are
abbrev read : Reading
read =
    record {
      element = index_written;
      kind = Fill;
      piece = 0;
      low = front_of_t;
      high = end_of_t;
      key_range = record { low = front_of_t; high = end_of_t; pairs = part begun.pairs front_of_t end_of_t };
    }

is_reading : IsReading read
is_reading =
    record {
      comes = record { onward = refl; bounded = refl; ends = inl refl };
      inside = λ key value at. (some_in _ (map.get begun.pairs key) value (sym (get-part begun.pairs front_of_t end_of_t key) ∙ at)).0;
    }

piece_holds : Holds (expect_of read.key_range) begun.pairs
piece_holds key missed =
    elim missed [
      | inl other ↦ absurd (let x : None ≡ Some other.0 = sym (map.get-empty bytes_cmp key) ∙ other.1 in cc)
      | inr other ↦ other.1 (sym (get-part begun.pairs front_of_t end_of_t key ∙ ap (λ b. cond b (map.get begun.pairs key) None) other.0))
    ]

piece_follows : MayFollow begun 30 (Piece 2 0 end_of_t)
piece_follows =
    record {
      read = read;
      same = refl;
      next = record { progress = progress; here = progress_is; element = refl; work = refl; span = span; piece = refl; high = refl; cursor = refl; read_so = is_reading; holds = piece_holds };
    }

kept_filled : IsKept filled
kept_filled = call_kept begun 30 (Piece 2 0 end_of_t) (omega arith) piece_follows kept_begun

-- ---- the step to public, after the fill

last_checked : step_check filled.newest to_public ≡ Ok tt
last_checked = simp (computed) refl

abbrev done : Progress
done = record { element = index_written; kind = Fill; pieces = record { low = front_of_t; high = end_of_t; cursor = end_of_t } ∷ [] }

done_is : progress_of filled.progress 2 ≡ Some done
unfolding row_code key_at row_key_at number_at until_zero value_at int_at last_number with_number
done_is = simp (computed) refl

fill_done : IsDone filled 2 Fill
fill_done =
    record {
      progress = done;
      here = done_is;
      work_is = refl;
      ended = refl;
    }

index_there : element_at filled.newest 2 ≡ Some index_written
index_there = simp (computed) refl

last_finished : AreFinished filled to_public
last_finished number to element moved at =
    one_move 2 number Public to moved (λ same_number same_state.
    let same : index_written ≡ element = some_same (sym index_there ∙ ap (element_at filled.newest) (sym same_number) ∙ at) in
    subst (λ s. Needs filled element.kind number s) (sym same_state)
    (subst (λ n. Needs filled element.kind n Public) (sym same_number) (subst (λ (e : ElementDef). Needs filled e.kind 2 Public) same fill_done)))

last_step_follows : MayFollow filled 30 (Publish to_public)
last_step_follows = (omega arith, omega arith, step_allowed filled.newest to_public (numbered filled kept_filled) last_checked, last_finished)

-- ---- the whole log

all_follow : AllFollow (start opening) log
all_follow = (omega arith, lease_follows, (omega arith, transaction_follows, (omega arith, entry_follows, (omega arith, tt, (omega arith, step_follows, (omega arith, tt, (omega arith, begin_follows, (omega arith, piece_follows, (omega arith, last_step_follows, tt)))))))))

pub a_log_follows : ALogFollows
a_log_follows =
    record {
      length = (omega arith, omega arith);
      sound = opening_sound;
      lease = lease_follows;
      transaction = transaction_follows;
      entry = entry_follows;
      step = step_follows;
      begin = begin_follows;
      piece = piece_follows;
      last_step = last_step_follows;
      all = all_follow;
      agrees = headline opening log (omega arith, omega arith) opening_sound all_follow;
    }
