-- One more operation of a run, and runs on rows that agree.
use Rattle.std.proofs.Common.{◌≡◌, ◌<◌, ◌≤◌, arith, ◌+◌, ◌++◌, ℕ, Bool, true, false, cond, List, [], ◌∷◌, length, get_or, drop, Option, Some, None, option_map, Result, Ok, Err, inl, inr, refl, sym, ap, ap₂, subst, ◌∙◌, IsTrue}
use Rattle.std.proofs.lemmas.List.{at_drop_more, append-nil, drop-map}
use Rattle.std.specs.List.{AllByRecursion}
use Rattle.std.specs.Ordering.{nat_cmp, eq_by_cmp}
use Rattle.std.specs.Cmp.{nat_cmp_total}
use Rattle.std.specs.FinMap.{get, empty, nat_cmp-IsAntisymmetric}
use Rattle.byte_map.proofs.Written.{get-written, noted-append, written_here, written_apart, same_or_apart}
use Rattle.keycode.specs.declared.value.Value.{Value}
use Rattle.keycode.specs.Code.{code}
use Rattle.keycode.specs.Valid.{IsValue}
use Rattle.keycode.proofs.ByteOrder.{same_encoding}
use Rattle.row_map.specs.Keys.{row_code}
use Rattle.row_map.specs.Rows.{Bytes, RowKey, Cells, Rows, row_cmp}
use Rattle.row_map.specs.Expect.{View}
use Rattle.row_map.specs.Writes.{Writes, Batch, written, noted}
use Rattle.row_map.proofs.Orders.{row_cmp_total, row_cmp-IsAntisymmetric}
use Rattle.schema_version.specs.Version.{Version}
use Rattle.schema_version.proofs.Lists.{some_same}
use Rattle.element_state.specs.Elements.{Change, rows_after}
use Rattle.element_state.specs.Schemas.{version_writes}
use Rattle.element_state.specs.Visible.{visible_value}
use Rattle.element_state.specs.Versions.{the_kinds, schema_of}
use Rattle.row_write.specs.declared.op.RowOp.{RowOp}
use Rattle.row_write.specs.declared.op.RowOp.TheVariants.{Insert, Update, Delete}
use Rattle.row_write.specs.declared.op.RowOutcome.{RowOutcome}
use Rattle.row_write.specs.declared.op.RowOutcome.TheVariants.{Refused}
use Rattle.row_write.specs.declared.fault.RowFault.{RowFault}
use Rattle.row_write.specs.Plain.{cell_of, with_cells, table_of, key_of, row_of, change_of, change, go_on, applied, reported, outcome}
use Rattle.row_write.specs.Prepare.{IsEncodedRow, Encodes, write_on, writes_of, accepted_writes, txn_writes, IsPrepared}
use Rattle.row_write.specs.inner.IndexedColumns.{IsServed}
use Rattle.row_write.specs.inner.Run.{HaveSame, IsStep}
use Rattle.row_write.specs.inner.View.{exists_keys}
use Rattle.row_write.proofs.Encoded.{IsEncodedAs, of_row}
use Rattle.row_write.proofs.Wanted.{VisibleAlike, shown, column_shown, same_writes}

-- ---- rows that are the same for the operations

same_after : (ops : List RowOp) (rows others : Rows) (key : RowKey) (o : Option Cells) → HaveSame ops rows others → HaveSame ops (written rows key o) (written others key o)
same_after [] rows others key o all = tt
same_after (op ∷ ops) rows others key o all = (
  get-written row_cmp_total row_cmp-IsAntisymmetric rows key o (row_of op)
      ∙ ap (λ x. cond (eq_by_cmp row_cmp (row_of op) key) o x) all.0
      ∙ sym (get-written row_cmp_total row_cmp-IsAntisymmetric others key o (row_of op)),
  same_after ops rows others key o all.1,
)

module _ (v : Version) where
  abbrev RunAlike : ℕ → List RowOp → Rows → Rows → Type 0
  RunAlike place ops rows others = (reported (applied place rows ops) ≡ reported (applied place others ops)) × (writes_of v rows ops ≡ writes_of v others ops)

  -- after the same answer of one operation
  alike_step : (ops : List RowOp) (place : ℕ) (rows others : Rows) (done : Result Change RowFault) → HaveSame ops rows others → ((w r : Rows) → HaveSame ops w r → RunAlike (place + 1) ops w r)
      → (reported (go_on place rows done (λ new. applied (place + 1) new ops)) ≡ reported (go_on place others done (λ new. applied (place + 1) new ops)))
      × (write_on v rows done (λ new. writes_of v new ops) ≡ write_on v others done (λ new. writes_of v new ops))
  alike_step ops place rows others (Err why) all again = (refl, refl)
  alike_step ops place rows others (Ok made) all again =
      let rest = again (rows_after rows made) (rows_after others made) (same_after ops rows others made.key made.new all) in
      (rest.0, ap (λ (ws : Writes). version_writes the_kinds (schema_of v) made ++ ws) rest.1)

  run_alike : (ops : List RowOp) (place : ℕ) (rows others : Rows) → HaveSame ops rows others → RunAlike place ops rows others
  run_alike [] place rows others all = (refl, refl)
  run_alike (op ∷ ops) place rows others all =
      let same : change rows op ≡ change others op = ap (λ (old : Option Cells). change_of old op) all.0 in
      let step = alike_step ops place rows others (change rows op) all.1 (λ w r h. run_alike ops (place + 1) w r h) in (
        step.0 ∙ ap (λ (d : Result Change RowFault). reported (go_on place others d (λ new. applied (place + 1) new ops))) same,
        step.1 ∙ ap (λ (d : Result Change RowFault). write_on v others d (λ new. writes_of v new ops)) same,
      )

-- ---- one more operation

same_itself : (ops : List RowOp) (rows : Rows) → HaveSame ops rows rows
same_itself [] rows = tt
same_itself (op ∷ ops) rows = (refl, same_itself ops rows)

pub kept_row : (ops : List RowOp) (rows then : Rows) → then ≡ rows → HaveSame ops then rows
kept_row ops rows then is = subst (λ (r : Rows). HaveSame ops r rows) (sym is) (same_itself ops rows)

-- a row that the operations are not about needs no keeping
pub unseen : (ops : List RowOp) (rows : Rows) (op : RowOp) (o : Option Cells) → AllByRecursion (λ (other : Bytes). ¬ (other ≡ row_code (table_of op) (key_of op) 0)) (exists_keys ops) → HaveSame ops rows (written rows (row_of op) o)
unseen [] rows op o none = tt
unseen (p ∷ ops) rows op o none = (
  sym (written_apart row_cmp_total row_cmp-IsAntisymmetric rows (row_of op) o (row_of p) (λ (same : row_of p ≡ row_of op). none.0 (ap (λ (k : RowKey). row_code k.0 k.1 0) same))),
  unseen ops rows op o none.1,
)

pub reported_more : (v : Version) (rows then : Rows) (ops : List RowOp) (i place : ℕ) (op : RowOp) (b b_then : Batch) (total : RowOutcome) → i < length ops → op ≡ get_or ops i op → IsStep v rows op (drop (i + 1) ops) (Ok tt) then b b_then
    → reported (applied place rows (drop i ops)) ≡ total → reported (applied (place + 1) then (drop (i + 1) ops)) ≡ total
reported_more v rows then ops i place op b b_then total lt is (made, done, same, noted_is) so_far =
    (run_alike v (drop (i + 1) ops) (place + 1) then (rows_after rows made) same).0
    ∙ sym (ap (λ r. reported (go_on place rows r (λ new. applied (place + 1) new (drop (i + 1) ops)))) done)
    ∙ ap (λ (o : RowOp). reported (applied place rows (o ∷ drop (i + 1) ops))) is
    ∙ sym (at_drop_more (λ (os : List RowOp). reported (applied place rows os)) ops i op lt) ∙ so_far

pub refused_here : (rows : Rows) (ops : List RowOp) (i place : ℕ) (op : RowOp) (why : RowFault) (total : RowOutcome) → i < length ops → op ≡ get_or ops i op → change rows op ≡ Err why
    → reported (applied place rows (drop i ops)) ≡ total → Refused place why ≡ total
refused_here rows ops i place op why total lt is refused so_far =
    sym (ap (λ r. reported (go_on place rows r (λ new. applied (place + 1) new (drop (i + 1) ops)))) refused)
    ∙ ap (λ (o : RowOp). reported (applied place rows (o ∷ drop (i + 1) ops))) is
    ∙ sym (at_drop_more (λ (os : List RowOp). reported (applied place rows os)) ops i op lt) ∙ so_far

abbrev no_writes : Batch
no_writes = empty

pub nothing_written : (v : Version) (rows : Rows) (ops : List RowOp) (place : ℕ) (why : RowFault) → Refused place why ≡ outcome rows ops → no_writes ≡ noted no_writes (txn_writes v rows ops)
nothing_written v rows ops place why is = ap (λ (o : RowOutcome). noted no_writes (accepted_writes o (writes_of v rows ops))) is

-- the keys of the operations after this one
pub later_keys : (ops : List RowOp) (keys : List Bytes) (i place : ℕ) → place ≡ i → keys ≡ exists_keys ops → drop (place + 1) keys ≡ exists_keys (drop (i + 1) ops)
later_keys ops keys i place at is =
    ap (λ n. drop (n + 1) keys) at ∙ ap (drop (i + 1)) is ∙ drop-map (λ (op : RowOp). row_code (table_of op) (key_of op) 0) (i + 1) ops

pub batch_more : (v : Version) (rows then : Rows) (ops : List RowOp) (i : ℕ) (op : RowOp) (b b_then total : Batch) → i < length ops → op ≡ get_or ops i op → IsStep v rows op (drop (i + 1) ops) (Ok tt) then b b_then
    → noted b (writes_of v rows (drop i ops)) ≡ total → noted b_then (writes_of v then (drop (i + 1) ops)) ≡ total
batch_more v rows then ops i op b b_then total lt is (made, done, same, noted_is) so_far =
    ap (noted b_then) (run_alike v (drop (i + 1) ops) 0 then (rows_after rows made) same).1
    ∙ ap (λ (x : Batch). noted x (writes_of v (rows_after rows made) (drop (i + 1) ops))) noted_is
    ∙ sym (noted-append (version_writes the_kinds (schema_of v) made) (writes_of v (rows_after rows made) (drop (i + 1) ops)) b)
    ∙ sym (ap (λ r. noted b (write_on v rows r (λ new. writes_of v new (drop (i + 1) ops)))) done)
    ∙ ap (λ (o : RowOp). noted b (writes_of v rows (o ∷ drop (i + 1) ops))) is
    ∙ sym (ap (noted b) (at_drop_more (writes_of v rows) ops i op lt)) ∙ so_far

-- ---- the only operation

pub only_one : (ops : List RowOp) (op : RowOp) → 1 ≤ length ops → length ops ≤ 1 → op ≡ get_or ops 0 op → op ∷ [] ≡ ops
only_one [] op some few at = absurd (omega arith)
only_one (o ∷ []) op some few at = ap (λ x. x ∷ []) at
only_one (o ∷ p ∷ ops) op some few at = absurd (omega arith)

-- ---- rows that agree

module _ (f : ℕ → Bool) (as_visible : ℕ → Option Value → Option Value) where
  one_of_both : (i : ℕ) (b : Bool) (o p q : Option Value) → as_visible i p ≡ as_visible i q → as_visible i (cond b o p) ≡ as_visible i (cond b o q)
  one_of_both i true o p q h = refl
  one_of_both i false o p q h = h

  cells_alike : (named : List (ℕ × Value)) (r s : Cells) → ((i : ℕ) → IsTrue (f i) → as_visible i (get r i) ≡ as_visible i (get s i)) → (i : ℕ) → IsTrue (f i) → as_visible i (get (with_cells r named) i) ≡ as_visible i (get (with_cells s named) i)
  cells_alike [] r s h = h
  cells_alike (x ∷ named) r s h = cells_alike named (written r x.0 (cell_of x.1)) (written s x.0 (cell_of x.1)) (λ i t.
      ap (as_visible i) (get-written nat_cmp_total nat_cmp-IsAntisymmetric r x.0 (cell_of x.1) i)
      ∙ one_of_both i (eq_by_cmp nat_cmp i x.0) (cell_of x.1) (get r i) (get s i) (h i t)
      ∙ sym (ap (as_visible i) (get-written nat_cmp_total nat_cmp-IsAntisymmetric s x.0 (cell_of x.1) i)))

-- the same refusal, or changes of one row that agree
AreSame : (ℕ → Bool) → (ℕ → Option Value → Option Value) → RowKey → Result Change RowFault → Result Change RowFault → Type 0
AreSame f as_visible key (Ok c) (Ok d) = (c.key ≡ key) × (d.key ≡ key) × VisibleAlike f as_visible c.old d.old × VisibleAlike f as_visible c.new d.new
AreSame f as_visible key (Err a) (Err b) = a ≡ b
AreSame f as_visible key _ _ = ⊥

same_change : (f : ℕ → Bool) (as_visible : ℕ → Option Value → Option Value) (o p : Option Cells) (op : RowOp) → VisibleAlike f as_visible o p → AreSame f as_visible (row_of op) (change_of o op) (change_of p op)
unfolding AreSame
same_change f as_visible None None (Insert table key cells) a = (refl, refl, tt, cells_alike f as_visible cells empty empty (λ i t. refl))
same_change f as_visible None None (Update table key cells) a = refl
same_change f as_visible None None (Delete table key) a = refl
same_change f as_visible (Some r) (Some s) (Insert table key cells) a = refl
same_change f as_visible (Some r) (Some s) (Update table key cells) a = (refl, refl, a, cells_alike f as_visible cells r s a)
same_change f as_visible (Some r) (Some s) (Delete table key) a = (refl, refl, a, tt)
same_change f as_visible None (Some s) op a = absurd a
same_change f as_visible (Some r) None op a = absurd a

abbrev no_pair : Option (Option Bytes)
no_pair = Some None

abbrev empty_pair : Option (Option Bytes)
empty_pair = Some (Some [])

not_both : {A : Type 0} → no_pair ≡ empty_pair → A
not_both e = absurd cc

module _ (v : Version) (served : IsServed v) where
  -- two rows of the key in which the version sees the same in the public columns of its table
  abbrev AgreeAt : RowKey → Option Cells → Option Cells → Type 0
  AgreeAt key o p = VisibleAlike (shown v key.0) (visible_value v key.0) o p

  abbrev Agree : List RowOp → Rows → Rows → Type 0
  Agree ops work rows = AllByRecursion (λ (op : RowOp). AgreeAt (row_of op) (get work (row_of op)) (get rows (row_of op))) ops

  agree_after : (ops : List RowOp) (work rows : Rows) (key : RowKey) (o p : Option Cells) → AgreeAt key o p → Agree ops work rows → Agree ops (written work key o) (written rows key p)
  agree_after [] work rows key o p a all = tt
  agree_after (op ∷ ops) work rows key o p a all = (
    elim (same_or_apart row_cmp_total row_cmp-IsAntisymmetric (row_of op) key) [
      | inl same ↦
          subst (λ (k : RowKey). AgreeAt k (get (written work key o) k) (get (written rows key p) k)) (sym same)
          (subst (λ x. AgreeAt key x (get (written rows key p) key)) (sym (written_here row_cmp_total row_cmp-IsAntisymmetric work key o))
          (subst (λ x. AgreeAt key o x) (sym (written_here row_cmp_total row_cmp-IsAntisymmetric rows key p)) a))
      | inr other ↦
          subst (λ x. AgreeAt (row_of op) x (get (written rows key p) (row_of op))) (sym (written_apart row_cmp_total row_cmp-IsAntisymmetric work key o (row_of op) other))
          (subst (λ x. AgreeAt (row_of op) (get work (row_of op)) x) (sym (written_apart row_cmp_total row_cmp-IsAntisymmetric rows key p (row_of op) other)) all.0)
    ],
    agree_after ops work rows key o p a all.1,
  )

  abbrev SameRun : ℕ → List RowOp → Rows → Rows → Type 0
  SameRun place ops work rows = (reported (applied place work ops) ≡ reported (applied place rows ops)) × (writes_of v work ops ≡ writes_of v rows ops)

  -- after the answers of one operation on the two rows
  abbrev SameStep : ℕ → List RowOp → Rows → Rows → Result Change RowFault → Result Change RowFault → Type 0
  SameStep place ops work rows a b =
      (reported (go_on place work a (λ new. applied (place + 1) new ops)) ≡ reported (go_on place rows b (λ new. applied (place + 1) new ops)))
      × (write_on v work a (λ new. writes_of v new ops) ≡ write_on v rows b (λ new. writes_of v new ops))

  ok_same : (ops : List RowOp) (place : ℕ) (work rows : Rows) (key : RowKey) (c d : Change) → Agree ops work rows → ((w r : Rows) → Agree ops w r → SameRun (place + 1) ops w r)
      → c.key ≡ key → d.key ≡ key → AgreeAt key c.old d.old → AgreeAt key c.new d.new → SameStep place ops work rows (Ok c) (Ok d)
  ok_same ops place work rows key c d all again left right old new =
      let same : c.key ≡ d.key = left ∙ sym right in
      let at = λ (x y : Option Cells) (a : AgreeAt key x y). subst (λ (k : RowKey). AgreeAt k x y) (sym left) a in
      let after : Agree ops (rows_after work c) (rows_after rows d) =
      subst (λ (k : RowKey). Agree ops (rows_after work c) (written rows k d.new)) same (agree_after ops work rows c.key c.new d.new (at c.new d.new new) all) in
      let rest = again (rows_after work c) (rows_after rows d) after in
      (rest.0, ap₂ (λ (a b : Writes). a ++ b) (same_writes v served c d same (at c.old d.old old) (at c.new d.new new)) rest.1)

  step_same : (ops : List RowOp) (place : ℕ) (work rows : Rows) (key : RowKey) (a b : Result Change RowFault) → Agree ops work rows → ((w r : Rows) → Agree ops w r → SameRun (place + 1) ops w r)
      → AreSame (shown v key.0) (visible_value v key.0) key a b → SameStep place ops work rows a b
  unfolding AreSame
  step_same ops place work rows key (Ok c) (Ok d) all again (left, right, old, new) = ok_same ops place work rows key c d all again left right old new
  step_same ops place work rows key (Err x) (Err y) all again s = (ap (λ why. reported (go_on place work (Err why) (λ new. applied (place + 1) new ops))) s, refl)
  step_same ops place work rows key (Ok c) (Err y) all again s = absurd s
  step_same ops place work rows key (Err x) (Ok d) all again s = absurd s

  same_run : (ops : List RowOp) (place : ℕ) (work rows : Rows) → Agree ops work rows → SameRun place ops work rows
  same_run [] place work rows all = (refl, refl)
  same_run (op ∷ ops) place work rows all =
      step_same ops place work rows (row_of op) (change work op) (change rows op) all.1 (λ w r h. same_run ops (place + 1) w r h) (same_change (shown v (table_of op)) (visible_value v (table_of op)) (get work (row_of op)) (get rows (row_of op)) op all.0)

  -- ---- rows that one view encodes

  value_one : (a b : Option Value) → option_map code a ≡ option_map code b → ((w : Value) → a ≡ Some w → IsValue w) → ((w : Value) → b ≡ Some w → IsValue w) → a ≡ b
  value_one None None e p q = refl
  value_one None (Some w) e p q = absurd (let x : None ≡ Some (code w) = e in cc)
  value_one (Some w) None e p q = absurd (let x : Some (code w) ≡ None = e in cc)
  value_one (Some w) (Some u) e p q =
      let same : code w ≡ code u = some_same e in
      ap Some (same_encoding w u [] [] (p w refl) (q u refl) (append-nil (code w) ∙ same ∙ sym (append-nil (code u)))).0

  agree_as : (view : View) (key : RowKey) (o p : Option Cells) → IsEncodedAs v view key o → IsEncodedAs v view key p → AgreeAt key o p
  agree_as view key None None s t = tt
  agree_as view key None (Some r) s t = not_both (sym (s.absent refl) ∙ t.present r refl)
  agree_as view key (Some r) None s t = not_both (sym (t.absent refl) ∙ s.present r refl)
  agree_as view key (Some r) (Some u) s t = λ i is.
      let has = column_shown v served key.0 i is in
      let a = s.columns i has.0 r has.1 refl in
      let b = t.columns i has.0 u has.1 refl in
      let own : a.own ≡ b.own = value_one a.own b.own (some_same (sym a.held ∙ b.held)) (λ w at. (a.typed w at).1.0) (λ w at. (b.typed w at).1.0) in
      sym a.same ∙ ap (visible_value v key.0 i) own ∙ b.same

  agree_all : (view : View) (ops : List RowOp) (work rows : Rows) → AllByRecursion (IsEncodedRow v view work) ops → AllByRecursion (IsEncodedRow v view rows) ops → Agree ops work rows
  agree_all view [] work rows s t = tt
  agree_all view (op ∷ ops) work rows s t =
      (agree_as view (row_of op) (get work (row_of op)) (get rows (row_of op)) (of_row v view work op s.0) (of_row v view rows op t.0), agree_all view ops work rows s.1 t.1)

  -- what is run on one of the rows that the view encodes is right for all of them
  pub prepared_for_all : (view : View) (ops : List RowOp) (work : Rows) (outcome_is : RowOutcome) (batch : Batch) → Encodes v ops view work → outcome_is ≡ outcome work ops → batch ≡ noted empty (txn_writes v work ops) → IsPrepared v ops view outcome_is batch
  prepared_for_all view ops work outcome_is batch encoded reported_is batch_is rows also =
      let s = same_run ops 0 work rows (agree_all view ops work rows encoded.encoded also.encoded) in
      (reported_is ∙ s.0, batch_is ∙ ap (noted empty) (ap₂ accepted_writes s.0 s.1))
