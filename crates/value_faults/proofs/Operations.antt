-- What is found of operations is the first wrong value.
use Rattle.std.proofs.Common.{◌≡◌, ◌≢◌, ◌&&◌, ◌++◌, ◌+◌, ◌<◌, ℕ, cond, List, [], ◌∷◌, length, Option, Some, None, option_map, refl, sym, ap, subst, ◌∙◌, arith, is_some}
use Rattle.std.specs.Prelude.{is_none, IfSome, IfNone}
use Rattle.std.specs.List.{AllByRecursion}
use Rattle.std.specs.Option.{option_or}
use Rattle.std.specs.FinMap as map
use Rattle.collections.specs.Refusal.{IsFirst, IsClear}
use Rattle.keycode.specs.declared.value.Value.{Value}
use Rattle.row_map.specs.declared.shape.ColumnType.{ColumnType}
use Rattle.row_map.specs.Shape.{has_type, is_key_value}
use Rattle.row_map.specs.Expect.{View}
use Rattle.schema_version.specs.declared.element.ElementDef.{ElementDef}
use Rattle.schema_version.specs.Columns.{column_type}
use Rattle.schema_version.specs.Sound.{IsSoundVersion}
use Rattle.schema_version.specs.Version.{Version, Table, table_at, live}
use Rattle.schema_version.proofs.Lists.{some_same}
use Rattle.row_write.specs.declared.op.RowOp.{RowOp}
use Rattle.row_write.specs.declared.fault.PrepareFault.{PrepareFault}
use Rattle.row_write.specs.declared.fault.PrepareFault.TheVariants.{NoTable, NotPublic, WrongType, TooManyOps, ViewMismatch, Memory}
use Rattle.row_write.specs.Plain.{table_of, key_of, named_of}
use Rattle.row_write.specs.Prepare.{rank, OpFault, IsFirstOpFault}
use Rattle.row_write.specs.inner.IndexedColumns.{IsServed}
use Rattle.row_write.specs.inner.Checks.{first_hidden, suits, suits_all, are_distinct, is_typed, check_named, check_table, op_check, or_else, ops_check, AreKnownUntil as AreKnownUpTo}
use Rattle.row_write.proofs.Sound.{served_from}
use Rattle.row_write.proofs.Decides.{op_first, op_sound, sound_clear, ops_first, ops_sound, sound_none, fault_lowest}
use Rattle.value_faults.specs.declared.fault.ValueFault.{ValueFault}
use Rattle.value_faults.specs.declared.finding.Finding.{Finding}
use Rattle.value_faults.specs.declared.finding.Finding.TheVariants.{Clear, Other, Wrong}
use Rattle.value_faults.specs.Faults.{wrong_key, wrong_for, wrong_named, named_again, named_twice, wrong_operation, IsTxnFault}
use Rattle.value_faults.specs.inner.Found.{of_cause, decided, found_in, op_found, ops_found, AreKnownUntil}
use Rattle.value_faults.proofs.Tests.{both_same, none_or, none_key, none_for, none_again}

-- ---- one operation's values

none_named : (elements : List ElementDef) (table : ℕ) (cells : List (ℕ × Value)) → first_hidden elements table cells ≡ None → is_none (wrong_named elements table cells) ≡ suits_all elements table cells
none_named elements table [] e = refl
none_named elements table (c ∷ cs) e =
    elim (column_type elements table c.0) as (λ o. cond (is_some o) (first_hidden elements table cs) (Some c.0) ≡ None → is_none (option_or (wrong_for is_key_value c.0 o c.1) (wrong_named elements table cs)) ≡ (suits o c.1 && suits_all elements table cs)) [
      | None ↦ λ f. absurd (let x : Some c.0 ≡ None = f in cc)
      | Some wanted ↦ λ f. none_or (wrong_for is_key_value c.0 (Some wanted) c.1) (wrong_named elements table cs) ∙ both_same (none_for is_key_value c.0 wanted c.1) (none_named elements table cs f)
    ] e

none_twice : (cells : List (ℕ × Value)) → is_none (named_twice cells) ≡ are_distinct cells
none_twice [] = refl
none_twice (c ∷ cs) = none_or (named_again c.0 cs) (named_twice cs) ∙ both_same (none_again c.0 cs) (none_twice cs)

none_operation : (columns : List (List ℕ × ColumnType)) (elements : List ElementDef) (op : RowOp) → first_hidden elements (table_of op) (named_of op) ≡ None → is_none (wrong_operation columns elements op) ≡ is_typed columns elements op
none_operation columns elements op e =
    none_or (wrong_key has_type columns (key_of op)) (option_or (wrong_named elements (table_of op) (named_of op)) (named_twice (named_of op)))
    ∙ both_same (none_key has_type columns (key_of op))
    (none_or (wrong_named elements (table_of op) (named_of op)) (named_twice (named_of op)) ∙ both_same (none_named elements (table_of op) (named_of op) e) (none_twice (named_of op)))

-- ---- one operation

-- what is found of an operation, beside what its tests say
abbrev Says : Version → RowOp → Option PrepareFault → Finding → Type 0
Says v op check Clear = check ≡ None
Says v op check Other = (fault : PrepareFault) × (check ≡ Some fault) × (rank fault < 3)
Says v op check (Wrong cause) = (table : Table) × (table_at v (table_of op) ≡ Some table) × (check ≡ Some WrongType) × (wrong_operation table.key (live v) op ≡ Some cause)

at_table : (v : Version) (op : RowOp) (table : Table) → table_at v (table_of op) ≡ Some table → Says v op (check_table (Some table.key) (live v) op) (found_in (Some table.key) (live v) op)
at_table v op table there =
    elim (first_hidden (live v) (table_of op) (named_of op)) as (λ o. first_hidden (live v) (table_of op) (named_of op) ≡ o → Says v op (check_named o (is_typed table.key (live v) op)) (cond (is_some o) Other (of_cause (wrong_operation table.key (live v) op)))) [
      | Some n ↦ λ _. (NotPublic n, refl, omega arith)
      | None ↦ λ h. elim (wrong_operation table.key (live v) op) as (λ w. wrong_operation table.key (live v) op ≡ w → Says v op (check_named None (is_typed table.key (live v) op)) (of_cause w)) [
        | None ↦ λ w. ap (check_named None) (sym (none_operation table.key (live v) op h) ∙ ap is_none w)
        | Some cause ↦ λ w. (table, there, ap (check_named None) (sym (none_operation table.key (live v) op h) ∙ ap is_none w), w)
      ] refl
    ] refl

op_says : (v : Version) (op : RowOp) → Says v op (op_check v op) (op_found v op)
op_says v op =
    elim (table_at v (table_of op)) as (λ o. table_at v (table_of op) ≡ o → Says v op (check_table (option_map (λ (t : Table). t.key) o) (live v) op) (found_in (option_map (λ (t : Table). t.key) o) (live v) op)) [
      | None ↦ λ _. (NoTable, refl, omega arith)
      | Some table ↦ λ there. at_table v op table there
    ] refl

clear_from : (v : Version) (op : RowOp) → op_check v op ≡ None → op_found v op ≡ Clear
clear_from v op e =
    elim (op_found v op) as (λ f. Says v op (op_check v op) f → f ≡ Clear) [
      | Clear ↦ λ _. refl
      | Other ↦ λ s. absurd (let x : None ≡ Some s.0 = sym e ∙ s.1 in cc)
      | Wrong cause ↦ λ s. absurd (let x : None ≡ Some WrongType = sym e ∙ s.2 in cc)
    ] (op_says v op)

known_up_to : (v : Version) (ops : List RowOp) → AreKnownUntil v ops → AreKnownUpTo v ops
known_up_to v [] known = tt
known_up_to v (op ∷ ops) known = λ e. let k = known (clear_from v op e) in (k.0, known_up_to v ops k.1)

-- ---- operations in turn

-- the first wrong value, of operations of which the first is at this place
record FoundFrom (start : ℕ) (v : Version) (ops : List RowOp) (found : ValueFault) : Type 0 where
  before : List RowOp
  after : List RowOp
  op : RowOp
  split : ops ≡ before ++ op ∷ after
  place : found.item ≡ start + length before
  decides : IsFirst rank (OpFault v op) WrongType
  earlier : AllByRecursion (λ (other : RowOp). IsClear (OpFault v other)) before
  table : Table
  known : table_at v (table_of op) ≡ Some table
  cause : wrong_operation table.key (live v) op ≡ Some found.cause

abbrev AllSay : ℕ → Version → List RowOp → Option PrepareFault → Option ValueFault → Type 0
AllSay start v ops check None = check ≢ Some WrongType
AllSay start v ops check (Some found) = FoundFrom start v ops found

module _ (v : Version) (served : IsServed v) where
  more : (start : ℕ) (op : RowOp) (ops : List RowOp) (check : Option PrepareFault) (o : Option ValueFault) → IsClear (OpFault v op) → AllSay (start + 1) v ops check o → AllSay start v (op ∷ ops) check o
  more start op ops check None clear rest = rest
  more start op ops check (Some found) clear rest = record {
    before = op ∷ rest.before;
    after = rest.after;
    op = rest.op;
    split = ap (λ l. op ∷ l) rest.split;
    place = let p = rest.place in omega (arith, p);
    decides = rest.decides;
    earlier = (clear, rest.earlier);
    table = rest.table;
    known = rest.known;
    cause = rest.cause;
  }

  not_three : (fault : PrepareFault) → rank fault < 3 → fault ≢ WrongType
  not_three fault lt e = let r : rank fault ≡ 3 = ap rank e in omega (arith, lt, r)

  ops_say : (start : ℕ) (ops : List RowOp) → AreKnownUntil v ops → AllSay start v ops (ops_check v ops) (ops_found start v ops)
  ops_say start [] known = λ e. (let x : None ≡ Some WrongType = e in cc)
  ops_say start (op ∷ ops) known =
      elim (op_found v op) as (λ f. op_found v op ≡ f → Says v op (op_check v op) f → AllSay start v (op ∷ ops) (or_else (op_check v op) (ops_check v ops)) (decided start f (ops_found (start + 1) v ops))) [
        | Clear ↦ λ f s.
            let k = known f in
            subst (λ check. AllSay start v (op ∷ ops) check (ops_found (start + 1) v ops)) (ap (λ o. or_else o (ops_check v ops)) (sym s))
            (more start op ops (ops_check v ops) (ops_found (start + 1) v ops) (sound_clear v served op (op_sound v served op s k.0)) (ops_say (start + 1) ops k.1))
        | Other ↦ λ f s e. not_three s.0 s.2 (some_same (sym (ap (λ o. or_else o (ops_check v ops)) s.1) ∙ e))
        | Wrong cause ↦ λ f s. record {
          before = [];
          after = ops;
          op = op;
          split = refl;
          place = omega arith;
          decides = op_first v served op WrongType s.2;
          earlier = tt;
          table = s.0;
          known = s.1;
          cause = s.3;
        }
      ] refl (op_says v op)

  -- another fault comes first
  lower_first : (ops : List RowOp) (fault : PrepareFault) → IsFirstOpFault v ops fault → fault ≢ WrongType → IsFirstOpFault v ops WrongType → ⊥
  lower_first ops NoTable h ne k = let view : View = map.empty in fault_lowest v served ops view WrongType k NoTable (omega arith) h
  lower_first ops (NotPublic column) h ne k = let view : View = map.empty in fault_lowest v served ops view WrongType k (NotPublic column) (omega arith) h
  lower_first ops WrongType h ne k = ne refl
  lower_first ops TooManyOps (b, a, op, split, first, rest) ne k = first.0
  lower_first ops ViewMismatch (b, a, op, split, first, rest) ne k = first.0
  lower_first ops Memory (b, a, op, split, first, rest) ne k = first.0

  none_first : (ops : List RowOp) → AreKnownUpTo v ops → ops_check v ops ≢ Some WrongType → ¬ (IsFirstOpFault v ops WrongType)
  none_first ops known ne k =
      elim (ops_check v ops) as (λ o. ops_check v ops ≡ o → ⊥) [
        | None ↦ λ e. sound_none v served ops WrongType (ops_sound v served ops known e) k
        | Some fault ↦ λ e. lower_first ops fault (ops_first v served ops fault known e) (λ same. ne (e ∙ ap Some same)) k
      ] refl

-- ---- a transaction

pub found_is : (v : Version) → IsSoundVersion v → (ops : List RowOp) → AreKnownUntil v ops → (r : Option ValueFault) → r ≡ ops_found 0 v ops → IfSome r (IsTxnFault v ops)
found_is v sound ops known None e = tt
found_is v sound ops known (Some found) e =
    let f : FoundFrom 0 v ops found = subst (AllSay 0 v ops (ops_check v ops)) (sym e) (ops_say v (served_from v sound) 0 ops known) in record {
      before = f.before;
      after = f.after;
      op = f.op;
      split = f.split;
      place = let p = f.place in omega (arith, p);
      decides = f.decides;
      earlier = f.earlier;
      table = f.table;
      known = f.known;
      cause = f.cause;
    }

pub none_is : (v : Version) → IsSoundVersion v → (ops : List RowOp) → AreKnownUntil v ops → (r : Option ValueFault) → r ≡ ops_found 0 v ops → IfNone r (¬ (IsFirstOpFault v ops WrongType))
none_is v sound ops known None e =
    none_first v (served_from v sound) ops (known_up_to v ops known) (subst (AllSay 0 v ops (ops_check v ops)) (sym e) (ops_say v (served_from v sound) 0 ops known))
none_is v sound ops known (Some found) e = tt
