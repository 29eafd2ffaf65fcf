-- The tests find the faults.
use Rattle.std.proofs.Common.{◌≡◌, ◌==◌, ◌&&◌, ◌||◌, ◌<◌, ◌≤◌, ◌++◌, ℕ, Bool, true, false, cond, List, [], ◌∷◌, length, Option, Some, None, option_map, inl, inr, refl, sym, ap, subst, ◌∙◌, arith, is_some, not}
use Rattle.std.proofs.lemmas.Bool.{leb-true}
use Rattle.std.specs.List.{list_any, AllByRecursion}
use Rattle.std.specs.Cmp.Lexicographic.{pointwise}
use mathlib.Core.List.{map as each}
use Rattle.collections.specs.Refusal.{IsFirst}
use Rattle.keycode.specs.declared.value.Value.{Value}
use Rattle.keycode.specs.declared.value.Value.TheVariants.{Null, Int, Text, Bool as Flag}
use Rattle.keycode.specs.Valid.{IsValue, AreValues, IsShort, IsStorable}
use Rattle.row_map.specs.declared.shape.ColumnType.{ColumnType}
use Rattle.row_map.specs.declared.shape.ColumnType.TheVariants as kind
use Rattle.row_map.specs.Shape.{has_type, is_null, is_key_value}
use Rattle.row_map.specs.Expect.{View}
use Rattle.schema_version.specs.Version.{Version, Table, table_at, live}
use Rattle.schema_version.specs.Moves.{is_distinct}
use Rattle.schema_version.proofs.Lists.{some_same, any_through, not_both}
use Rattle.row_write.specs.declared.op.RowOp.{RowOp}
use Rattle.row_write.specs.declared.fault.PrepareFault.{PrepareFault}
use Rattle.row_write.specs.declared.fault.PrepareFault.TheVariants.{NoTable, NotPublic, WrongType, TooManyOps, ViewMismatch, Memory}
use Rattle.row_write.specs.Plain.{table_of, key_of, named_of}
use Rattle.row_write.specs.Reads.{IsPublicColumn}
use Rattle.row_write.specs.Prepare.{Suits, IsTyped, HasColumn, IsFirstHidden, rank, OpFault, IsFirstOpFault, Condition}
use Rattle.row_write.specs.Made.{IsSound}
use Rattle.row_write.specs.inner.IndexedColumns.{IsServed}
use Rattle.schema_version.specs.Columns.{column_type}
use Rattle.row_write.specs.inner.Checks.{first_hidden, suits, suits_all, are_distinct, is_key_for, is_typed, check_named, check_table, op_check, or_else, ops_check, AreKnown, AreKnownUntil}
use Rattle.row_write.proofs.Columns.{column_says, column_from}

pub both_true : (a b : Bool) → (a && b) ≡ true → (a ≡ true) × (b ≡ true)
both_true true b e = (refl, e)
both_true false b e = absurd cc

pub and_true : (a b : Bool) → a ≡ true → b ≡ true → (a && b) ≡ true
and_true a b p q = ap (λ x. x && b) p ∙ q

-- ---- values and keys

pub typed_short : (k : ColumnType) (v : Value) → has_type k v ≡ true → IsShort v
typed_short k Null e = tt
typed_short k (Int n) e = tt
typed_short kind.Text (Text t) e = leb-true (length t) 1024 e
typed_short kind.Int (Text t) e = absurd cc
typed_short kind.Bool (Text t) e = absurd cc
typed_short k (Flag b) e = tt

pointwise_each : (columns : List (List ℕ × ColumnType)) (key : List Value) → is_key_for columns key ≡ pointwise has_type (each (λ (column : List ℕ × ColumnType). column.1) columns) key
pointwise_each [] [] = refl
pointwise_each [] (v ∷ vs) = refl
pointwise_each (c ∷ cs) [] = refl
pointwise_each (c ∷ cs) (v ∷ vs) = ap (λ b. has_type c.1 v && b) (pointwise_each cs vs)

key_storable : (columns : List (List ℕ × ColumnType)) (key : List Value) → is_key_for columns key ≡ true → AreValues key → AllByRecursion IsStorable key
key_storable [] [] e known = tt
key_storable [] (v ∷ vs) e known = absurd cc
key_storable (c ∷ cs) [] e known = tt
key_storable (c ∷ cs) (v ∷ vs) e known =
    let b = both_true (has_type c.1 v) (is_key_for cs vs) e in
    ((known.0, typed_short c.1 v b.0), key_storable cs vs b.1 known.1)

null_is : (v : Value) → is_null v ≡ true → v ≡ Null
null_is Null e = refl
null_is (Int n) e = absurd cc
null_is (Text t) e = absurd cc
null_is (Flag b) e = absurd cc

suits_says : (type : ColumnType) (v : Value) → IsValue v → is_key_value type v ≡ true → Suits type v
suits_says type v known e =
    elim (has_type type v) as (λ b. has_type type v ≡ b → (b || is_null v) ≡ true → Suits type v) [
      | true ↦ λ p _. inr (p, (known, typed_short type v p))
      | false ↦ λ p q. inl (null_is v q)
    ] refl e

or_true : (a b : Bool) → b ≡ true → (a || b) ≡ true
or_true true b e = refl
or_true false b e = e

suits_from : (type : ColumnType) (v : Value) → Suits type v → is_key_value type v ≡ true
suits_from type v (inl null) = or_true (has_type type v) (is_null v) (ap is_null null)
suits_from type v (inr held) = ap (λ b. b || is_null v) held.0

distinct_is : (cells : List (ℕ × Value)) → are_distinct cells ≡ is_distinct (each (λ (named : ℕ × Value). named.0) cells)
distinct_is [] = refl
distinct_is (c ∷ cs) =
    ap (λ b. not b && are_distinct cs) (any_through (λ (other : ℕ × Value). other.0) (λ n. c.0 == n) cs)
    ∙ ap (λ b. not (list_any (λ n. c.0 == n) (each (λ (named : ℕ × Value). named.0) cs)) && b) (distinct_is cs)

module _ (v : Version) (served : IsServed v) where
  -- ---- named columns

  abbrev FirstIn : ℕ → List (ℕ × Value) → ℕ → Type 0
  FirstIn table cells column =
      (before after : List (ℕ × Value)) × (value : Value) × (cells ≡ before ++ (column, value) ∷ after)
      × (¬ (HasColumn v table column))
      × AllByRecursion (λ (named : ℕ × Value). HasColumn v table named.0) before

  no_column : (table n : ℕ) → column_type (live v) table n ≡ None → ¬ (HasColumn v table n)
  no_column table n none has = let there : column_type (live v) table n ≡ Some has.0 = column_from v served table n has.0 has.1 in cc

  hidden_is : (table : ℕ) (cells : List (ℕ × Value)) (n : ℕ) → first_hidden (live v) table cells ≡ Some n → FirstIn table cells n
  hidden_is table [] n e = absurd cc
  hidden_is table (c ∷ cs) n e =
      elim (column_type (live v) table c.0) as (λ o. column_type (live v) table c.0 ≡ o → cond (is_some o) (first_hidden (live v) table cs) (Some c.0) ≡ Some n → FirstIn table (c ∷ cs) n) [
        | None ↦ λ t f.
            let same : c.0 ≡ n = some_same f in
            ([], cs, c.1, ap (λ m. (m, c.1) ∷ cs) same, subst (λ m. ¬ (HasColumn v table m)) same (no_column table c.0 t), tt)
        | Some type ↦ λ t f.
            let r = hidden_is table cs n f in
            (c ∷ r.0, r.1, r.2, ap (λ l. c ∷ l) r.3, r.4, ((type, column_says v served table c.0 type t), r.5))
      ] refl e

  none_hidden : (table : ℕ) (cells : List (ℕ × Value)) → first_hidden (live v) table cells ≡ None → AllByRecursion (λ (named : ℕ × Value). HasColumn v table named.0) cells
  none_hidden table [] e = tt
  none_hidden table (c ∷ cs) e =
      elim (column_type (live v) table c.0) as (λ o. column_type (live v) table c.0 ≡ o → cond (is_some o) (first_hidden (live v) table cs) (Some c.0) ≡ None → AllByRecursion (λ (named : ℕ × Value). HasColumn v table named.0) (c ∷ cs)) [
        | None ↦ λ t f. absurd (let x : Some c.0 ≡ None = f in cc)
        | Some type ↦ λ t f. ((type, column_says v served table c.0 type t), none_hidden table cs f)
      ] refl e

  at_middle : (table : ℕ) (before after : List (ℕ × Value)) (x : ℕ × Value) → AllByRecursion (λ (named : ℕ × Value). HasColumn v table named.0) (before ++ x ∷ after) → HasColumn v table x.0
  at_middle table [] after x all = all.0
  at_middle table (b ∷ before) after x all = at_middle table before after x all.1

  not_hidden : (table : ℕ) (cells : List (ℕ × Value)) (n : ℕ) → AllByRecursion (λ (named : ℕ × Value). HasColumn v table named.0) cells → FirstIn table cells n → ⊥
  not_hidden table cells n all (before, after, value, split, never, rest) =
      never (at_middle table before after (n, value) (subst (AllByRecursion (λ (named : ℕ × Value). HasColumn v table named.0)) split all))

  -- ---- types

  abbrev AreSuited : ℕ → List (ℕ × Value) → Type 0
  AreSuited table cells = AllByRecursion (λ (named : ℕ × Value). (type : ColumnType) → IsPublicColumn v table named.0 type → Suits type named.1) cells

  all_suit : (table : ℕ) (cells : List (ℕ × Value)) → suits_all (live v) table cells ≡ true → AllByRecursion (λ (named : ℕ × Value). IsValue named.1) cells → AreSuited table cells
  all_suit table [] e known = tt
  all_suit table (c ∷ cs) e known =
      let b = both_true (suits (column_type (live v) table c.0) c.1) (suits_all (live v) table cs) e in
      (λ type p. suits_says type c.1 known.0 (ap (λ o. suits o c.1) (sym (column_from v served table c.0 type p)) ∙ b.0), all_suit table cs b.1 known.1)

  suit_all : (table : ℕ) (cells : List (ℕ × Value)) → AllByRecursion (λ (named : ℕ × Value). HasColumn v table named.0) cells → AreSuited table cells → suits_all (live v) table cells ≡ true
  suit_all table [] has suited = refl
  suit_all table (c ∷ cs) has suited =
      and_true (suits (column_type (live v) table c.0) c.1) (suits_all (live v) table cs)
      (ap (λ o. suits o c.1) (column_from v served table c.0 has.0.0 has.0.1) ∙ suits_from has.0.0 c.1 (suited.0 has.0.0 has.0.1))
      (suit_all table cs has.1 suited.1)

  typed_says : (table : Table) (op : RowOp) → is_typed table.key (live v) op ≡ true → AreKnown op → IsTyped v table op
  typed_says table op e known =
      let a = both_true (is_key_for table.key (key_of op)) _ e in
      let b = both_true (suits_all (live v) (table_of op) (named_of op)) (are_distinct (named_of op)) a.1 in
      record {
        key = (sym (pointwise_each table.key (key_of op)) ∙ a.0, key_storable table.key (key_of op) a.0 known.key);
        values = all_suit (table_of op) (named_of op) b.0 known.values;
        once = sym (distinct_is (named_of op)) ∙ b.1;
      }

  typed_from : (table : Table) (op : RowOp) → AllByRecursion (λ (named : ℕ × Value). HasColumn v (table_of op) named.0) (named_of op) → IsTyped v table op → is_typed table.key (live v) op ≡ true
  typed_from table op has typed =
      and_true (is_key_for table.key (key_of op)) _ (pointwise_each table.key (key_of op) ∙ typed.key.0)
      (and_true (suits_all (live v) (table_of op) (named_of op)) (are_distinct (named_of op)) (suit_all (table_of op) (named_of op) has typed.values) (distinct_is (named_of op) ∙ typed.once))

  -- ---- one operation

  low : (fault : PrepareFault) → 1 ≤ rank fault
  low NoTable = omega arith
  low (NotPublic column) = omega arith
  low WrongType = omega arith
  low TooManyOps = omega arith
  low ViewMismatch = omega arith
  low Memory = omega arith

  no_table : (op : RowOp) → table_at v (table_of op) ≡ None → IsFirst rank (OpFault v op) NoTable
  no_table op t = (ap is_some t, λ other lt _. (let l = low other in absurd (omega (arith, l))))

  has_table : (op : RowOp) (table : Table) → table_at v (table_of op) ≡ Some table → OpFault v op NoTable → ⊥
  has_table op table t none = let p : is_some (table_at v (table_of op)) ≡ true = ap is_some t in not_both p none

  hidden_first : (op : RowOp) (table : Table) (n : ℕ) → table_at v (table_of op) ≡ Some table → IsFirstHidden v op n → IsFirst rank (OpFault v op) (NotPublic n)
  hidden_first op table n t hidden = (hidden, lower)
    where
      lower : (other : PrepareFault) → rank other < 2 → ¬ (OpFault v op other)
      lower NoTable lt h = has_table op table t h
      lower (NotPublic column) lt h = absurd (omega arith)
      lower WrongType lt h = absurd (omega arith)
      lower TooManyOps lt h = h
      lower ViewMismatch lt h = h
      lower Memory lt h = h

  typed_first : (op : RowOp) (table : Table) → table_at v (table_of op) ≡ Some table → AllByRecursion (λ (named : ℕ × Value). HasColumn v (table_of op) named.0) (named_of op) → ¬ (IsTyped v table op) → IsFirst rank (OpFault v op) WrongType
  typed_first op table t has never = ((table, t, never), lower)
    where
      lower : (other : PrepareFault) → rank other < 3 → ¬ (OpFault v op other)
      lower NoTable lt h = has_table op table t h
      lower (NotPublic column) lt h = not_hidden (table_of op) (named_of op) column has h
      lower WrongType lt h = absurd (omega arith)
      lower TooManyOps lt h = h
      lower ViewMismatch lt h = h
      lower Memory lt h = h

  pub op_first : (op : RowOp) (fault : PrepareFault) → op_check v op ≡ Some fault → IsFirst rank (OpFault v op) fault
  op_first op fault e =
      elim (table_at v (table_of op)) as (λ o. table_at v (table_of op) ≡ o → check_table (option_map (λ (t : Table). t.key) o) (live v) op ≡ Some fault → IsFirst rank (OpFault v op) fault) [
        | None ↦ λ t f. subst (IsFirst rank (OpFault v op)) (some_same f) (no_table op t)
        | Some table ↦ λ t f. at_table table t (first_hidden (live v) (table_of op) (named_of op)) (is_typed table.key (live v) op) refl refl f
      ] refl e
    where
      at_table : (table : Table) → table_at v (table_of op) ≡ Some table → (o : Option ℕ) (b : Bool) → first_hidden (live v) (table_of op) (named_of op) ≡ o → is_typed table.key (live v) op ≡ b → check_named o b ≡ Some fault → IsFirst rank (OpFault v op) fault
      at_table table t (Some n) b h p f = subst (IsFirst rank (OpFault v op)) (some_same f) (hidden_first op table n t (hidden_is (table_of op) (named_of op) n h))
      at_table table t None true h p f = absurd (let x : None ≡ Some fault = f in cc)
      at_table table t None false h p f =
          let has = none_hidden (table_of op) (named_of op) h in
          subst (IsFirst rank (OpFault v op)) (some_same f) (typed_first op table t has (λ typed. not_both (typed_from table op has typed) p))

  pub op_sound : (op : RowOp) → op_check v op ≡ None → AreKnown op → IsSound v op
  op_sound op e known =
      elim (table_at v (table_of op)) as (λ o. table_at v (table_of op) ≡ o → check_table (option_map (λ (t : Table). t.key) o) (live v) op ≡ None → IsSound v op) [
        | None ↦ λ t f. absurd (let x : Some NoTable ≡ None = f in cc)
        | Some table ↦ λ t f. at_table table t (first_hidden (live v) (table_of op) (named_of op)) (is_typed table.key (live v) op) refl refl f
      ] refl e
    where
      at_table : (table : Table) → table_at v (table_of op) ≡ Some table → (o : Option ℕ) (b : Bool) → first_hidden (live v) (table_of op) (named_of op) ≡ o → is_typed table.key (live v) op ≡ b → check_named o b ≡ None → IsSound v op
      at_table table t (Some n) b h p f = absurd (let x : Some (NotPublic n) ≡ None = f in cc)
      at_table table t None false h p f = absurd (let x : Some WrongType ≡ None = f in cc)
      at_table table t None true h p f = record { table = table; known = t; public = none_hidden (table_of op) (named_of op) h; typed = typed_says table op p known }

  pub sound_clear : (op : RowOp) → IsSound v op → (other : PrepareFault) → ¬ (OpFault v op other)
  sound_clear op sound NoTable h = has_table op sound.table sound.known h
  sound_clear op sound (NotPublic column) h = not_hidden (table_of op) (named_of op) column sound.public h
  sound_clear op sound WrongType h = h.2 (subst (λ t. IsTyped v t op) (some_same (sym sound.known ∙ h.1)) sound.typed)
  sound_clear op sound TooManyOps h = h
  sound_clear op sound ViewMismatch h = h
  sound_clear op sound Memory h = h

  -- ---- the operations of a transaction

  pub ops_first : (ops : List RowOp) (fault : PrepareFault) → AreKnownUntil v ops → ops_check v ops ≡ Some fault → IsFirstOpFault v ops fault
  ops_first [] fault known e = absurd cc
  ops_first (op ∷ ops) fault known e =
      elim (op_check v op) as (λ o. op_check v op ≡ o → or_else o (ops_check v ops) ≡ Some fault → IsFirstOpFault v (op ∷ ops) fault) [
        | Some f ↦ λ here p. ([], ops, op, refl, op_first op fault (here ∙ p), tt)
        | None ↦ λ here p.
            let k = known here in
            let r = ops_first ops fault k.1 p in
            (op ∷ r.0, r.1, r.2, ap (λ l. op ∷ l) r.3, r.4, (sound_clear op (op_sound op here k.0), r.5))
      ] refl e

  pub ops_sound : (ops : List RowOp) → AreKnownUntil v ops → ops_check v ops ≡ None → AllByRecursion (IsSound v) ops
  ops_sound [] known e = tt
  ops_sound (op ∷ ops) known e =
      elim (op_check v op) as (λ o. op_check v op ≡ o → or_else o (ops_check v ops) ≡ None → AllByRecursion (IsSound v) (op ∷ ops)) [
        | Some f ↦ λ here p. absurd (let x : Some f ≡ None = p in cc)
        | None ↦ λ here p. let k = known here in (op_sound op here k.0, ops_sound ops k.1 p)
      ] refl e

  sound_in : (before after : List RowOp) (op : RowOp) → AllByRecursion (IsSound v) (before ++ op ∷ after) → IsSound v op
  sound_in [] after op all = all.0
  sound_in (b ∷ before) after op all = sound_in before after op all.1

  pub sound_none : (ops : List RowOp) (fault : PrepareFault) → AllByRecursion (IsSound v) ops → IsFirstOpFault v ops fault → ⊥
  sound_none ops fault all (before, after, op, split, first, rest) = sound_clear op (sound_in before after op (subst (AllByRecursion (IsSound v)) split all)) fault first.0

  abbrev Clear : List RowOp → Type 0
  Clear = AllByRecursion (λ (earlier : RowOp). (other : PrepareFault) → ¬ (OpFault v earlier other))

  tail_of : List RowOp → List RowOp
  tail_of [] = []
  tail_of (x ∷ xs) = xs

  head_or : RowOp → List RowOp → RowOp
  head_or d [] = d
  head_or d (x ∷ xs) = x

  -- the first fault is of the same rank, however it is found
  one_rank : (b c x y : List RowOp) (p q : RowOp) (f g : PrepareFault) → b ++ p ∷ x ≡ c ++ q ∷ y → IsFirst rank (OpFault v p) f → IsFirst rank (OpFault v q) g → AllByRecursion (λ (earlier : RowOp). (other : PrepareFault) → ¬ (OpFault v earlier other)) b → AllByRecursion (λ (earlier : RowOp). (other : PrepareFault) → ¬ (OpFault v earlier other)) c → rank g < rank f → ⊥
  one_rank [] [] x y p q f g e i j b c lt = let same : p ≡ q = cc in i.1 g lt (subst (λ o. OpFault v o g) (sym same) j.0)
  one_rank [] (d ∷ cs) x y p q f g e i j b c lt = let same : p ≡ d = cc in c.0 f (subst (λ o. OpFault v o f) same i.0)
  one_rank (d ∷ bs) [] x y p q f g e i j b c lt = let same : d ≡ q = cc in b.0 g (subst (λ o. OpFault v o g) (sym same) j.0)
  one_rank (d ∷ bs) (h ∷ cs) x y p q f g e i j b c lt = let rest : bs ++ p ∷ x ≡ cs ++ q ∷ y = cc in one_rank bs cs x y p q f g rest i j b.1 c.1 lt

  lowest : (ops : List RowOp) (f g : PrepareFault) → IsFirstOpFault v ops f → IsFirstOpFault v ops g → rank g < rank f → ⊥
  lowest ops f g (b, x, p, e, i, bs) (c, y, q, d, j, cs) lt = one_rank b c x y p q f g (sym e ∙ d) i j bs cs lt

  -- ---- what they say of a transaction

  pub fault_condition : (ops : List RowOp) (view : View) (fault : PrepareFault) → IsFirstOpFault v ops fault → Condition v ops view fault
  fault_condition ops view NoTable h = h
  fault_condition ops view (NotPublic column) h = h
  fault_condition ops view WrongType h = h
  fault_condition ops view TooManyOps (b, a, op, split, first, rest) = absurd first.0
  fault_condition ops view ViewMismatch (b, a, op, split, first, rest) = absurd first.0
  fault_condition ops view Memory (b, a, op, split, first, rest) = absurd first.0

  rank_three : (op : RowOp) (fault : PrepareFault) → OpFault v op fault → rank fault ≤ 3
  rank_three op NoTable h = omega arith
  rank_three op (NotPublic column) h = omega arith
  rank_three op WrongType h = omega arith
  rank_three op TooManyOps h = absurd h
  rank_three op ViewMismatch h = absurd h
  rank_three op Memory h = absurd h

  pub fault_lowest : (ops : List RowOp) (view : View) (fault : PrepareFault) → IsFirstOpFault v ops fault → (other : PrepareFault) → rank other < rank fault → ¬ (Condition v ops view other)
  fault_lowest ops view fault h NoTable lt c = lowest ops fault NoTable h c lt
  fault_lowest ops view fault h (NotPublic column) lt c = lowest ops fault (NotPublic column) h c lt
  fault_lowest ops view fault h WrongType lt c = lowest ops fault WrongType h c lt
  fault_lowest ops view fault (b, a, op, split, first, rest) TooManyOps lt c = let r = rank_three op fault first.0 in absurd (omega (arith, r))
  fault_lowest ops view fault (b, a, op, split, first, rest) ViewMismatch lt c = let r = rank_three op fault first.0 in absurd (omega (arith, r))
  fault_lowest ops view fault (b, a, op, split, first, rest) Memory lt c = c
