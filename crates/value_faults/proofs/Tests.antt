-- There is no wrong value exactly if the test is passed.
use Rattle.std.proofs.Common.{◌≡◌, ◌==◌, ◌&&◌, ◌+◌, ℕ, Bool, true, false, cond, List, [], ◌∷◌, length, Option, Some, None, refl, sym, ◌∙◌, arith, eqb-true, eq-eqb}
use Rattle.std.specs.Prelude.{is_none, not}
use Rattle.std.specs.List.{list_any}
use Rattle.std.specs.Option.{option_or}
use Rattle.std.specs.Cmp.Lexicographic.{pointwise}
use Rattle.keycode.specs.declared.value.Value.{Value}
use Rattle.row_map.specs.declared.shape.ColumnType.{ColumnType}
use Rattle.value_faults.specs.declared.fault.ValueCause.{ValueCause}
use Rattle.value_faults.specs.declared.fault.ValueCause.TheVariants.{KeyLength, KeyValue, ColumnValue, NamedTwice}
use Rattle.value_faults.specs.Faults.{type_given, wrong_at, wrong_from, wrong_key, wrong_for, named_again}

both_true : (a b : Bool) → (a && b) ≡ true → (a ≡ true) × (b ≡ true)
both_true true b e = (refl, e)
both_true false b e = absurd cc

pub both_same : {a b c d : Bool} → a ≡ b → c ≡ d → (a && c) ≡ (b && d)
both_same p q = λ i. p i && q i

-- none of two, if neither is there
pub none_or : (a b : Option ValueCause) → is_none (option_or a b) ≡ (is_none a && is_none b)
none_or None b = refl
none_or (Some cause) b = refl

none_if : (b : Bool) (cause : ValueCause) → is_none (cond b None (Some cause)) ≡ b
none_if true cause = refl
none_if false cause = refl

some_if : (b : Bool) (cause : ValueCause) → is_none (cond b (Some cause) None) ≡ not b
some_if true cause = refl
some_if false cause = refl

module _ (test : ColumnType → Value → Bool) where
  abbrev pub is_key : List (List ℕ × ColumnType) → List Value → Bool
  is_key columns key = pointwise (λ (column : List ℕ × ColumnType) value. test column.1 value) columns key

  none_from : (place : ℕ) (columns : List (List ℕ × ColumnType)) (key : List Value) → length columns ≡ length key → is_none (wrong_from test place columns key) ≡ is_key columns key
  none_from place [] [] e = refl
  none_from place [] (v ∷ vs) e = absurd (omega (arith, e))
  none_from place (c ∷ cs) [] e = absurd (omega (arith, e))
  none_from place (c ∷ cs) (v ∷ vs) e =
      none_or (wrong_at test place c.1 v) (wrong_from test (place + 1) cs vs)
      ∙ both_same (none_if (test c.1 v) (KeyValue place c.1 (type_given v))) (none_from (place + 1) cs vs (omega (arith, e)))

  same_length : (columns : List (List ℕ × ColumnType)) (key : List Value) → is_key columns key ≡ true → length columns ≡ length key
  same_length [] [] e = refl
  same_length [] (v ∷ vs) e = absurd cc
  same_length (c ∷ cs) [] e = absurd cc
  same_length (c ∷ cs) (v ∷ vs) e = let r = same_length cs vs (both_true (test c.1 v) (is_key cs vs) e).1 in omega (arith, r)

  other_length : (columns : List (List ℕ × ColumnType)) (key : List Value) → (length columns == length key) ≡ false → false ≡ is_key columns key
  other_length columns key e =
      elim (is_key columns key) as (λ b. is_key columns key ≡ b → false ≡ b) [
        | true ↦ λ k. absurd (let same : (length columns == length key) ≡ true = eq-eqb (length columns) (length key) (same_length columns key k) in let wrong : true ≡ false = sym same ∙ e in cc)
        | false ↦ λ _. refl
      ] refl

  pub none_key : (columns : List (List ℕ × ColumnType)) (key : List Value) → is_none (wrong_key test columns key) ≡ is_key columns key
  none_key columns key =
      elim (length columns == length key) as (λ b. (length columns == length key) ≡ b → is_none (cond b (wrong_from test 0 columns key) (Some (KeyLength (length key)))) ≡ is_key columns key) [
        | true ↦ λ e. none_from 0 columns key (eqb-true (length columns) (length key) e)
        | false ↦ λ e. other_length columns key e
      ] refl

  pub none_for : (column : ℕ) (wanted : ColumnType) (value : Value) → is_none (wrong_for test column (Some wanted) value) ≡ test wanted value
  none_for column wanted value = none_if (test wanted value) (ColumnValue column wanted (type_given value))

pub none_again : (column : ℕ) (rest : List (ℕ × Value)) → is_none (named_again column rest) ≡ not (list_any (λ (other : ℕ × Value). column == other.0) rest)
none_again column rest = some_if (list_any (λ (other : ℕ × Value). column == other.0) rest) (NamedTwice column)
