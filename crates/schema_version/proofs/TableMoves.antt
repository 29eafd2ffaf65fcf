-- The moves by which a table's columns and indexes enter.
use Rattle.std.proofs.Common.{◌≡◌, ℕ, ◌+◌, ◌≤◌, cond, List, [], ◌∷◌, ◌++◌, length, refl, sym, ap, ◌∙◌, arith, count_by}
use Rattle.std.specs.Prelude.{IsTrue}
use Rattle.std.proofs.lemmas.List.Sums.{sum_by-cons, sum_by-append}
use mathlib.Core.List.{map as each}
use Rattle.schema_version.specs.declared.element.ElementState.TheVariants.{Public}
use Rattle.schema_version.specs.declared.element.NewElement.{NewElement}
use Rattle.schema_version.specs.declared.table.TableDef.{TableDef}
use Rattle.schema_version.specs.declared.step.Move.{Move}
use Rattle.schema_version.specs.declared.step.Move.TheVariants.{Enter}
use Rattle.schema_version.specs.Version.{Version}
use Rattle.schema_version.specs.Moves.{after_step, after_move, entered, is_entry}
use Rattle.schema_version.specs.Declare.{column_entry, index_entry, column_move, index_move, moves_of, entries_of, enter_public}
use Rattle.schema_version.specs.inner.AcceptTables.{has_fair_sizes}
use Rattle.schema_version.proofs.Declared.{fair_sizes}

-- all of these enter
all_enter : {X : Type 0} (f : X → NewElement) (xs : List X) → count_by is_entry (each (λ x. Enter (f x) Public) xs) ≡ length xs
all_enter f [] = refl
all_enter f (x ∷ xs) = sum_by-cons (λ m. cond (is_entry m) 1 0) (Enter (f x) Public) (each (λ y. Enter (f y) Public) xs) ∙ (let rest = all_enter f xs in omega (arith, rest))

count_moves : (n f : ℕ) (t : TableDef) → count_by is_entry (moves_of n f t) ≡ length t.columns + length t.indexes
count_moves n f t =
    sum_by-append (λ m. cond (is_entry m) 1 0) (each (column_move n) t.columns) (each (index_move n f t.columns) t.indexes)
    ∙ (λ i. all_enter (column_entry n) t.columns i + all_enter (index_entry n f t.columns) t.indexes i)

pub few_moves : (n f : ℕ) (t : TableDef) → IsTrue (has_fair_sizes t) → count_by is_entry (moves_of n f t) ≤ 48
few_moves n f t fair =
    let sizes = (fair_sizes t).0 fair in
    let count = count_moves n f t in
    omega (arith, count, sizes.1.1.0, sizes.1.1.1)

pub few_columns : (t : TableDef) → IsTrue (has_fair_sizes t) → length t.columns ≤ 32
few_columns t fair = ((fair_sizes t).0 fair).1.1.0

step_append : (v : Version) (xs ys : List Move) → after_step v (xs ++ ys) ≡ after_step (after_step v xs) ys
step_append v [] ys = refl
step_append v (x ∷ xs) ys = step_append (after_move v x) xs ys

pub public_append : (v : Version) (xs ys : List NewElement) → enter_public v (xs ++ ys) ≡ enter_public (enter_public v xs) ys
public_append v [] ys = refl
public_append v (x ∷ xs) ys = public_append (entered v x Public) xs ys

all_public : {X : Type 0} (f : X → NewElement) (v : Version) (xs : List X) → after_step v (each (λ x. Enter (f x) Public) xs) ≡ enter_public v (each f xs)
all_public f v [] = refl
all_public f v (x ∷ xs) = all_public f (entered v (f x) Public) xs

pub table_public : (n f : ℕ) (v : Version) (t : TableDef) → after_step v (moves_of n f t) ≡ enter_public v (entries_of n f t)
table_public n f v t =
    step_append v (each (column_move n) t.columns) (each (index_move n f t.columns) t.indexes)
    ∙ ap (λ w. after_step w (each (index_move n f t.columns) t.indexes)) (all_public (column_entry n) v t.columns)
    ∙ all_public (index_entry n f t.columns) (enter_public v (each (column_entry n) t.columns)) t.indexes
    ∙ sym (public_append v (each (column_entry n) t.columns) (each (index_entry n f t.columns) t.indexes))
