-- The elements that are made of a version, found and counted as their definitions are.
use Rattle.std.proofs.Common.{◌≡◌, ℕ, zero, suc, ◌+◌, ◌<◌, Bool, true, false, cond, List, [], ◌∷◌, length, get_or, Option, Some, option_map, refl, sym, ap, subst, ◌∙◌, arith}
use Rattle.std.specs.Prelude.{IfSome, count_by, ◌==◌}
use Rattle.std.specs.List.{AllByRecursion, find}
use Rattle.std.proofs.lemmas.List.Sums.{sum_by-cons}
use mathlib.Core.List.{map as each}
use Rattle.row_map.specs.declared.shape.Row.{Row}
use Rattle.row_map.specs.Rows.{Pairs}
use Rattle.schema_version.specs.declared.element.ElementDef.{ElementDef}
use Rattle.schema_version.specs.Version.{Version, live}
use Rattle.element_state.specs.Elements.{Meaning}
use Rattle.element_state.specs.Kinds.{kind_meaning, table_of_any}
use Rattle.element_state.specs.Operations.{cells_of, fill_pair}
use Rattle.element_state.specs.Sources.{source_in}
use Rattle.audit.specs.declared.wanted.Made.{Made}
use Rattle.audit.specs.Audit.{given, lacks, numbered}
use Rattle.audit.specs.inner.RowCounts.{gives}
use Rattle.audit.specs.inner.Made.{definition_of, definition_in, given_by, IsMade, AreMade}

module _ {X Y : Type 0} (f : X → Y) where
  count_each : (p : Y → Bool) (xs : List X) → count_by p (each f xs) ≡ count_by (λ x. p (f x)) xs
  count_each p [] = refl
  count_each p (x ∷ xs) =
      sum_by-cons (λ y. cond (p y) 1 0) (f x) (each f xs)
      ∙ ap (λ (n : ℕ). cond (p (f x)) 1 0 + n) (count_each p xs)
      ∙ sym (sum_by-cons (λ x. cond (p (f x)) 1 0) x xs)

  find_each : (p : Y → Bool) (xs : List X) → option_map f (find (λ x. p (f x)) xs) ≡ find p (each f xs)
  find_each p [] = refl
  find_each p (x ∷ xs) =
      elim (p (f x)) as (λ b. option_map f (cond b (Some x) (find (λ x. p (f x)) xs)) ≡ cond b (Some (f x)) (find p (each f xs))) [
        | true ↦ refl
        | false ↦ find_each p xs
      ]

module _ {X : Type 0} (P : X → Type 0) where
  all_at : (xs : List X) (i : ℕ) (d : X) → i < length xs → AllByRecursion P xs → P (get_or xs i d)
  all_at [] i d within all = absurd (omega arith)
  all_at (x ∷ xs) zero d within all = all.0
  all_at (x ∷ xs) (suc i) d within all = all_at xs i d (omega arith) all.1

  all_found : (p : X → Bool) (xs : List X) → AllByRecursion P xs → IfSome (find p xs) P
  all_found p [] all = tt
  all_found p (x ∷ xs) all =
      elim (p x) as (λ b. IfSome (cond b (Some x) (find p xs)) P) [
        | true ↦ all.0
        | false ↦ all_found p xs all.1
      ]

-- whether the store lacks the pair of a made element
abbrev pub lacks_made : Version → Pairs → ℕ → Row → Made → Bool
lacks_made version pairs table row made = lacks version pairs table row (definition_of made)

-- whether the store has the pair of a made index
abbrev pub gives_made : Version → Pairs → ℕ → Row → Made → Bool
gives_made version pairs table row made = gives version pairs table row (definition_of made)

-- a made element gives what its definition does
pub made_gives : (version : Version) (made : Made) (row : Row) → IsMade version made → given_by made row ≡ given version (definition_of made) row
made_gives version made row is =
    ap (λ (m : Meaning). fill_pair m (table_of_any made.element, row.key) (cells_of row)) is.meaning
    ∙ ap (λ (t : ℕ). fill_pair (kind_meaning made.definition.now.number (source_in version made.definition.now.kind)) (t, row.key) (cells_of row)) is.table

module _ (version : Version) (all : List Made) (made : AreMade version all) where
  pub made_at : (i : ℕ) (d here : Made) → i < length all → here ≡ get_or all i d → IsMade version here
  made_at i d here within is = subst (IsMade version) (sym is) (all_at (IsMade version) all i d within made.made)

  pub made_count : (test : ElementDef → Bool) → count_by (λ made. test (definition_of made)) all ≡ count_by test (live version)
  made_count test = sym (count_each definition_of test all) ∙ ap (count_by test) made.live

  pub made_numbered : (number : ℕ) (found : Option Made) → found ≡ find (λ made. (definition_of made).number == number) all → (definition_in found ≡ numbered version number) × IfSome found (IsMade version)
  made_numbered number found is = (
    ap definition_in is ∙ find_each definition_of (λ element. element.number == number) all ∙ ap (find (λ element. element.number == number)) made.live,
    subst (λ (o : Option Made). IfSome o (IsMade version)) (sym is) (all_found (IsMade version) (λ made. (definition_of made).number == number) all made.made),
  )
