-- The elements of a table are all that a row of it asks for.
use Rattle.std.proofs.Common.{◌≡◌, ◌++◌, ℕ, Bool, true, false, cond, List, [], ◌∷◌, Option, Some, None, option_map, refl, sym, ap, ◌∙◌, eqb, eqb-true, eq-eqb, filter, if◌then◌else◌, ◌&&◌}
use Rattle.std.specs.List.{filter_map, cons_option}
use Rattle.row_map.specs.declared.shape.ColumnType.{ColumnType}
use Rattle.row_map.specs.Writes.{Writes}
use Rattle.schema_version.specs.declared.element.ElementDef.{ElementDef}
use Rattle.schema_version.specs.Version.{Version, is_in, is_public, type_of_kind}
use Rattle.schema_version.specs.Shape.{public_column}
use Rattle.element_state.specs.Elements.{Change}
use Rattle.element_state.specs.Kinds.{kind_meaning}
use Rattle.element_state.specs.Sources.{source_in}
use Rattle.element_state.specs.Tables.{writes-elsewhere}
use Rattle.row_write.specs.inner.Run.{element_writes, live_writes}

pub twice : {X : Type 0} (test : X → Bool) (xs : List X) → filter test (filter test xs) ≡ filter test xs
twice test [] = refl
twice test (x ∷ xs) =
    elim (test x) as (λ b. test x ≡ b → filter test (cond b (x ∷ filter test xs) (filter test xs)) ≡ cond b (x ∷ filter test xs) (filter test xs)) [
      | true ↦ λ e. ap (λ b. cond b (x ∷ filter test (filter test xs)) (filter test (filter test xs))) e ∙ ap (λ ys. x ∷ ys) (twice test xs)
      | false ↦ λ e. twice test xs
    ] refl

-- what is there under some number is there
pub there : {X Y : Type 0} (x y : X) (o : Option Y) → Some x ≡ option_map (λ _. y) o → x ≡ y
there x y None e = absurd cc
there x y (Some z) e = cc

-- no column of another table is found
elsewhere : (table : ℕ) (e : ElementDef) → is_in table e ≡ false → public_column table e ≡ None
elsewhere table e other = ap (λ b. if b && is_public e.state then option_map (λ type. (e.number, type)) (type_of_kind e.kind) else None) other

columns_of_own : (table : ℕ) (es : List ElementDef) → filter_map (public_column table) (filter (is_in table) es) ≡ filter_map (public_column table) es
columns_of_own table [] = refl
columns_of_own table (e ∷ es) =
    elim (is_in table e) as (λ b. is_in table e ≡ b → filter_map (public_column table) (cond b (e ∷ filter (is_in table) es) (filter (is_in table) es)) ≡ cons_option (public_column table e) (filter_map (public_column table) es)) [
      | true ↦ λ _. ap (cons_option (public_column table e)) (columns_of_own table es)
      | false ↦ λ other. columns_of_own table es ∙ ap (λ (o : Option (ℕ × ColumnType)). cons_option o (filter_map (public_column table) es)) (sym (elsewhere table e other))
    ] refl

-- the public columns of a table are found among its own elements
pub same_columns : (table : ℕ) (own all : List ElementDef) → filter (is_in table) own ≡ filter (is_in table) all → filter_map (public_column table) own ≡ filter_map (public_column table) all
same_columns table own all same = sym (columns_of_own table own) ∙ ap (filter_map (public_column table)) same ∙ columns_of_own table all

module _ (v : Version) (c : Change) where
  -- an element of another table writes nothing
  silent : (e : ElementDef) → is_in c.key.0 e ≡ false → element_writes v e c ≡ []
  silent e other = writes-elsewhere e.table (kind_meaning e.number (source_in v e.kind)) e.state c (by (eqb c.key.0 e.table) refl)
    where
      by : (b : Bool) → eqb c.key.0 e.table ≡ b → eqb c.key.0 e.table ≡ false
      by false is = is
      by true is = absurd (let wrong : true ≡ false = sym (eq-eqb e.table c.key.0 (sym (eqb-true c.key.0 e.table is))) ∙ other in cc)

  writes_of_own : (es : List ElementDef) → live_writes v (filter (is_in c.key.0) es) c ≡ live_writes v es c
  writes_of_own [] = refl
  writes_of_own (e ∷ es) =
      elim (is_in c.key.0 e) as (λ b. is_in c.key.0 e ≡ b → live_writes v (cond b (e ∷ filter (is_in c.key.0) es) (filter (is_in c.key.0) es)) c ≡ element_writes v e c ++ live_writes v es c) [
        | true ↦ λ _. ap (λ (ws : Writes). element_writes v e c ++ ws) (writes_of_own es)
        | false ↦ λ other. writes_of_own es ∙ ap (λ (ws : Writes). ws ++ live_writes v es c) (sym (silent e other))
      ] refl

  -- a change of a row asks its table's own elements alone
  pub same_own_writes : (own all : List ElementDef) → filter (is_in c.key.0) own ≡ filter (is_in c.key.0) all → live_writes v own c ≡ live_writes v all c
  same_own_writes own all same = sym (writes_of_own own) ∙ ap (λ es. live_writes v es c) same ∙ writes_of_own all
