-- The row that consistent pairs encode has the values of the rows in each public column, so an
-- index and a required column give it the row's own pair.
use Rattle.std.proofs.Common.{◌≡◌, ℕ, ◌&&◌, ◌||◌, Bool, true, false, cond, List, [], ◌∷◌, ◌++◌, Option, Some, None, option_map, unwrap_or, refl, sym, ap, subst, ◌∙◌, Contains, eq-eqb}
use Rattle.schema_version.specs.declared.element.ElementState.TheVariants.{Public}
use Rattle.element_state.specs.Required.{required_code}
use Rattle.element_state.specs.Column.{column_pair}
use Rattle.element_state.specs.Sources.{source_in, default_value_at}
use Rattle.audit.specs.Meaning.{with_default_values}
use Rattle.std.specs.Cmp.{nat_cmp_total}
use Rattle.std.specs.FinMap as map
use Rattle.std.specs.FinMap.{nat_cmp-IsAntisymmetric}
use Rattle.std.specs.FinMap.Entries.{find}
use Rattle.std.specs.List.{AllByRecursion, filter_map, cons_option, list_any}
use Rattle.std.specs.Ordering.{nat_cmp, eq_by_cmp}
use mathlib.Core.List.{map as each}
use Rattle.audit.specs.Audit.{given}
use Rattle.audit.specs.Encoded.{encoded, public_type, cell_by, stored_cell, row_at}
use Rattle.keycode.specs.declared.value.Value.{Value}
use Rattle.keycode.specs.Code.{code}
use Rattle.keycode.specs.Valid.{IsValue, IsShort}
use Rattle.row_map.specs.declared.shape.ColumnType.{ColumnType}
use Rattle.row_map.specs.Keys.{row_code, index_code}
use Rattle.row_map.specs.Rows.{Cells, Rows, Pairs}
use Rattle.row_map.specs.Shape.{has_type}
use Rattle.row_map.proofs.Cells.{typed_again}
use Rattle.row_map.proofs.Entries.{each_entry}
use Rattle.schema_version.specs.declared.element.ElementState.{ElementState}
use Rattle.schema_version.specs.declared.element.Kind.{Kind}
use Rattle.schema_version.specs.declared.element.Kind.TheVariants.{Index, Optional, Required}
use Rattle.schema_version.specs.declared.element.ElementDef.{ElementDef}
use Rattle.schema_version.specs.Sound.{IsSoundVersion}
use Rattle.schema_version.specs.Version.{Version, element_at, is_public, type_of_kind, indexed_columns, IsPublicColumn}
use Rattle.schema_version.proofs.Lists.{here as at_head, later as behind}
use Rattle.element_state.specs.lemmas.Apart.{none_some}
use Rattle.element_state.specs.Consistent.{IsConsistent}
use Rattle.element_state.specs.Index.{indexed, index_pair, value_in}
use Rattle.element_state.specs.Kinds.{kind_meaning}
use Rattle.element_state.specs.Operations.{cells_of, fill_pair}
use Rattle.row_query.proofs.Columns.{column_named}
use Rattle.row_query.proofs.Premise.{Reads}
use Rattle.row_query.proofs.Sorted.{kept, find_kept}

-- ---- one cell

-- the value that a pair encodes, by the type that its column has
abbrev value_by : Pairs → ℕ → List Value → ℕ → Option ColumnType → Option Value
value_by pairs table primary number None = None
value_by pairs table primary number (Some type) = encoded type (map.get pairs (row_code table primary number))

abbrev type_here : ℕ → Option ElementDef → Option ColumnType
type_here table None = None
type_here table (Some element) = public_type table element

cell_is : (pairs : Pairs) (table : ℕ) (primary : List Value) (number : ℕ) (o : Option ColumnType) → cell_by pairs table primary number o ≡ option_map (λ (v : Value). (number, v)) (value_by pairs table primary number o)
cell_is pairs table primary number None = refl
cell_is pairs table primary number (Some type) = refl

-- what a value's bytes encode is the value
encoded_code : (type : ColumnType) (v : Value) → IsValue v → IsShort v → has_type type v ≡ true → encoded type (Some (code v)) ≡ Some v
encoded_code type v p q typed = typed_again type v (p, q) typed

number_listed : (n : ℕ) (x : ElementDef) (es : List (ℕ × ElementDef)) → find nat_cmp n es ≡ Some x → list_any (eq_by_cmp nat_cmp n) (each (λ (e : ℕ × ElementDef). e.0) es) ≡ true
number_listed n x [] is = absurd (none_some x is)
number_listed n x (e ∷ es) is =
    elim (eq_by_cmp nat_cmp n e.0) as (λ b. cond b (Some e.1) (find nat_cmp n es) ≡ Some x → (b || list_any (eq_by_cmp nat_cmp n) (each (λ (e : ℕ × ElementDef). e.0) es)) ≡ true) [
      | true ↦ λ s. refl
      | false ↦ λ s. number_listed n x es s
    ] is

-- ---- the cells of a encoded row

module _ (version : Version) (pairs : Pairs) (table : ℕ) (primary : List Value) where
  abbrev value_at_number : ℕ → Option Value
  value_at_number number = value_by pairs table primary number (type_here table (element_at version number))

  abbrev IsOwn : ℕ → ElementDef → Type 0
  IsOwn number element = (element_at version number ≡ Some element) × (element.number ≡ number)

  stored_is : (number : ℕ) (element : ElementDef) → IsOwn number element → stored_cell pairs table primary element ≡ option_map (λ (v : Value). (number, v)) (value_at_number number)
  stored_is number element own =
      cell_is pairs table primary element.number (public_type table element)
      ∙ ap (λ (n : ℕ). option_map (λ (v : Value). (n, v)) (value_by pairs table primary n (public_type table element))) own.1
      ∙ ap (λ (o : Option ElementDef). option_map (λ (v : Value). (number, v)) (value_by pairs table primary number (type_here table o))) (sym own.0)

  all_stored : (es : List (ℕ × ElementDef)) → AllByRecursion (λ (e : ℕ × ElementDef). IsOwn e.0 e.1) es
      → filter_map (stored_cell pairs table primary) (each (λ (e : ℕ × ElementDef). e.1) es) ≡ kept value_at_number (each (λ (e : ℕ × ElementDef). e.0) es)
  all_stored [] all = refl
  all_stored (e ∷ es) all =
      ap (λ (o : Option (ℕ × Value)). cons_option o (filter_map (stored_cell pairs table primary) (each (λ (e : ℕ × ElementDef). e.1) es))) (stored_is e.0 e.1 all.0)
      ∙ ap (cons_option (option_map (λ (v : Value). (e.0, v)) (value_at_number e.0))) (all_stored es all.1)

  cell_encoded : IsSoundVersion version → (n : ℕ) (x : ElementDef) → element_at version n ≡ Some x → map.get (cells_of (row_at version pairs table primary)) n ≡ value_at_number n
  cell_encoded sound n x there =
      map.get-from_entries nat_cmp_total (row_at version pairs table primary).cells n
      ∙ ap (find nat_cmp n) (all_stored (map.entries version.elements) (each_entry nat_cmp nat_cmp_total nat_cmp-IsAntisymmetric IsOwn version.elements (λ m e is. (is, (sound.elements m e is).own))))
      ∙ find_kept nat_cmp_total nat_cmp-IsAntisymmetric value_at_number n (each (λ (e : ℕ × ElementDef). e.0) (map.entries version.elements))
      ∙ ap (λ (b : Bool). cond b (value_at_number n) None) (number_listed n x (map.entries version.elements) (sym (map.get-entries version.elements n) ∙ there))

-- ---- where the pairs agree with rows in which no public required column lacks a value

module _ (version : Version) (sound : IsSoundVersion version) (rows : Rows) (pairs : Pairs) (agree : IsConsistent version rows pairs) (reads : Reads version rows pairs) where
  abbrev encoded_cells : ℕ → List Value → Cells
  encoded_cells table primary = cells_of (row_at version pairs table primary)

  module _ (table : ℕ) (primary : List Value) (cells : Cells) (here : map.get rows (table, primary) ≡ Some cells) where
    -- a public column has the row's value
    value_is : (n : ℕ) → IsPublicColumn version table n → map.get (encoded_cells table primary) n ≡ map.get cells n
    value_is n c =
        cell_encoded version pairs table primary sound n c.0 c.2
        ∙ ap (value_by pairs table primary n) type_is
        ∙ ap (encoded c.1) (reads.columns table primary cells n here (column_named version sound table n c.1 (record { element = c.0; known = c.2; home = c.3; column = c.4; public = c.5 })))
        ∙ read_again (map.get cells n) refl
      where
        type_is : type_here table (element_at version n) ≡ Some c.1
        type_is =
            ap (type_here table) c.2
            ∙ ap (λ (b : Bool). cond (b && is_public c.0.state) (type_of_kind c.0.kind) None) (eq-eqb c.0.table table c.3)
            ∙ ap (λ (q : ElementState). cond (is_public q) (type_of_kind c.0.kind) None) c.5
            ∙ c.4

        read_again : (o : Option Value) → map.get cells n ≡ o → encoded c.1 (option_map code o) ≡ o
        read_again None e = refl
        read_again (Some v) e =
            let held = reads.values table primary cells n v here e in
            encoded_code c.1 v held.0 held.1 ((agree.lawful (table, primary) cells here).types n c.0 c.1 v c.2 c.4 e)

    -- so an index over public columns has the row's values
    indexed_is : (columns : List ℕ) → ((c : ℕ) → Contains columns c → IsPublicColumn version table c) → indexed (with_default_values version columns) (encoded_cells table primary) ≡ indexed (with_default_values version columns) cells
    indexed_is [] all = refl
    indexed_is (c ∷ columns) all =
        ap (λ (o : Option Value). unwrap_or o (default_value_at version c) ∷ indexed (with_default_values version columns) (encoded_cells table primary)) (value_is c (all c (at_head c columns)))
        ∙ ap (λ (vs : List Value). value_in cells (c, default_value_at version c) ∷ vs) (indexed_is columns (λ d there. all d (behind c d columns there)))

  -- what an element gives the encoded row, by its kind
  given_by : (n : ℕ) (element : ElementDef) (k : Kind) → element_at version n ≡ Some element → element.kind ≡ k → (primary : List Value)
      → given version element (row_at version pairs element.table primary) ≡ fill_pair (kind_meaning n (source_in version k)) (element.table, primary) (encoded_cells element.table primary)
  given_by n element k at kind primary =
      ap (λ (q : Kind). fill_pair (kind_meaning element.number (source_in version q)) (element.table, primary) (encoded_cells element.table primary)) kind
      ∙ ap (λ (m : ℕ). fill_pair (kind_meaning m (source_in version k)) (element.table, primary) (encoded_cells element.table primary)) (sound.elements n element at).own

  -- an index gives it the pair of the row
  pub given_pair : (n : ℕ) (element : ElementDef) (columns : List ℕ) → element_at version n ≡ Some element → element.kind ≡ Index columns → (primary : List Value) (cells : Cells) → map.get rows (element.table, primary) ≡ Some cells
      → given version element (row_at version pairs element.table primary) ≡ Some (index_pair n (with_default_values version columns) (element.table, primary) cells, [])
  given_pair n element columns at kind primary cells here =
      given_by n element (Index columns) at kind primary
      ∙ ap (λ (vs : List Value). Some (index_code n (vs ++ primary), []))
      (indexed_is element.table primary cells here columns (λ c there. (sound.elements n element at).columns c (subst (λ (k : Kind). Contains (indexed_columns k) c) (sym kind) there)))

  -- a public required column too
  pub given_value : (n : ℕ) (element : ElementDef) (type : ColumnType) (fallback : Value) → element_at version n ≡ Some element → element.kind ≡ Required type fallback → element.state ≡ Public → (primary : List Value) (cells : Cells)
      → map.get rows (element.table, primary) ≡ Some cells → given version element (row_at version pairs element.table primary) ≡ Some (column_pair n (element.table, primary), required_code n fallback cells)
  given_value n element type fallback at kind public primary cells here =
      given_by n element (Required type fallback) at kind primary
      ∙ ap (λ (o : Option Value). Some (column_pair n (element.table, primary), code (unwrap_or o fallback)))
      (value_is element.table primary cells here n (element, type, at, refl, ap type_of_kind kind, public))

  -- and an optional column gives it none
  pub given_none : (n : ℕ) (element : ElementDef) (type : ColumnType) → element_at version n ≡ Some element → element.kind ≡ Optional type → (primary : List Value) → given version element (row_at version pairs element.table primary) ≡ None
  given_none n element type at kind primary = given_by n element (Optional type) at kind primary
