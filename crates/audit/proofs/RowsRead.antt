-- The cells of the row that an audit reads are the values that the row's pairs encode.
use Rattle.std.proofs.Common.{◌≡◌, ℕ, ◌==◌, ◌&&◌, Bool, true, false, cond, List, [], ◌∷◌, Option, Some, None, option_map, refl, sym, ap, ◌∙◌, eqb-true, eq-eqb}
use Rattle.std.specs.Prelude.{unwrap_or, ◌↔◌}
use Rattle.std.specs.Cmp.{nat_cmp_total, Equal-is}
use Rattle.std.specs.FinMap as map
use Rattle.std.specs.FinMap.{nat_cmp-IsAntisymmetric}
use Rattle.std.specs.FinMap.Entries.{find}
use Rattle.std.specs.List.{AllByRecursion, filter_map, cons_option}
use Rattle.std.specs.Ordering.{nat_cmp, eq_by_cmp}
use mathlib.Core.List.{map as each}
use Rattle.keycode.specs.declared.value.Value.{Value}
use Rattle.row_map.specs.declared.shape.ColumnType.{ColumnType}
use Rattle.row_map.specs.Keys.{row_code}
use Rattle.row_map.specs.Rows.{Bytes, Cells, Pairs}
use Rattle.row_map.proofs.Cells.{typed_reads, typed_from as value_typed}
use Rattle.row_map.proofs.Entries.{each_entry}
use Rattle.schema_version.specs.declared.element.ElementState.{ElementState}
use Rattle.schema_version.specs.declared.element.ElementState.TheVariants.{Absent, DeleteOnly, WriteOnly, Public}
use Rattle.schema_version.specs.declared.element.ElementDef.{ElementDef}
use Rattle.schema_version.specs.Sound.{IsSoundVersion}
use Rattle.schema_version.specs.Version.{Version, element_at, is_public, type_of_kind}
use Rattle.element_state.specs.lemmas.Apart.{none_some}
use Rattle.element_state.specs.lemmas.Clears.{left_true, right_true}
use Rattle.element_state.specs.Index.{indexed, value_in}
use Rattle.element_state.specs.Operations.{cells_of}
use Rattle.audit.specs.Encoded.{encoded, public_type, cell_by, stored_cell, row_at}
use Rattle.audit.specs.Meaning.{HasExistsPair, HasCell, IsEncoded}

-- ---- one column

pub public_is : (s : ElementState) → is_public s ≡ true → s ≡ Public
public_is Absent e = absurd cc
public_is DeleteOnly e = absurd cc
public_is WriteOnly e = absurd cc
public_is Public e = refl

record IsTyped (table : ℕ) (element : ElementDef) (type : ColumnType) : Type 0 where
  home : element.table ≡ table
  kind : type_of_kind element.kind ≡ Some type
  public : element.state ≡ Public

typed_says : (table : ℕ) (element : ElementDef) (type : ColumnType) → public_type table element ≡ Some type → IsTyped table element type
typed_says table element type e =
    elim ((element.table == table) && is_public element.state) as (λ b. ((element.table == table) && is_public element.state) ≡ b → cond b (type_of_kind element.kind) None ≡ Some type → IsTyped table element type) [
      | true ↦ λ own is. record {
        home = eqb-true element.table table (left_true (element.table == table) (is_public element.state) own);
        kind = is;
        public = public_is element.state (right_true (element.table == table) (is_public element.state) own);
      }
      | false ↦ λ own is. absurd (none_some type is)
    ] refl e

typed_from : (table : ℕ) (element : ElementDef) (type : ColumnType) → element.table ≡ table → type_of_kind element.kind ≡ Some type → element.state ≡ Public → public_type table element ≡ Some type
typed_from table element type home kind public =
    ap (λ (b : Bool). cond (b && is_public element.state) (type_of_kind element.kind) None) (eq-eqb element.table table home)
    ∙ ap (λ (q : ElementState). cond (is_public q) (type_of_kind element.kind) None) public
    ∙ kind

-- ---- the cells

module _ (version : Version) (pairs : Pairs) (table : ℕ) (primary : List Value) where
  -- the value that a pair encodes, by the type that its column has
  abbrev value_by : ℕ → Option ColumnType → Option Value
  value_by number None = None
  value_by number (Some type) = encoded type (map.get pairs (row_code table primary number))

  abbrev type_here : Option ElementDef → Option ColumnType
  type_here None = None
  type_here (Some element) = public_type table element

  abbrev value_of : ℕ → Option Value
  value_of number = value_by number (type_here (element_at version number))

  value_says : (n : ℕ) (v : Value) → value_of n ≡ Some v → HasCell version pairs (table, primary) n v
  value_says n v is = at_element (element_at version n) refl is
    where
      at_bytes : (element : ElementDef) (type : ColumnType) → element_at version n ≡ Some element → IsTyped table element type → (o : Option Bytes) → map.get pairs (row_code table primary n) ≡ o → encoded type o ≡ Some v → HasCell version pairs (table, primary) n v
      at_bytes element type known typed None there e = absurd (none_some v e)
      at_bytes element type known typed (Some bytes) there e =
          let s = typed_reads type bytes v e in
          record { element = element; type = type; known = known; home = typed.home; kind = typed.kind; public = typed.public; bytes = bytes; there = there; reads = s.0; fits = s.1 }

      at_type : (element : ElementDef) → element_at version n ≡ Some element → (o : Option ColumnType) → public_type table element ≡ o → value_by n o ≡ Some v → HasCell version pairs (table, primary) n v
      at_type element known None typed e = absurd (none_some v e)
      at_type element known (Some type) typed e = at_bytes element type known (typed_says table element type typed) (map.get pairs (row_code table primary n)) refl e

      at_element : (o : Option ElementDef) → element_at version n ≡ o → value_by n (type_here o) ≡ Some v → HasCell version pairs (table, primary) n v
      at_element None known e = absurd (none_some v e)
      at_element (Some element) known e = at_type element known (public_type table element) refl e

  value_from : (n : ℕ) (v : Value) → HasCell version pairs (table, primary) n v → value_of n ≡ Some v
  value_from n v has =
      ap (λ (o : Option ElementDef). value_by n (type_here o)) has.known
      ∙ ap (value_by n) (typed_from table has.element has.type has.home has.kind has.public)
      ∙ ap (encoded has.type) has.there
      ∙ value_typed has.type has.bytes v has.reads has.fits

  -- each element under its number
  abbrev IsOwn : ℕ → ElementDef → Type 0
  IsOwn number element = (element_at version number ≡ Some element) × (element.number ≡ number)

  cell_is : (number : ℕ) (o : Option ColumnType) → cell_by pairs table primary number o ≡ option_map (λ (v : Value). (number, v)) (value_by number o)
  cell_is number None = refl
  cell_is number (Some type) = refl

  stored_is : (number : ℕ) (element : ElementDef) → IsOwn number element → stored_cell pairs table primary element ≡ option_map (λ (v : Value). (number, v)) (value_of number)
  stored_is number element own =
      cell_is element.number (public_type table element)
      ∙ ap (λ (n : ℕ). option_map (λ (v : Value). (n, v)) (value_by n (public_type table element))) own.1
      ∙ ap (λ (o : Option ElementDef). option_map (λ (v : Value). (number, v)) (value_by number (type_here o))) (sym own.0)

  abbrev stored : List (ℕ × ElementDef) → List (ℕ × Value)
  stored es = filter_map (stored_cell pairs table primary) (each (λ (e : ℕ × ElementDef). e.1) es)

  abbrev OwnAll : List (ℕ × ElementDef) → Type 0
  OwnAll = AllByRecursion (λ (e : ℕ × ElementDef). IsOwn e.0 e.1)

  head_is : (n : ℕ) (e : ℕ × ElementDef) (es : List (ℕ × ElementDef)) → IsOwn e.0 e.1 → find nat_cmp n (stored (e ∷ es)) ≡ find nat_cmp n (cons_option (option_map (λ (v : Value). (e.0, v)) (value_of e.0)) (stored es))
  head_is n e es own = ap (λ (o : Option (ℕ × Value)). find nat_cmp n (cons_option o (stored es))) (stored_is e.0 e.1 own)

  tied_is : (n m : ℕ) → eq_by_cmp nat_cmp n m ≡ true → n ≡ m
  tied_is n m s = nat_cmp-IsAntisymmetric n m ((Equal-is (nat_cmp n m)).0 s)

  -- a value that is found is the number's
  stored_says : (n : ℕ) (v : Value) (es : List (ℕ × ElementDef)) → OwnAll es → find nat_cmp n (stored es) ≡ Some v → value_of n ≡ Some v
  stored_says n v [] all is = absurd (none_some v is)
  stored_says n v (e ∷ es) all is =
      elim (value_of e.0) as (λ o. value_of e.0 ≡ o → find nat_cmp n (cons_option (option_map (λ (v : Value). (e.0, v)) o) (stored es)) ≡ Some v → value_of n ≡ Some v) [
        | None ↦ λ own f. stored_says n v es all.1 f
        | Some w ↦ λ own f.
            elim (eq_by_cmp nat_cmp n e.0) as (λ b. eq_by_cmp nat_cmp n e.0 ≡ b → cond b (Some w) (find nat_cmp n (stored es)) ≡ Some v → value_of n ≡ Some v) [
              | true ↦ λ s g. ap value_of (tied_is n e.0 s) ∙ own ∙ g
              | false ↦ λ s g. stored_says n v es all.1 g
            ] refl f
      ] refl (sym (head_is n e es all.0) ∙ is)

  -- and the number's is found, where the number is an element's
  stored_from : (n : ℕ) (v : Value) (x : ElementDef) (es : List (ℕ × ElementDef)) → OwnAll es → find nat_cmp n es ≡ Some x → value_of n ≡ Some v → find nat_cmp n (stored es) ≡ Some v
  stored_from n v x [] all there is = absurd (none_some x there)
  stored_from n v x (e ∷ es) all there is =
      head_is n e es all.0
      ∙ elim (eq_by_cmp nat_cmp n e.0) as (λ b. eq_by_cmp nat_cmp n e.0 ≡ b → cond b (Some e.1) (find nat_cmp n es) ≡ Some x → find nat_cmp n (cons_option (option_map (λ (v : Value). (e.0, v)) (value_of e.0)) (stored es)) ≡ Some v) [
        | true ↦ λ s t.
            ap (λ (o : Option Value). find nat_cmp n (cons_option (option_map (λ (v : Value). (e.0, v)) o) (stored es))) (ap value_of (sym (tied_is n e.0 s)) ∙ is)
            ∙ ap (λ (b : Bool). cond b (Some v) (find nat_cmp n (stored es))) s
        | false ↦ λ s t. passed (value_of e.0) s (stored_from n v x es all.1 t is)
      ] refl there
    where
      passed : (o : Option Value) → eq_by_cmp nat_cmp n e.0 ≡ false → find nat_cmp n (stored es) ≡ Some v → find nat_cmp n (cons_option (option_map (λ (v : Value). (e.0, v)) o) (stored es)) ≡ Some v
      passed None s f = f
      passed (Some w) s f = ap (λ (b : Bool). cond b (Some w) (find nat_cmp n (stored es))) s ∙ f

  module _ (sound : IsSoundVersion version) where
    abbrev pub read_cells : Cells
    read_cells = cells_of (row_at version pairs table primary)

    all_own : OwnAll (map.entries version.elements)
    all_own = each_entry nat_cmp nat_cmp_total nat_cmp-IsAntisymmetric IsOwn version.elements (λ m e is. (is, (sound.elements m e is).own))

    got : (n : ℕ) → map.get read_cells n ≡ find nat_cmp n (stored (map.entries version.elements))
    got n = map.get-from_entries nat_cmp_total (row_at version pairs table primary).cells n

    cells_encoded : (n : ℕ) (v : Value) → (map.get read_cells n ≡ Some v) ↔ HasCell version pairs (table, primary) n v
    cells_encoded n v = (
      λ is. value_says n v (stored_says n v (map.entries version.elements) all_own (sym (got n) ∙ is)),
      λ has. got n ∙ stored_from n v has.element (map.entries version.elements) all_own (sym (map.get-entries version.elements n) ∙ has.known) (value_from n v has),
    )

    -- the row that an audit reads is encoded
    pub read_is_encoded : HasExistsPair pairs (table, primary) → IsEncoded version pairs (table, primary) read_cells
    read_is_encoded exists = record { exists = exists; values = cells_encoded }

    -- and a row that is encoded has its values
    pub same_value : (n : ℕ) (cells : Cells) → IsEncoded version pairs (table, primary) cells → (o p : Option Value) → map.get cells n ≡ o → map.get read_cells n ≡ p → p ≡ o
    same_value n cells is None None e f = refl
    same_value n cells is None (Some v) e f = absurd (none_some v (sym e ∙ (is.values n v).1 ((cells_encoded n v).0 f)))
    same_value n cells is (Some v) p e f = sym f ∙ (cells_encoded n v).1 ((is.values n v).0 e)

    pub same_indexed : (columns : List (ℕ × Value)) (cells : Cells) → IsEncoded version pairs (table, primary) cells → indexed columns read_cells ≡ indexed columns cells
    same_indexed [] cells is = refl
    same_indexed (c ∷ columns) cells is =
        ap (λ (o : Option Value). unwrap_or o c.1 ∷ indexed columns read_cells) (same_value c.0 cells is (map.get cells c.0) (map.get read_cells c.0) refl refl)
        ∙ ap (λ (vs : List Value). value_in cells c ∷ vs) (same_indexed columns cells is)
