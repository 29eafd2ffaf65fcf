-- A pair is judged by what was read as by the store, if the row that it names was read, and the keys of the pairs that are given.
use Rattle.std.proofs.Common.{◌≡◌, ℕ, ◌+◌, ◌<◌, ◌^◌, ◌==◌, ◌&&◌, Bool, true, false, not, cond, List, [], ◌∷◌, length, drop, Option, Some, None, option_map, is_some, refl, sym, ap, ap₂, ◌∙◌, arith, eqb-true}
use Rattle.std.specs.Prelude.{count_by, sum_by}
use Rattle.std.specs.Cmp.{nat_cmp_total}
use Rattle.std.specs.FinMap as map
use Rattle.std.specs.FinMap.{nat_cmp-IsAntisymmetric}
use Rattle.std.specs.List.{AllByRecursion, filter_map}
use Rattle.std.specs.Ordering.{nat_cmp}
use Rattle.keycode.specs.declared.value.Value.{Value}
use Rattle.row_map.specs.declared.key.KeyOf.{KeyOf}
use Rattle.row_map.specs.declared.key.KeyOf.TheVariants.{Exists, Column, Index}
use Rattle.row_map.specs.declared.shape.ColumnType.{ColumnType}
use Rattle.row_map.specs.declared.shape.Row.{Row}
use Rattle.row_map.specs.Keys.{row_code}
use Rattle.row_map.specs.Rows.{Bytes, Pairs, RowKey}
use Rattle.row_map.proofs.Entries.{each_entry}
use Rattle.schema_version.specs.declared.element.ElementDef.{ElementDef}
use Rattle.schema_version.specs.Sound.{IsSoundVersion}
use Rattle.schema_version.specs.Version.{Version, live, is_public, is_column, indexed_columns}
use Rattle.row_query.proofs.Sorted.{same_given}
use Rattle.audit.specs.declared.report.CheckReport.{CheckReport}
use Rattle.audit.specs.Audit.{Pair, given, differs, is_absent, lacks, missing_by, missing_beside, numbered, is_column_of_row, is_same_pair, is_given, is_index_pair, reason_by, has_reason}
use Rattle.audit.specs.Encoded.{key_read, is_exists, is_row, encoded, public_type, cell_by, stored_cell, row_at}
use Rattle.audit.proofs.Sums.{sum_alike}
use Rattle.audit.proofs.Zero.{all_values}
use Rattle.page_check.specs.Page.{IsPageAudit}
use Rattle.page_check.specs.Needs.{row_behind, row_named, IsRowRead, IsGivenRead, AreGivenRead}

pub all_turn : {X : Type 0} (P Q : X → Type 0) → ((x : X) → P x → Q x) → (xs : List X) → AllByRecursion P xs → AllByRecursion Q xs
all_turn P Q turns [] all = tt
all_turn P Q turns (x ∷ xs) all = (turns x all.0, all_turn P Q turns xs all.1)

both_turn : {X : Type 0} (P Q R : X → Type 0) → ((x : X) → P x → Q x → R x) → (xs : List X) → AllByRecursion P xs → AllByRecursion Q xs → AllByRecursion R xs
both_turn P Q R turns [] p q = tt
both_turn P Q R turns (x ∷ xs) p q = (turns x p.0 q.0, both_turn P Q R turns xs p.1 q.1)

-- the number of an element is below 2 ^ 24
abbrev IsFew : ElementDef → Type 0
IsFew element = element.number < 2 ^ 24

few_elements : (version : Version) → IsSoundVersion version → AllByRecursion IsFew (live version)
few_elements version sound =
    all_values IsFew (map.entries version.elements)
    (each_entry nat_cmp nat_cmp_total nat_cmp-IsAntisymmetric (λ n element. IsFew element) version.elements (λ n element there.
    let e = sound.elements n element there in
    omega (arith, e.own, e.given, sound.few_elements)))

module _ (version : Version) (sound : IsSoundVersion version) (store read : Pairs) where
  -- ---- one row

  cell_same : (table : ℕ) (primary : List Value) (number : ℕ) → map.get read (row_code table primary number) ≡ map.get store (row_code table primary number) → (o : Option ColumnType) → cell_by read table primary number o ≡ cell_by store table primary number o
  cell_same table primary number same None = refl
  cell_same table primary number same (Some type) = ap (λ (bytes : Option Bytes). option_map (λ value. (number, value)) (encoded type bytes)) same

  abbrev row_of_cells : List Value → List (ℕ × Value) → Row
  row_of_cells primary cells = record { key = primary; cells = cells }

  pub row_same : (table : ℕ) (primary : List Value) → IsRowRead store read (Some (table, primary)) → row_at version read table primary ≡ row_at version store table primary
  row_same table primary row =
      ap (row_of_cells primary)
      (same_given IsFew (stored_cell read table primary) (stored_cell store table primary)
      (λ element few. cell_same table primary element.number (row element.number few) (public_type table element)) (live version) (few_elements version sound))

  there_same : (table : ℕ) (primary : List Value) → IsRowRead store read (Some (table, primary)) → is_row read table primary ≡ is_row store table primary
  there_same table primary row = ap (λ (o : Option Bytes). is_exists (key_read (row_code table primary 0)) && is_some o) (row 0 (omega arith))

  -- ---- the reason of a pair

  column_same : (table : ℕ) (primary : List Value) → IsRowRead store read (Some (table, primary)) → (o : Option ElementDef) → is_column_of_row read table primary o ≡ is_column_of_row store table primary o
  column_same table primary row None = refl
  column_same table primary row (Some element) = ap (λ (b : Bool). ((element.table == table) && is_column element.kind) && b) (there_same table primary row)

  index_same : (values : List Value) (pair : Pair) (o : Option ElementDef) → IsRowRead store read (row_behind values o) → is_index_pair version read values pair o ≡ is_index_pair version store values pair o
  index_same values pair None row = refl
  index_same values pair (Some element) row =
      let primary : List Value = drop (length (indexed_columns element.kind)) values in
      ap₂ (λ (b : Bool) (r : Row). b && is_same_pair (given version element r) pair) (there_same element.table primary row) (row_same element.table primary row)

  reason_same_by : (pair : Pair) (o : Option KeyOf) → IsRowRead store read (row_named version o) → reason_by version read pair o ≡ reason_by version store pair o
  reason_same_by pair None row = refl
  reason_same_by pair (Some (Exists table primary)) row = refl
  reason_same_by pair (Some (Column table primary number)) row = column_same table primary row (numbered version number)
  reason_same_by pair (Some (Index number values)) row = index_same values pair (numbered version number) row

  reason_same : (pair : Pair) → IsRowRead store read (row_named version (key_read pair.0)) → has_reason version read pair ≡ has_reason version store pair
  reason_same pair row = reason_same_by pair (key_read pair.0) row

  -- ---- what a row lacks

  absent_same : (o : Option Pair) → ((pair : Pair) → o ≡ Some pair → map.get read pair.0 ≡ map.get store pair.0) → is_absent read o ≡ is_absent store o
  absent_same None same = refl
  absent_same (Some pair) same = ap (λ (found : Option Bytes). differs found pair.1) (same pair refl)

  lacks_same : (table : ℕ) (row : Row) (element : ElementDef) → IsGivenRead version store read table row element → lacks version read table row element ≡ lacks version store table row element
  lacks_same table row element is =
      elim (element.table == table) as (λ b. (element.table == table) ≡ b → ((b && is_public element.state) && is_absent read (given version element row)) ≡ ((b && is_public element.state) && is_absent store (given version element row))) [
        | true ↦ λ own. ap (λ (b : Bool). is_public element.state && b) (absent_same (given version element row) (λ pair e. is pair (eqb-true element.table table own) e))
        | false ↦ λ own. refl
      ] refl

  missing_same_by : (o : Option KeyOf) → IsRowRead store read (row_named version o) → AreGivenRead version store read o → missing_by version read o ≡ missing_by version store o
  missing_same_by None row all = refl
  missing_same_by (Some (Exists table primary)) row all =
      let own : Row = row_at version store table primary in
      ap (λ (r : Row). count_by (lacks version read table r) (live version)) (row_same table primary row)
      ∙ sum_alike (λ element. cond (lacks version read table own element) 1 0) (λ element. cond (lacks version store table own element) 1 0) (live version)
      (all_turn (IsGivenRead version store read table own) (λ element. cond (lacks version read table own element) 1 0 ≡ cond (lacks version store table own element) 1 0)
      (λ element is. ap (λ (b : Bool). cond b 1 0) (lacks_same table own element is)) (live version) all)
  missing_same_by (Some (Column table primary number)) row all = refl
  missing_same_by (Some (Index number values)) row all = refl

  -- ---- a page

  pub page_same : (page : List Pair) (report : CheckReport) → AllByRecursion (λ (pair : Pair). IsRowRead store read (row_named version (key_read pair.0))) page
      → AllByRecursion (λ (pair : Pair). AreGivenRead version store read (key_read pair.0)) page → IsPageAudit version read page report → IsPageAudit version store page report
  page_same page report rows given is = record {
    rows = is.rows;
    missing =
        is.missing
        ∙ sum_alike (missing_beside version read) (missing_beside version store) page
        (both_turn (λ (pair : Pair). IsRowRead store read (row_named version (key_read pair.0))) (λ (pair : Pair). AreGivenRead version store read (key_read pair.0)) (λ (pair : Pair). missing_beside version read pair ≡ missing_beside version store pair)
        (λ pair row all. missing_same_by (key_read pair.0) row all) page rows given);
    extra =
        is.extra
        ∙ sum_alike (λ pair. cond (not (has_reason version read pair)) 1 0) (λ pair. cond (not (has_reason version store pair)) 1 0) page
        (all_turn (λ (pair : Pair). IsRowRead store read (row_named version (key_read pair.0))) (λ (pair : Pair). cond (not (has_reason version read pair)) 1 0 ≡ cond (not (has_reason version store pair)) 1 0)
        (λ pair row. ap (λ (b : Bool). cond (not b) 1 0) (reason_same pair row)) page rows);
  }
