-- A piece of a fill puts the pair of each row between its cursors.
use Rattle.std.proofs.Common.{◌≡◌, ◌+◌, ◌<◌, ◌^◌, List, [], ◌∷◌, ◌++◌, Option, Some, None, unwrap_or, refl, sym, ap, ◌∙◌}
use Rattle.std.specs.List.{flat_map}
use mathlib.Core.List.{map as each}
use Rattle.byte_map.proofs.Order.{bytes_cmp_total, bytes_cmp-IsAntisymmetric}
use Rattle.byte_map.proofs.Written.{laid-noted}
use Rattle.keycode.specs.declared.value.Value.{Value}
use Rattle.keycode.specs.Code.{code}
use Rattle.row_map.specs.declared.shape.ColumnType.{ColumnType}
use Rattle.row_map.specs.Keys.{index_code}
use Rattle.row_map.specs.Rows.{Bytes, RowKey, Cells, Rows, Pairs, AreStorable}
use Rattle.row_map.specs.Writes.{Writes, written_all}
use Rattle.row_map.specs.Ranges.{IsRowBound}
use Rattle.schema_version.specs.declared.element.Kind.{Kind}
use Rattle.schema_version.specs.declared.element.Kind.TheVariants.{Index, Optional, Required}
use Rattle.schema_version.specs.declared.element.ElementDef.{ElementDef}
use Rattle.element_state.specs.Elements.{Meaning, AreFormed, Exact}
use Rattle.element_state.specs.Exists.{exists_meaning}
use Rattle.element_state.specs.Operations.{cells_of, fill_pair}
use Rattle.element_state.specs.Tables.{within, fill_pair-within}
use Rattle.element_state.specs.Kinds.{kind_meaning}
use Rattle.element_state.specs.Index.{index_meaning}
use Rattle.element_state.specs.Column.{column_pair}
use Rattle.element_state.specs.Required.{required_meaning, required_value}
use Rattle.element_state.specs.Sources.{source_in, source_alone, default_value_at}
use Rattle.schema_version.specs.Version.{Version}
use Rattle.element_state.specs.Items.{put_pair, fill_puts, row_items}
use Rattle.schema_version.specs.declared.element.Work.TheVariants.{Fill}
use Rattle.reorganise.specs.Pieces.{part}
use Rattle.reorganise.specs.Batches.{cells_for, row_put, piece_writes}
use Rattle.reorganise.specs.Laws.{HasDefaults, HasColumnsOf, meaning_in, FillLays}
use Rattle.reorganise.proofs.SameKeys.{AllGive}
use Rattle.reorganise.proofs.Expectations.{part_is}
use Rattle.reorganise.proofs.Rowwise.{RowThere, rows_same}
use Rattle.reorganise.proofs.Encoding.{indexed_same, default_same}

puts_each : (m : Meaning) (items : List (RowKey × Cells)) → fill_puts m items ≡ flat_map (λ (i : RowKey × Cells). put_pair (fill_pair m i.0 i.1)) items
puts_each m [] = refl
puts_each m (i ∷ items) = ap (λ (ws : Writes). put_pair (fill_pair m i.0 i.1) ++ ws) (puts_each m items)

-- what every pair that a fill puts has: nothing for an index, the default for a required column
abbrev given : Kind → Option Bytes
given (Index columns) = Some []
given (Optional type) = None
given (Required type fallback) = Some (code fallback)

module _ (version : Version) (P : Pairs) (R : Rows) (low high : Bytes) (element : ElementDef) (held : AreStorable R) (formed : AreFormed P) (exact : Exact exists_meaning P R) (fits : element.table + 1 < 2 ^ 32) (bound : IsRowBound element.table high) where
  abbrev There : List Value → Type 0
  There key = RowThere P R low high element.table held formed exact key

  -- what is read of a row of the table, as a kind asks for it
  abbrev read_cells : List Value → Kind → Cells
  read_cells key kind = cells_of (record { key = key; cells = cells_for (part P low high) element key kind })

  -- the default is what is put for a row, and the row's value
  default_read : (type : ColumnType) (fallback : Value) → HasDefaults element fallback P R → (key : List Value) (r : There key) → required_value element.number fallback (read_cells key (Required type fallback)) ≡ fallback
  default_read type fallback d key r =
      default_same P R element.table held key r.cells r.there low high fits bound r.inside element.number fallback type d.lawful d.storable (d.bare (element.table, key) r.cells r.there) d.subset

  put_gives : (kind : Kind) → HasColumnsOf version element P R kind → (key : List Value) → There key
      → AllGive (given kind) (put_pair (fill_pair (kind_meaning element.number (source_alone kind)) (element.table, key) (read_cells key kind)))
  put_gives (Index columns) facts key r = (refl, tt)
  put_gives (Optional type) facts key r = tt
  put_gives (Required type fallback) facts key r = (ap (λ v. Some (code v)) (default_read type fallback facts key r), tt)

  -- the pair of a row as it was read is the row's pair
  put_same : (kind : Kind) → HasColumnsOf version element P R kind → (key : List Value) (r : There key)
      → put_pair (fill_pair (kind_meaning element.number (source_alone kind)) (element.table, key) (read_cells key kind)) ≡ put_pair (fill_pair (within element.table (kind_meaning element.number (source_in version kind))) (element.table, key) r.cells)
  put_same (Optional type) facts key r = refl
  put_same (Index columns) facts key r =
      ap (λ vs. put_pair (Some (index_code element.number (vs ++ key), []))) (indexed_same P R element.table held key r.cells r.there low high fits bound r.inside version columns facts)
      ∙ ap put_pair (sym (fill_pair-within element.table (index_meaning element.number (each (λ c. (c, default_value_at version c)) columns)) (element.table, key) r.cells refl))
  put_same (Required type fallback) facts key r =
      ap (λ v. put_pair (Some (column_pair element.number (element.table, key), code v))) (default_read type fallback facts key r ∙ sym (ap (λ o. unwrap_or o fallback) (facts.bare (element.table, key) r.cells r.there)))
      ∙ ap put_pair (sym (fill_pair-within element.table (required_meaning element.number fallback) (element.table, key) r.cells refl))

pub fill_lays : FillLays
fill_lays version read P R r kind holds held formed exact facts fits bound =
    let element = read.element in
    let low = read.key_range.low in
    let high = read.key_range.high in
    let m = meaning_in version element in
    laid-noted bytes_cmp_total bytes_cmp-IsAntisymmetric (piece_writes read.key_range.pairs element read.kind) P
    ∙ ap (λ w. written_all P (piece_writes read.key_range.pairs element w)) kind
    ∙ ap (λ (pairs : Pairs). written_all P (piece_writes pairs element Fill)) (sym (part_is read P r holds))
    ∙ rows_same P R low high element.table held formed exact (row_put (part P low high) element) (λ (i : RowKey × Cells). put_pair (fill_pair m i.0 i.1)) (given element.kind) refl
    (put_gives version P R low high element held formed exact fits bound element.kind facts)
    (put_same version P R low high element held formed exact fits bound element.kind facts)
    ∙ ap (written_all P) (sym (puts_each m (row_items m.serves R low high)))
