-- Cited by the contracts of check_element.
-- What one live element of a version lacks in a store and has too much, whatever its state.
use Rattle.std.specs.Prelude.{◌≡◌, ℕ, ◌==◌, Bool, false, ◌&&◌, not, List, length, take, filter_map, is_some, Option, Some, None, if◌then◌else◌}
use Rattle.std.specs.FinMap as map
use Rattle.keycode.specs.declared.value.Value.{Value}
use Rattle.row_map.specs.declared.key.KeyOf.{KeyOf}
use Rattle.row_map.specs.declared.key.KeyOf.TheVariants.{Exists, Column, Index as IndexKey}
use Rattle.row_map.specs.declared.shape.ColumnType.{ColumnType}
use Rattle.row_map.specs.Keys.{row_code}
use Rattle.row_map.specs.Rows.{Pairs}
use Rattle.schema_version.specs.declared.element.ElementDef.{ElementDef}
use Rattle.schema_version.specs.declared.element.Kind.{Kind}
use Rattle.schema_version.specs.declared.element.Kind.TheVariants.{Index, Optional, Required}
use Rattle.schema_version.specs.Version.{Version}
use Rattle.audit.specs.Audit.{Pair, given, is_absent, has_reason}
use Rattle.audit.specs.Encoded.{encoded, key_read, row_at}
use Rattle.element_check.specs.declared.report.ElementReport.{ElementReport}

-- whether the store has a value of the type for a row's column
abbrev pub has_value : Pairs → ElementDef → List Value → ColumnType → Bool
has_value pairs element primary type = is_some (encoded type (map.get pairs (row_code element.table primary element.number)))

-- whether a row of the element's table lacks its pair: the one that the row gives an index, or the value of a required column; it gives an optional column none
abbrev pub row_lacks : Version → Pairs → ElementDef → List Value → Kind → Bool
row_lacks version pairs element primary (Index columns) = is_absent pairs (given version element (row_at version pairs element.table primary))
row_lacks version pairs element primary (Required type fallback) = not (has_value pairs element primary type)
row_lacks version pairs element primary (Optional type) = false

-- the primary key of the row that a key is the `exists` key of, if the row is of the element's table and lacks its pair
abbrev pub missing_row : Version → Pairs → ElementDef → Option KeyOf → Option (List Value)
missing_row version pairs element (Some (Exists table primary)) = if (table == element.table) && row_lacks version pairs element primary element.kind then Some primary else None
missing_row version pairs element _ = None

-- the rows that lack their pair of the element, by primary key, in the order of their `exists` pairs
abbrev pub missing_rows : Version → Pairs → ElementDef → List (List Value)
missing_rows version pairs element = filter_map (λ (pair : Pair). missing_row version pairs element (key_read pair.0)) (map.entries pairs)

-- the key, if it is the element's
abbrev pub own_key : ElementDef → Option KeyOf → Option KeyOf
own_key element (Some (Column table primary number)) = if number == element.number then Some (Column table primary number) else None
own_key element (Some (IndexKey number values)) = if number == element.number then Some (IndexKey number values) else None
own_key element _ = None

-- the key of a pair of the element that has no reason, in the audit's sense: no row gives it
abbrev pub extra_key : Version → Pairs → ElementDef → Pair → Option KeyOf
extra_key version pairs element pair = if has_reason version pairs pair then None else own_key element (key_read pair.0)

-- the keys of the element's pairs that no row gives it, in their order
abbrev pub extra_keys : Version → Pairs → ElementDef → List KeyOf
extra_keys version pairs element = filter_map (extra_key version pairs element) (map.entries pairs)

-- how many there are of both, and the first `most` of each
pub record IsElementCheck (version : Version) (pairs : Pairs) (element : ElementDef) (most : ℕ) (report : ElementReport) : Type 0 where
  pub missing : report.missing ≡ length (missing_rows version pairs element)
  pub extra : report.extra ≡ length (extra_keys version pairs element)
  pub first_rows : report.missing_rows ≡ take most (missing_rows version pairs element)
  pub first_keys : report.extra_keys ≡ take most (extra_keys version pairs element)
