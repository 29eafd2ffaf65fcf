-- Cited by the contracts of audit.
-- What an audit of a store counts, by a version and the pairs alone. Each pair is judged by itself.
use Rattle.std.specs.Prelude.{◌≡◌, ℕ, ◌==◌, Bool, true, false, ◌&&◌, not, List, length, drop, Option, Some, None, count_by, sum_by, bytes_eq}
use Rattle.std.specs.List.{find}
use Rattle.std.specs.FinMap as map
use Rattle.keycode.specs.declared.value.Value.{Value}
use Rattle.row_map.specs.declared.key.KeyOf.{KeyOf}
use Rattle.row_map.specs.declared.key.KeyOf.TheVariants.{Exists, Column, Index}
use Rattle.row_map.specs.declared.shape.Row.{Row}
use Rattle.row_map.specs.Rows.{Bytes, Pairs}
use Rattle.schema_version.specs.declared.element.ElementDef.{ElementDef}
use Rattle.schema_version.specs.Version.{Version, live, is_public, is_column, indexed_columns}
use Rattle.element_state.specs.Kinds.{kind_meaning}
use Rattle.element_state.specs.Operations.{cells_of, fill_pair}
use Rattle.element_state.specs.Sources.{source_in}
use Rattle.audit.specs.declared.report.CheckReport.{CheckReport}
use Rattle.audit.specs.Encoded.{key_read, is_exists, is_row, row_at}

abbrev pub Pair : Type 0
Pair = Bytes × Bytes

-- the pair that an index gives a row of its table, or a required column: that of the row's own value or of the default. An optional column gives none
abbrev pub given : Version → ElementDef → Row → Option Pair
given version element row = fill_pair (kind_meaning element.number (source_in version element.kind)) (element.table, row.key) (cells_of row)

abbrev pub differs : Option Bytes → Bytes → Bool
differs None value = true
differs (Some found) value = not (bytes_eq found value)

-- whether a pair is wanted that the store hasn't got with just this value
abbrev pub is_absent : Pairs → Option Pair → Bool
is_absent pairs None = false
is_absent pairs (Some pair) = differs (map.get pairs pair.0) pair.1

-- whether the element is a public index or required column of the table, and the store lacks the pair that it gives the row
abbrev pub lacks : Version → Pairs → ℕ → Row → ElementDef → Bool
lacks version pairs table row element = ((element.table == table) && is_public element.state) && is_absent pairs (given version element row)

abbrev pub missing_by : Version → Pairs → Option KeyOf → ℕ
missing_by version pairs (Some (Exists table primary)) = count_by (lacks version pairs table (row_at version pairs table primary)) (live version)
missing_by version pairs _ = 0

-- how many pairs the public indexes and required columns lack for the row of an `exists` pair
abbrev pub missing_beside : Version → Pairs → Pair → ℕ
missing_beside version pairs pair = missing_by version pairs (key_read pair.0)

-- the live element of this number
abbrev pub numbered : Version → ℕ → Option ElementDef
numbered version number = find (λ element. element.number == number) (live version)

-- whether the element is a column of the table, and the row's `exists` pair is there
abbrev pub is_column_of_row : Pairs → ℕ → List Value → Option ElementDef → Bool
is_column_of_row pairs table primary None = false
is_column_of_row pairs table primary (Some element) = ((element.table == table) && is_column element.kind) && is_row pairs table primary

abbrev pub is_same_pair : Option Pair → Pair → Bool
is_same_pair None pair = false
is_same_pair (Some own) pair = bytes_eq own.0 pair.0 && bytes_eq own.1 pair.1

-- whether a row of its table gives the index this pair: the row whose primary key stands after the
-- indexed values
abbrev pub is_given : Version → Pairs → List Value → Pair → ElementDef → Bool
is_given version pairs values pair element =
    let primary : List Value = drop (length (indexed_columns element.kind)) values in
    is_row pairs element.table primary && is_same_pair (given version element (row_at version pairs element.table primary)) pair

abbrev pub is_index_pair : Version → Pairs → List Value → Pair → Option ElementDef → Bool
is_index_pair version pairs values pair None = false
is_index_pair version pairs values pair (Some element) = is_given version pairs values pair element

abbrev pub reason_by : Version → Pairs → Pair → Option KeyOf → Bool
reason_by version pairs pair None = false
reason_by version pairs pair (Some (Exists table primary)) = true
reason_by version pairs pair (Some (Column table primary number)) = is_column_of_row pairs table primary (numbered version number)
reason_by version pairs pair (Some (Index number values)) = is_index_pair version pairs values pair (numbered version number)

-- whether a pair is an `exists` pair, or the pair of a live column of its table beside its row's `exists` pair, or the pair that a row gives a live index
abbrev pub has_reason : Version → Pairs → Pair → Bool
has_reason version pairs pair = reason_by version pairs pair (key_read pair.0)

abbrev pub is_exists_pair : Pair → Bool
is_exists_pair pair = is_exists (key_read pair.0)

-- the rows are the `exists` pairs; missing are the pairs that public indexes and required columns lack for them; extra are the pairs without a reason
pub record IsAudit (version : Version) (pairs : Pairs) (report : CheckReport) : Type 0 where
  pub rows : report.rows ≡ count_by is_exists_pair (map.entries pairs)
  pub missing : report.missing ≡ sum_by (missing_beside version pairs) (map.entries pairs)
  pub extra : report.extra ≡ count_by (λ pair. not (has_reason version pairs pair)) (map.entries pairs)
