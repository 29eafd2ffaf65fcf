-- Cited by private functions alone: writes_of, put_all.
-- The writes that put pairs into a store.
use Rattle.std.specs.Prelude.{List, Option, Some}
use mathlib.Core.List.{map as each}
use Rattle.row_map.specs.Rows.{Bytes}
use Rattle.row_map.specs.Writes.{Writes}

abbrev pub put : Bytes × Bytes → Bytes × Option Bytes
put pair = (pair.0, Some pair.1)

abbrev pub puts : List (Bytes × Bytes) → Writes
puts pairs = each put pairs
