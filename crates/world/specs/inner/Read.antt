-- Cited by private functions alone: read_all.
-- The pairs of keys, read one after the other.
use Rattle.std.specs.Prelude.{List, [], ◌∷◌}
use Rattle.std.specs.FinMap as map
use Rattle.row_map.specs.Rows.{Bytes, Pairs}
use Rattle.row_map.specs.Expect.{View}

-- the view with these keys more, each with its value in the store or with none
abbrev pub noted_reads : Pairs → View → List (Bytes × Unit {0}) → View
noted_reads pairs view [] = view
noted_reads pairs view (k ∷ ks) = noted_reads pairs (map.insert view k.0 (map.get pairs k.0)) ks
