-- Cited by a private function alone: may_be_of_row.
-- The keys of the pairs that are a row's own.
use Rattle.std.specs.Prelude.{Option, Some, None}
use Rattle.row_map.specs.declared.key.KeyOf.{KeyOf}
use Rattle.row_map.specs.declared.key.KeyOf.TheVariants.{Exists, Column, Index}

-- it is no key of a row's `exists` pair, nor of one of its columns
abbrev pub IsOfNoRow : Option KeyOf → Type 0
IsOfNoRow None = Unit {0}
IsOfNoRow (Some (Exists table primary)) = ⊥
IsOfNoRow (Some (Column table primary number)) = ⊥
IsOfNoRow (Some (Index number values)) = Unit {0}
