-- Cited by the contracts of Loading.
-- What the fields of a Loading stand for, and what is true of them.
use Rattle.std.specs.Prelude.{◌≡◌}
use Rattle.std.specs.FinMap as map
use Rattle.saved_world.specs.Follows.{last_key}
use Rattle.saved_world.specs.Loading.{Loaded}
use Rattle.saved_world.specs.declared.loading.Loading.TheInside.{Inside}

abbrev pub loaded_of : Inside → Loaded
loaded_of fields = record { head = fields.head; pairs = map.entries fields.store }

-- the last key is that of the pairs
abbrev pub IsAtLast : Inside → Type 0
IsAtLast fields = fields.last ≡ last_key (map.entries fields.store)
