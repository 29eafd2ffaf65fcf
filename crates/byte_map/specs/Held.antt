-- Cited by the contracts of Bytes.
-- The bytes of a shared string, wherever they lie.
use Rattle.std.specs.Prelude.{ℕ, List, take}
use Rattle.std.specs.Arc.{arc_slice_items}
use Rattle.byte_map.specs.declared.bytes.Held.{Held}
use Rattle.byte_map.specs.declared.bytes.Held.TheVariants.{Near, Far}

-- the bytes of a string
abbrev pub bytes_of : Held → List ℕ
bytes_of (Near room len) = take len room
bytes_of (Far shared) = arc_slice_items shared
