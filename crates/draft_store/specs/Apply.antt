-- Cited by the contracts of MemoryStore::apply, and by the definitions of OneMap.
-- What a draft compares of the pairs of a store, and what it then writes.
use Rattle.std.specs.Prelude.{◌≡◌, ◌≢◌, List, [], ◌∷◌, Option, Result, Ok, Err, IsTrue, ◌⊎◌}
use Rattle.std.specs.Ordering.{is_le}
use Rattle.std.specs.FinMap as map
use Rattle.keycode.specs.Order.{bytes_cmp}
use Rattle.row_map.specs.Ranges.{is_within}
use Rattle.row_map.specs.Rows.{Bytes, Pairs}
use Rattle.row_map.specs.Writes.{written_all}
use Rattle.entry_code.specs.declared.fault.CodeFault.{CodeFault}
use Rattle.entry_code.specs.declared.fault.CodeFault.TheVariants as code
use Rattle.entry_code.specs.declared.parts.RangeParts.{RangeParts}
use Rattle.entry_code.specs.declared.parts.DraftParts.{DraftParts}
use Rattle.entry_code.specs.Read.{IsRead}
use Rattle.entry_code.specs.Records.{draft_parts_code, IsDraft}
use Rattle.draft_store.specs.declared.fault.ApplyFault.{ApplyFault}
use Rattle.draft_store.specs.declared.fault.ApplyFault.TheVariants.{BadDraft, Refused, Memory}

-- ---- what is compared

-- the map after more pairs, a later one over an earlier one of its key
abbrev pub gathered : Pairs → List (Bytes × Bytes) → Pairs
gathered pairs [] = pairs
gathered pairs (pair ∷ more) = gathered (map.insert pairs pair.0 pair.1) more

abbrev pub map_of : List (Bytes × Bytes) → Pairs
map_of = gathered map.empty

-- the key's pair is another than the point's
abbrev pub MissesPoint : Pairs → Bytes → Bytes × Option Bytes → Type 0
MissesPoint pairs key point = (key ≡ point.0) × (map.get pairs key ≢ point.1)

-- the key is in the range, and its pair is another than the range's
abbrev pub MissesRange : Pairs → Bytes → RangeParts → Type 0
MissesRange pairs key part = IsTrue (is_within part.low part.high key) × (map.get pairs key ≢ map.get (map_of part.pairs) key)

-- one of them does
abbrev pub AnyIn : {X : Type 0} → (X → Type 0) → List X → Type 0
AnyIn P [] = ⊥
AnyIn P (x ∷ xs) = P x ⊎ AnyIn P xs

-- the key's pair is another than one that the draft compares
abbrev pub Misses : DraftParts → Pairs → Bytes → Type 0
Misses parts pairs key = AnyIn (MissesPoint pairs key) parts.compare ⊎ AnyIn (MissesRange pairs key) parts.ranges

-- all that the draft compares is so
abbrev pub Allows : DraftParts → Pairs → Type 0
Allows parts pairs = (key : Bytes) → ¬ (Misses parts pairs key)

-- the least key with this
abbrev pub IsLeast : (Bytes → Type 0) → Bytes → Type 0
IsLeast P key = P key × ((other : Bytes) → P other → IsTrue (is_le (bytes_cmp key other)))

-- ---- what is written

-- the pairs after a draft's writes, one after the other
abbrev pub after : DraftParts → Pairs → Pairs
after parts pairs = written_all pairs parts.write

-- ---- what the store answers

abbrev pub to_fault : CodeFault → ApplyFault
to_fault code.Version = BadDraft code.Version
to_fault code.Trailing = BadDraft code.Trailing
to_fault code.Malformed = BadDraft code.Malformed
to_fault code.Memory = Memory

-- the answer to a draft of these parts, and the pairs that it leaves
abbrev pub Does : DraftParts → Pairs → Result (Unit {0}) ApplyFault → Pairs → Type 0
Does parts old (Ok done) new = Allows parts old × (new ≡ after parts old)
Does parts old (Err (BadDraft why)) new = ⊥
Does parts old (Err (Refused key)) new = IsLeast (Misses parts old) key × (new ≡ old)
Does parts old (Err Memory) new = new ≡ old

-- the bytes are the code of no draft, for this reason
abbrev pub IsBad : Bytes → CodeFault → Type 0
IsBad bytes code.Version = IsRead IsDraft draft_parts_code bytes (Err code.Version)
IsBad bytes code.Trailing = IsRead IsDraft draft_parts_code bytes (Err code.Trailing)
IsBad bytes code.Malformed = IsRead IsDraft draft_parts_code bytes (Err code.Malformed)
IsBad bytes code.Memory = ⊥

-- the bytes are the code of these parts
pub record IsCodeOf (bytes : Bytes) (parts : DraftParts) : Type 0 where
  pub spelled : bytes ≡ draft_parts_code parts
  pub known : IsDraft parts

-- the bytes are the code of a draft, and it is answered so
pub record DoesCode (bytes : Bytes) (old : Pairs) (answer : Result (Unit {0}) ApplyFault) (new : Pairs) : Type 0 where
  pub parts : DraftParts
  pub code_is : IsCodeOf bytes parts
  pub does : Does parts old answer new

abbrev pub Applies : Bytes → Pairs → Result (Unit {0}) ApplyFault → Pairs → Type 0
Applies bytes old (Ok done) new = DoesCode bytes old (Ok done) new
Applies bytes old (Err (BadDraft why)) new = IsBad bytes why × (new ≡ old)
Applies bytes old (Err (Refused key)) new = DoesCode bytes old (Err (Refused key)) new
Applies bytes old (Err Memory) new = new ≡ old
