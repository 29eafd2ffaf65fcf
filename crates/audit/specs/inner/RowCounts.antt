-- Cited by private functions alone: is_present, weigh, count_wanted, count_at and 7 more.
-- What the pairs of a store count for in turn: the pairs with a reason are counted from the rows that give them.
use Rattle.std.specs.Prelude.{ℕ, ◌+◌, ◌<◌, ◌^◌, ◌==◌, Bool, true, false, ◌&&◌, not, cond, List, [], ◌∷◌, Option, Some, None, count_by, bytes_eq}
use Rattle.std.specs.FinMap as map
use Rattle.std.specs.List.{AllByRecursion}
use Rattle.row_map.specs.declared.key.KeyOf.{KeyOf}
use Rattle.row_map.specs.declared.key.KeyOf.TheVariants.{Exists, Column, Index}
use Rattle.row_map.specs.declared.shape.Row.{Row}
use Rattle.row_map.specs.Rows.{Bytes, Pairs}
use Rattle.schema_version.specs.declared.element.ElementDef.{ElementDef}
use Rattle.schema_version.specs.Version.{Version, live, is_index}
use Rattle.audit.specs.declared.counts.Counts.{Counts}
use Rattle.audit.specs.Audit.{Pair, given, numbered, is_column_of_row, is_exists_pair, missing_beside}
use Rattle.audit.specs.Encoded.{key_read, row_at}

abbrev pub holds : Option Bytes → Bytes → Bool
holds None value = false
holds (Some found) value = bytes_eq found value

-- whether there is a pair, and the store has it with just this value
abbrev pub is_present : Pairs → Option Pair → Bool
is_present pairs None = false
is_present pairs (Some pair) = holds (map.get pairs pair.0) pair.1

-- whether the element is an index of the table, and the store has the pair that it gives the row
abbrev pub gives : Version → Pairs → ℕ → Row → ElementDef → Bool
gives version pairs table row element = ((element.table == table) && is_index element.kind) && is_present pairs (given version element row)

-- how many live indexes have their pair of the row of an `exists` pair
abbrev pub given_beside : Version → Pairs → Option KeyOf → ℕ
given_beside version pairs (Some (Exists table primary)) = count_by (gives version pairs table (row_at version pairs table primary)) (live version)
given_beside version pairs _ = 0

-- whether a pair has a reason that its key alone and the row's `exists` pair say: it is no pair of an index
abbrev pub has_plain_reason : Version → Pairs → Option KeyOf → Bool
has_plain_reason version pairs None = false
has_plain_reason version pairs (Some (Exists table primary)) = true
has_plain_reason version pairs (Some (Column table primary number)) = is_column_of_row pairs table primary (numbered version number)
has_plain_reason version pairs (Some (Index number values)) = false

-- what one pair counts for
abbrev pub judged : Version → Pairs → Pair → Counts
judged version pairs pair =
    record {
      rows = cond (is_exists_pair pair) 1 0;
      missing = missing_beside version pairs pair;
      other = cond (not (has_plain_reason version pairs (key_read pair.0))) 1 0;
      given = given_beside version pairs (key_read pair.0);
    }

-- the counts of both
abbrev pub added : Counts → Counts → Counts
added a b = record { rows = a.rows + b.rows; missing = a.missing + b.missing; other = a.other + b.other; given = a.given + b.given }

-- the counts of pairs in turn
abbrev pub tally : Version → Pairs → List Pair → Counts
tally version pairs [] = record { rows = 0; missing = 0; other = 0; given = 0 }
tally version pairs (pair ∷ more) = added (judged version pairs pair) (tally version pairs more)

-- a string of bytes, as every key and value of a store is
abbrev pub IsByteString : Bytes → Type 0
IsByteString = AllByRecursion (λ b. b < 2 ^ 8)

abbrev pub AreStrings : Pair → Type 0
AreStrings pair = IsByteString pair.0 × IsByteString pair.1

abbrev pub AllStrings : List Pair → Type 0
AllStrings = AllByRecursion AreStrings
