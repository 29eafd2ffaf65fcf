-- Cited by private functions alone: end_of, low_of, high_of, key_in_pair and 5 more.
-- If a walk begins and ends, and the keys that a walk over an index gathers.
use Rattle.std.specs.Prelude.{ℕ, List, [], ◌∷◌, ◌++◌, Option, Some, None, ◌==◌, drop, Result, Ok, Err, if◌then◌else◌}
use Rattle.std.specs.List.{find}
use Rattle.std.specs.BTreeSet.{insert_key}
use Rattle.keycode.specs.declared.value.Value.{Value}
use Rattle.keycode.specs.declared.fault.KeyFault.{KeyFault}
use Rattle.keycode.specs.Code.{code}
use Rattle.keycode.specs.Order.{values_cmp}
use Rattle.row_map.specs.declared.key.KeyOf.{KeyOf}
use Rattle.row_map.specs.declared.key.KeyOf.TheVariants.{Exists, Column, Index}
use Rattle.row_map.specs.Ranges.{table_prefix, index_prefix}
use Rattle.row_map.specs.ReadKey.{key_at}
use Rattle.row_map.specs.Rows.{Bytes}
use Rattle.row_query.specs.declared.query.Cond.{Cond}
use Rattle.row_query.specs.declared.query.Cond.TheVariants.{Key, Equal, Between}
use Rattle.row_query.specs.Path.{is_on}

-- after the keys of a table's rows: a value's tag is at most 4
abbrev pub table_end : ℕ → Bytes
table_end table = table_prefix table ++ 5 ∷ []

-- the first key that is asked for
abbrev pub first_key : List Cond → Option (List Value)
first_key [] = None
first_key (Key wanted ∷ cs) = Some wanted
first_key (Equal column value ∷ cs) = first_key cs
first_key (Between column low high ∷ cs) = first_key cs

-- the first condition on the first of these columns
abbrev pub leading : List Cond → List ℕ → Option Cond
leading conditions [] = None
leading conditions (first ∷ others) = find (is_on first) conditions

-- the bytes after an index's number from which on the values stand that meet a condition: a tag of
-- 2 is after Null
abbrev pub from_bytes : Cond → Bytes
from_bytes (Key wanted) = []
from_bytes (Equal column value) = code value
from_bytes (Between column None high) = 2 ∷ []
from_bytes (Between column (Some low) high) = code low

-- and before which they stand
abbrev pub to_bytes : Cond → Bytes
to_bytes (Key wanted) = 5 ∷ []
to_bytes (Equal column value) = code value ++ 5 ∷ []
to_bytes (Between column low None) = 5 ∷ []
to_bytes (Between column low (Some high)) = code high ++ 5 ∷ []

abbrev pub low_bound : ℕ → Cond → Bytes
low_bound number condition = index_prefix number ++ from_bytes condition

abbrev pub high_bound : ℕ → Cond → Bytes
high_bound number condition = index_prefix number ++ to_bytes condition

-- the primary key of a pair of an index over so many columns
abbrev pub key_of_index : ℕ → ℕ → Result KeyOf KeyFault → Option (List Value)
key_of_index number width (Ok (Exists table key)) = None
key_of_index number width (Ok (Column table key element)) = None
key_of_index number width (Ok (Index element values)) = if element == number then Some (drop width values) else None
key_of_index number width (Err fault) = None

unfoldable pub index_key_in : ℕ → ℕ → Bytes → Option (List Value)
index_key_in number width bytes = key_of_index number width (key_at bytes)

abbrev pub with_key : List (List Value) → Option (List Value) → List (List Value)
with_key keys None = keys
with_key keys (Some key) = insert_key values_cmp keys key

-- the primary keys of an index's pairs, in order
abbrev pub gathered : ℕ → ℕ → List (List Value) → List (Bytes × Bytes) → List (List Value)
gathered number width keys [] = keys
gathered number width keys (p ∷ ps) = gathered number width (with_key keys (index_key_in number width p.0)) ps
