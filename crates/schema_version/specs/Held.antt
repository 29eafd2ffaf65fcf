-- Cited by the contracts of Schema.
-- What the fields of a Schema stand for, and what is true of them.
use Rattle.std.specs.Prelude.{◌≡◌, ℕ, ◌+◌, ◌<◌, ◌≤◌, List, [], ◌∷◌, T, Option, Some, None, nat_eq, refl}
use Rattle.std.specs.Map.{lookup, remove_entry}
use Rattle.indexmap.specs.IndexMap.{insert_entry}
use Rattle.schema_version.specs.declared.element.ElementState.{ElementState}
use Rattle.schema_version.specs.declared.element.ElementState.TheVariants.{Absent}
use Rattle.schema_version.specs.declared.step.Move.{Move}
use Rattle.schema_version.specs.declared.step.Move.TheVariants.{Enter, Go, Turn}
use Rattle.schema_version.specs.Names.{max_elements}
use Rattle.schema_version.specs.Moves.{as_element, in_state, turned_back}
use Rattle.std.specs.Ordering.{nat_cmp}
use Rattle.std.specs.String.{string_bytes}
use Rattle.std.specs.declared.string.String.{String}
use Rattle.std.specs.FinMap as map
use Rattle.std.specs.List.{AllByRecursion}
use Rattle.std.specs.Coded.{Coded, code_by, coded×, coded_list, coded_ℕ}
use Rattle.row_map.specs.declared.shape.ColumnType.{ColumnType}
use Rattle.row_map.specs.contracts.shape.ColumnType as column_type
use Rattle.schema_version.specs.declared.element.ElementDef.{ElementDef}
use Rattle.schema_version.specs.contracts.element.ElementDef as element_def
use Rattle.schema_version.specs.Version.{Version, Table}

-- a table as it is held under its name
abbrev pub table_held : {Y : Type 0} → String Y × List (List ℕ × ColumnType) → Table
table_held held = record { name = string_bytes held.0; key = held.1 }

abbrev pub table_code : Coded Table
table_code =
    code_by (List ℕ × List (List ℕ × ColumnType)) (coded× (coded_list coded_ℕ) (coded_list (coded× (coded_list coded_ℕ) column_type.the_row.coded))) (λ t. (t.name, t.key)) (λ p. record { name = p.0; key = p.1 }) (λ _. refl)

abbrev pub version_code : Coded Version
version_code =
    code_by (List Table × (map.FinMap nat_cmp ElementDef × ℕ)) (coded× (coded_list table_code) (coded× (map.code {R = nat_cmp} coded_ℕ element_def.the_row.coded) coded_ℕ)) (λ v. (v.tables, (v.elements, v.next))) (λ p. record { tables = p.0; elements = p.1.0; next = p.1.1 }) (λ _. refl)

-- an element stands under its number, which was given already
pub record IsNumbered (next : ℕ) (entry : ℕ × ElementDef) : Type 0 where
  pub above : 1 ≤ entry.0
  pub given : entry.0 < next
  pub own : entry.1.number ≡ entry.0

-- the elements stand by rising number, and more numbers than may be given weren't
pub record IsHeld (entries : List (ℕ × ElementDef)) (next : ℕ) : Type 0 where
  pub rising : T (map.is_sorted nat_cmp entries)
  pub numbered : AllByRecursion (IsNumbered next) entries
  pub begun : 1 ≤ next
  pub few : next ≤ max_elements + 1

-- a version with these entries as its elements
abbrev pub holding : Version → List (ℕ × ElementDef) → ℕ → Version
holding version entries next = record version { elements = map.from_sorted entries; next = next }

-- the entries after an element went to a state
abbrev pub moved_entries : List (ℕ × ElementDef) → ℕ → Option ElementDef → ElementState → List (ℕ × ElementDef)
moved_entries entries number None to = entries
moved_entries entries number (Some element) Absent = remove_entry (nat_eq number) entries
moved_entries entries number (Some element) to = insert_entry nat_eq entries number (in_state element to)

-- and after one turned back
abbrev pub turned_entries : List (ℕ × ElementDef) → ℕ → Option ElementDef → List (ℕ × ElementDef)
turned_entries entries number None = entries
turned_entries entries number (Some element) = insert_entry nat_eq entries number (turned_back element)

-- the entries, and the next number, after a move
abbrev pub made : List (ℕ × ElementDef) → ℕ → Move → List (ℕ × ElementDef) × ℕ
made entries next (Enter fresh to) = (insert_entry nat_eq entries next (as_element next fresh to), next + 1)
made entries next (Go number to) = (moved_entries entries number (lookup (nat_eq number) entries) to, next)
made entries next (Turn number) = (turned_entries entries number (lookup (nat_eq number) entries), next)

-- and after these
abbrev pub all_made : List (ℕ × ElementDef) → ℕ → List Move → List (ℕ × ElementDef) × ℕ
all_made entries next [] = (entries, next)
all_made entries next (move ∷ moves) = all_made (made entries next move).0 (made entries next move).1 moves
