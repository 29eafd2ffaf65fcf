-- The declared version, from what is held.
use Rattle.std.proofs.Common.{◌≡◌, ℕ, List, [], sym, ◌∙◌}
use Rattle.std.specs.Ordering.{nat_cmp}
use Rattle.std.specs.FinMap as map
use mathlib.Core.List.{map as each}
use Rattle.schema_version.specs.declared.element.ElementDef.{ElementDef}
use Rattle.schema_version.specs.declared.table.TableDef.{TableDef}
use Rattle.schema_version.specs.Version.{Version, Table}
use Rattle.schema_version.specs.Held.{holding}
use Rattle.schema_version.specs.Declare.{table_of, enter_tables, declared}
use Rattle.schema_version.proofs.Maps.{entries-empty}

nothing : ◌≡◌ {A = map.FinMap nat_cmp ElementDef} (map.from_sorted []) map.empty
nothing = map.same_entries_map _ _ (map.entries-from_sorted nat_cmp [] tt ∙ sym (entries-empty nat_cmp))

pub first_is : (held : List Table) (ts : List TableDef) (es : List (ℕ × ElementDef)) (next : ℕ) → held ≡ each table_of ts → ((v : Version) → holding v es next ≡ enter_tables 1 (holding v [] 1) ts) → ◌≡◌ {A = Version} (record { tables = held; elements = map.from_sorted es; next = next }) (declared ts)
first_is held ts es next same after =
    after (record { tables = held; elements = map.from_sorted es; next = next })
    ∙ (λ i. enter_tables 1 (record { tables = same i; elements = nothing i; next = 1 }) ts)
