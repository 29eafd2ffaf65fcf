-- Cited by private functions alone: part_cause.
-- The names of a part of a table.
use Rattle.std.specs.Prelude.{ℕ, ◌+◌, List, [], ◌∷◌, ◌++◌, Option, Some, None, not, if◌then◌else◌}
use Rattle.schema_version.specs.Names.{is_name, is_among}
use Rattle.table_faults.specs.declared.fault.TableCause.{TableCause}
use Rattle.table_faults.specs.declared.fault.TableCause.TheVariants.{Name, NameTwice}

-- of names before those others, from this place on: the first that is no name, or that stands again after it or among those
abbrev pub part_cause : ℕ → List (List ℕ) → List (List ℕ) → Option TableCause
part_cause place [] others = None
part_cause place (name ∷ later) others =
    if not (is_name name) then Some (Name place)
    else if is_among name (later ++ others) then Some (NameTwice place)
    else part_cause (place + 1) later others
