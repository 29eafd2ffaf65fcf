-- Cited by the contracts of visible_rows_agree, row_query::answer.
-- The rows as transactions under a version see them: where a row has no value of its own in a public required column, it has the default.
use Rattle.std.specs.Prelude.{ℕ, ◌==◌, ◌&&◌, List, [], ◌∷◌, Option, Some, None, is_some, if◌then◌else◌, cond}
use Rattle.std.specs.FinMap.{get, insert, entries, from_sorted}
use mathlib.Core.List.{map as each}
use Rattle.keycode.specs.declared.value.Value.{Value}
use Rattle.row_map.specs.Rows.{RowKey, Cells, Rows, Pairs}
use Rattle.schema_version.specs.declared.element.Kind.{Kind}
use Rattle.schema_version.specs.declared.element.Kind.TheVariants.{Index, Optional, Required}
use Rattle.schema_version.specs.declared.element.ElementDef.{ElementDef}
use Rattle.schema_version.specs.Version.{Version, element_at, is_public}
use Rattle.schema_version.specs.Sound.{IsSoundVersion}
use Rattle.element_state.specs.Consistent.{IsConsistent}

abbrev pub default_of : Kind → Option Value
default_of (Index columns) = None
default_of (Optional type) = None
default_of (Required type fallback) = Some fallback

-- the default of an element, where it is a public required column of the table
abbrev pub default_in : ℕ → ElementDef → Option Value
default_in table element = if (element.table == table) && is_public element.state then default_of element.kind else None

abbrev pub default_at : ℕ → Option ElementDef → Option Value
default_at table None = None
default_at table (Some element) = default_in table element

abbrev pub own_or : Option Value → Option Value → Option Value
own_or None default = default
own_or (Some value) default = Some value

-- what is visible in a column of a row that has this value of its own, or none
abbrev pub visible_value : Version → ℕ → ℕ → Option Value → Option Value
visible_value version table column own = own_or own (default_at table (element_at version column))

abbrev pub with_default : ℕ → Option Value → Cells → Cells
with_default column None cells = cells
with_default column (Some fallback) cells = cond (is_some (get cells column)) cells (insert cells column fallback)

abbrev pub with_defaults : ℕ → List (ℕ × ElementDef) → Cells → Cells
with_defaults table [] cells = cells
with_defaults table (e ∷ es) cells = with_defaults table es (with_default e.0 (default_in table e.1) cells)

-- the cells that are visible of a row of the table
abbrev pub visible_cells : Version → ℕ → Cells → Cells
visible_cells version table cells = with_defaults table (entries version.elements) cells

abbrev pub as_visible : Version → RowKey × Cells → RowKey × Cells
as_visible version row = (row.0, visible_cells version row.0.0 row.1)

-- the rows that are visible: a default stands for a value that a row lacks
abbrev pub visible_rows : Version → Rows → Rows
visible_rows version rows = from_sorted (each (as_visible version) (entries rows))

-- pairs that agree with rows agree with the rows that are visible of them: no pair tells a default
-- from a value of the row's own
abbrev pub VisibleAgree : Type 0
VisibleAgree = (version : Version) (rows : Rows) (pairs : Pairs) → IsSoundVersion version → IsConsistent version rows pairs → IsConsistent version (visible_rows version rows) pairs
