-- Cited by the contracts of next_state.
-- The way of an element: the state that comes next, and how many edges are left.
use Rattle.std.specs.Prelude.{ℕ, Bool, true, false, Option, Some, None}
use Rattle.schema_version.specs.declared.element.ElementState.{ElementState}
use Rattle.schema_version.specs.declared.element.ElementState.TheVariants.{Absent, DeleteOnly, WriteOnly, Public}
use Rattle.schema_version.specs.declared.element.Way.{Way}
use Rattle.schema_version.specs.declared.element.Way.TheVariants.{Adding, Dropping}
use Rattle.schema_version.specs.declared.element.ElementDef.{ElementDef}
use Rattle.schema_version.specs.Edges.{is_filled}

-- the next state on a way, by whether a fill serves the kind; none after public, when nothing is under way
abbrev pub next_by : Bool → Way → ElementState → Option ElementState
next_by true Adding DeleteOnly = Some WriteOnly
next_by true Adding WriteOnly = Some Public
next_by true Dropping WriteOnly = Some DeleteOnly
next_by true Dropping DeleteOnly = Some Absent
next_by false Adding DeleteOnly = Some Public
next_by false Dropping DeleteOnly = Some Absent
next_by filled way state = None

abbrev pub next_state : ElementDef → Option ElementState
next_state element = next_by (is_filled element.kind) element.way element.state

-- the edges from a state to the end of its way
abbrev pub edges_by : Bool → Way → ElementState → ℕ
edges_by true Adding DeleteOnly = 2
edges_by true Adding WriteOnly = 1
edges_by true Dropping WriteOnly = 2
edges_by true Dropping DeleteOnly = 1
edges_by false Adding DeleteOnly = 1
edges_by false Dropping DeleteOnly = 1
edges_by filled way state = 0

abbrev pub edges_of : Option ElementDef → ℕ
edges_of None = 0
edges_of (Some element) = edges_by (is_filled element.kind) element.way element.state
