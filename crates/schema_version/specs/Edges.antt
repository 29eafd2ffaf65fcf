-- Cited by the contracts of edge, needed_work, ElementDef::wanted_work, Kind::is_filled.
-- The edges between the states of an element, and what a move along one of them needs.
use Rattle.std.specs.Prelude.{◌≡◌, Bool, true, false, Option, Some, None, is_some, if◌then◌else◌}
use Rattle.schema_version.specs.declared.element.ElementState.{ElementState}
use Rattle.schema_version.specs.declared.element.ElementState.TheVariants.{Absent, DeleteOnly, WriteOnly, Public}
use Rattle.schema_version.specs.declared.element.Way.{Way}
use Rattle.schema_version.specs.declared.element.Way.TheVariants.{Adding, Dropping}
use Rattle.schema_version.specs.declared.element.Kind.{Kind}
use Rattle.schema_version.specs.declared.element.Kind.TheVariants.{Index, Optional, Required}
use Rattle.schema_version.specs.declared.element.Work.{Work}
use Rattle.schema_version.specs.declared.element.Work.TheVariants.{Fill, Clear}
use Rattle.schema_version.specs.declared.element.ElementDef.{ElementDef}

-- whether a fill puts the pairs of a kind: then it passes write-only, which an optional column skips
abbrev pub is_filled : Kind → Bool
is_filled (Index columns) = true
is_filled (Optional type) = false
is_filled (Required type fallback) = true

-- the way of an element after an edge, by whether its kind is filled
abbrev pub edge_by : Bool → Way → ElementState → ElementState → Option Way
edge_by true Adding Absent DeleteOnly = Some Adding
edge_by true Adding DeleteOnly WriteOnly = Some Adding
edge_by true Adding WriteOnly Public = Some Adding
edge_by true way Public WriteOnly = Some Dropping
edge_by true Dropping WriteOnly DeleteOnly = Some Dropping
edge_by true Dropping DeleteOnly Absent = Some Dropping
edge_by false Adding Absent DeleteOnly = Some Adding
edge_by false Adding DeleteOnly Public = Some Adding
edge_by false way Public DeleteOnly = Some Dropping
edge_by false Dropping DeleteOnly Absent = Some Dropping
edge_by filled way from to = None

-- The way of an element after it goes from one state to another; none if no edge of its way, nor
-- one out of public, joins them.
abbrev pub edge : Kind → Way → ElementState → ElementState → Option Way
edge kind way from to = edge_by (is_filled kind) way from to

-- the states that an element of a kind may have: what no fill serves is never write-only
abbrev pub state_by : Bool → ElementState → Bool
state_by false WriteOnly = false
state_by filled state = true

abbrev pub has_state : Kind → ElementState → Bool
has_state kind state = state_by (is_filled kind) state

-- an edge joins the two states
abbrev pub HasEdge : Kind → ElementState → ElementState → Type 0
HasEdge kind from to = (way next : Way) × (edge kind way from to ≡ Some next)

-- what a move to a state needs to be finished, by whether its kind is filled
abbrev pub needed_by : Bool → ElementState → Option Work
needed_by true Public = Some Fill
needed_by filled Absent = Some Clear
needed_by filled to = None

-- what a move to a state needs to be finished: one to public its fill, where its kind is filled, every one to absent the clear
abbrev pub needed_work : Kind → ElementState → Option Work
needed_work kind to = needed_by (is_filled kind) to

-- what the next move on a way needs: one to public or to absent, for no other needs any
abbrev pub work_by : Kind → Way → ElementState → Option Work
work_by kind way from =
    if is_some (edge kind way from Public) then needed_work kind Public
    else (if is_some (edge kind way from Absent) then needed_work kind Absent
    else None)

-- what an element wants: a fill for what is write-only and being added, a clear for what is delete-only and being dropped
abbrev pub wanted_work : ElementDef → Option Work
wanted_work element = work_by element.kind element.way element.state
