-- Cited by the contracts of Schema::has_key_column, is_fair_kind.
-- The tests by which a step is decided, one move after another.
use Rattle.std.specs.Prelude.{ℕ, ◌+◌, List, [], ◌∷◌, ◌++◌, length, Bool, true, false, ◌&&◌, ◌||◌, not, ◌==◌, nat_lt, nat_le, count_by, Option, Some, None, is_some, option_map, Result, Ok, Err, if◌then◌else◌, bytes_eq}
use Rattle.std.specs.List.{list_any, list_all, find}
use Rattle.collections.specs.Answers.{◌>>>=◌}
use Rattle.row_map.specs.Shape.{has_type}
use Rattle.schema_version.specs.declared.element.ElementState.{ElementState}
use Rattle.schema_version.specs.declared.element.ElementState.TheVariants.{Absent}
use Rattle.schema_version.specs.declared.element.Way.{Way}
use Rattle.schema_version.specs.declared.element.Way.TheVariants.{Adding, Dropping}
use Rattle.schema_version.specs.declared.element.Kind.{Kind}
use Rattle.schema_version.specs.declared.element.Kind.TheVariants.{Index, Optional, Required}
use Rattle.schema_version.specs.declared.element.ElementDef.{ElementDef}
use Rattle.schema_version.specs.declared.element.NewElement.{NewElement}
use Rattle.schema_version.specs.declared.step.Move.{Move}
use Rattle.schema_version.specs.declared.step.Move.TheVariants.{Enter, Go, Turn}
use Rattle.schema_version.specs.declared.step.StepFault.{StepFault}
use Rattle.schema_version.specs.declared.step.StepFault.TheVariants.{Unknown, NotAdjacent, WrongWay, Dependent, NameTaken, Limit}
use Rattle.schema_version.specs.Defaults.{is_value}
use Rattle.schema_version.specs.Edges.{edge}
use Rattle.schema_version.specs.Names.{is_name, max_listed, max_elements}
use Rattle.schema_version.specs.Version.{Version, Table, table_at, element_at, live, is_index, is_public, is_column, is_named, indexed_columns}
use Rattle.schema_version.specs.Moves.{moves_element, is_unready, is_distinct, count_like, max_like, is_entry}

abbrev pub Answer : Type 0
Answer = Result (Unit {0}) StepFault

-- no edge of either way joins the states
abbrev pub has_no_edge : Kind → ElementState → ElementState → Bool
has_no_edge kind from to = not (is_some (edge kind Adding from to)) && not (is_some (edge kind Dropping from to))

-- whether the element is an index that lists the column
abbrev pub lists : ℕ → ElementDef → Bool
lists column element = list_any (◌==◌ column) (indexed_columns element.kind)

-- the element that stands against a move of an element of this kind
abbrev pub stands_against : Version → List Move → ℕ → Kind → Option ℕ
stands_against version step number (Index columns) = find (is_unready version step) columns
stands_against version step number (Optional type) = option_map (λ (e : ElementDef). e.number) (find (lists number) (live version))
stands_against version step number (Required type fallback) = option_map (λ (e : ElementDef). e.number) (find (lists number) (live version))

abbrev pub unless : Option ℕ → Answer → Answer
unless None answer = answer
unless (Some on) answer = Err (Dependent on)

abbrev pub go_check : Version → List Move → List Move → ℕ → ElementDef → ElementState → Answer
go_check version step earlier number element to =
    if has_no_edge element.kind element.state to || moves_element earlier number then Err NotAdjacent
    else (if not (is_some (edge element.kind element.way element.state to)) then Err WrongWay
    else unless (stands_against version step number element.kind) (Ok tt))

abbrev pub go_check_at : Version → List Move → List Move → ℕ → Option ElementDef → ElementState → Answer
go_check_at version step earlier number None to = Err Unknown
go_check_at version step earlier number (Some element) to = go_check version step earlier number element to

abbrev pub is_dropping : Way → Bool
is_dropping Adding = false
is_dropping Dropping = true

abbrev pub turn_check : List Move → ℕ → ElementDef → Answer
turn_check earlier number element =
    if is_public element.state || moves_element earlier number then Err NotAdjacent
    else (if is_dropping element.way then Err WrongWay
    else Ok tt)

abbrev pub turn_check_at : List Move → ℕ → Option ElementDef → Answer
turn_check_at earlier number None = Err Unknown
turn_check_at earlier number (Some element) = turn_check earlier number element

abbrev pub is_column_of : ℕ → Option ElementDef → Bool
is_column_of table None = false
is_column_of table (Some element) = (element.table == table) && is_column element.kind

-- whether each of these is a live column of the table
abbrev pub are_columns_of : Version → ℕ → List ℕ → Bool
are_columns_of version table columns = list_all (λ column. is_column_of table (element_at version column)) columns

abbrev pub has_key_column : Option Table → List ℕ → Bool
has_key_column None name = false
has_key_column (Some table) name = list_any (λ column. bytes_eq column.0 name) table.key

abbrev pub is_entry_named : ℕ → List ℕ → Move → Bool
is_entry_named table name (Enter fresh to) = (fresh.table == table) && bytes_eq fresh.name name
is_entry_named table name (Go element to) = false
is_entry_named table name (Turn element) = false

abbrev pub is_taken : Version → List Move → ℕ → List ℕ → Bool
is_taken version earlier table name =
    has_key_column (table_at version table) name || (list_any (is_named table name) (live version) || list_any (is_entry_named table name) earlier)

abbrev pub is_fair_kind : Kind → Bool
is_fair_kind (Index columns) = nat_le 1 (length columns) && (nat_le (length columns) max_listed && is_distinct columns)
is_fair_kind (Optional type) = true
is_fair_kind (Required type fallback) = has_type type fallback && is_value fallback

abbrev pub is_within_limits : Version → List Move → NewElement → Bool
is_within_limits version earlier fresh =
    is_name fresh.name && (is_fair_kind fresh.kind && (nat_lt (count_like version earlier fresh.table (is_index fresh.kind)) (max_like (is_index fresh.kind))
    && nat_le (version.next + count_by is_entry earlier) max_elements))

abbrev pub enter_check : Version → List Move → List Move → NewElement → ElementState → Answer
enter_check version step earlier fresh to =
    if not (is_some (table_at version fresh.table)) || not (are_columns_of version fresh.table (indexed_columns fresh.kind)) then Err Unknown
    else (if has_no_edge fresh.kind Absent to then Err NotAdjacent
    else unless (find (is_unready version step) (indexed_columns fresh.kind))
    (if is_taken version earlier fresh.table fresh.name then Err NameTaken
    else (if not (is_within_limits version earlier fresh) then Err Limit
    else Ok tt)))

abbrev pub move_check : Version → List Move → List Move → Move → Answer
move_check version step earlier (Enter fresh to) = enter_check version step earlier fresh to
move_check version step earlier (Go number to) = go_check_at version step earlier number (element_at version number) to
move_check version step earlier (Turn number) = turn_check_at earlier number (element_at version number)

-- the moves after these earlier ones of the step
abbrev pub moves_check : Version → List Move → List Move → List Move → Answer
moves_check version step earlier [] = Ok tt
moves_check version step earlier (move ∷ moves) = move_check version step earlier move >>>= λ _. moves_check version step (earlier ++ move ∷ []) moves

abbrev pub step_check : Version → List Move → Answer
step_check version step = moves_check version step [] step
