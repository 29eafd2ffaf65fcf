-- Cited by private functions alone: adds_index_on, any_adds_index_on, lacks_column, any_lacking and 15 more.
-- The tests by which a batch is found faulty, one change after another.
use Rattle.std.specs.Prelude.{ℕ, ◌+◌, List, [], ◌∷◌, ◌++◌, Bool, true, false, ◌&&◌, ◌||◌, not, ◌==◌, nat_lt, count_by, Option, Some, None, is_some, Result, Ok, Err, if◌then◌else◌, bytes_eq}
use Rattle.std.specs.List.{list_any}
use Rattle.collections.specs.Answers.{◌>>>=◌}
use Rattle.schema_version.specs.declared.element.Kind.{Kind}
use Rattle.schema_version.specs.declared.element.ElementDef.{ElementDef}
use Rattle.schema_version.specs.Names.{is_name, is_name_list, max_elements}
use Rattle.schema_version.specs.Version.{Version, table_at, live, is_index, is_public, count_live}
use Rattle.schema_version.specs.Moves.{max_like}
use Rattle.schema_version.specs.Checks.{has_key_column, is_fair_kind}
use Rattle.change_plan.specs.declared.change.Change.{Change}
use Rattle.change_plan.specs.declared.change.Change.TheVariants.{AddIndex, DropIndex, AddColumn, DropColumn, Abandon}
use Rattle.change_plan.specs.declared.fault.PlanFault.{PlanFault}
use Rattle.change_plan.specs.declared.fault.PlanFault.TheVariants.{Unknown, NameTaken, StillIndexed, InChange, Limit}
use Rattle.change_plan.specs.Batches.{named, named_index, named_column, named_entering, adds, adds_column, drops, drops_index, drops_column, lists}
use Rattle.change_plan.specs.Refusals.{adds_like, is_addition}

abbrev pub Answer : Type 0
Answer = Result (Unit {0}) PlanFault

-- the fault of the lowest number for which the test holds
abbrev pub first_fault : Bool → Bool → Bool → Bool → Bool → Answer
first_fault unknown taken indexed moving over =
    if unknown then Err Unknown
    else (if taken then Err NameTaken
    else (if indexed then Err StillIndexed
    else (if moving then Err InChange
    else (if over then Err Limit
    else Ok tt))))

-- the table has no live column of this name, and the batch adds none
abbrev pub lacks_column : Version → List Change → ℕ → List ℕ → Bool
lacks_column old all table name = not (is_some (named_column old table name)) && not (list_any (adds_column table name) all)

abbrev pub is_taken : Version → List Change → ℕ → List ℕ → Bool
is_taken old earlier table name = has_key_column (table_at old table) name || (is_some (named old table name) || list_any (adds table name) earlier)

abbrev pub is_in_change : Option ElementDef → Bool
is_in_change None = false
is_in_change (Some element) = not (is_public element.state)

-- an index that lists the column of this number and that the batch doesn't drop
abbrev pub still_lists : List Change → ℕ → ElementDef → Bool
still_lists all column index = lists column index && not (list_any (drops_index index.table index.name) all)

abbrev pub adds_index_on : ℕ → List ℕ → Change → Bool
adds_index_on table name (AddIndex other own columns) = (other == table) && list_any (λ column. bytes_eq column name) columns
adds_index_on table name change = false

abbrev pub is_listed : Version → List Change → ℕ → List ℕ → Option ElementDef → Bool
is_listed old all table name None = false
is_listed old all table name (Some column) = list_any (still_lists all column.number) (live old) || list_any (adds_index_on table name) all

abbrev pub is_over : Version → List Change → ℕ → Bool → Bool
is_over old all table index =
    nat_lt (max_like index) (count_live old table index + count_by (adds_like table index) all) || nat_lt (max_elements + 1) (old.next + count_by is_addition all)

abbrev pub add_index_check : Version → List Change → List Change → ℕ → List ℕ → List (List ℕ) → Answer
add_index_check old all earlier table name columns =
    first_fault (not (is_some (table_at old table)) || list_any (lacks_column old all table) columns)
    (is_taken old earlier table name)
    (list_any (λ column. list_any (drops_column old table column) all) columns)
    (list_any (λ column. is_in_change (named_column old table column)) columns)
    (not (is_name name) || (not (is_name_list columns) || is_over old all table true))

abbrev pub drop_index_check : Version → List Change → ℕ → List ℕ → Answer
drop_index_check old earlier table name =
    first_fault (not (is_some (named_index old table name)) || list_any (drops table name) earlier) false false (is_in_change (named_index old table name)) false

abbrev pub add_column_check : Version → List Change → List Change → ℕ → List ℕ → Kind → Answer
add_column_check old all earlier table name kind =
    first_fault (not (is_some (table_at old table)) || is_index kind) (is_taken old earlier table name) false false
    (not (is_name name) || (not (is_fair_kind kind) || is_over old all table false))

abbrev pub drop_column_check : Version → List Change → List Change → ℕ → List ℕ → Answer
drop_column_check old all earlier table name =
    first_fault (not (is_some (named_column old table name)) || list_any (drops table name) earlier) false (is_listed old all table name (named_column old table name)) (is_in_change (named_column old table name)) false

abbrev pub abandon_check : Version → List Change → List Change → ℕ → List ℕ → Answer
abandon_check old all earlier table name =
    first_fault (not (is_some (named_entering old table name)) || list_any (drops table name) earlier) false (is_listed old all table name (named_column old table name)) false false

abbrev pub change_check : Version → List Change → List Change → Change → Answer
change_check old all earlier (AddIndex table name columns) = add_index_check old all earlier table name columns
change_check old all earlier (DropIndex table name) = drop_index_check old earlier table name
change_check old all earlier (AddColumn table name kind) = add_column_check old all earlier table name kind
change_check old all earlier (DropColumn table name) = drop_column_check old all earlier table name
change_check old all earlier (Abandon table name) = abandon_check old all earlier table name

-- the changes after these earlier ones of the batch
abbrev pub changes_check : Version → List Change → List Change → List Change → Answer
changes_check old all earlier [] = Ok tt
changes_check old all earlier (change ∷ changes) = change_check old all earlier change >>>= λ _. changes_check old all (earlier ++ change ∷ []) changes

abbrev pub batch_check : Version → List Change → Answer
batch_check old all = changes_check old all [] all
