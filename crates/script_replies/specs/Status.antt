-- Cited by the contracts of status_line.
-- What a world's status line says.
use Rattle.std.specs.Prelude.{◌≡◌, ◌↔◌, ℕ, List, [], Option, Some, None, Contains, codes}
use Rattle.std.specs.List.Sorted.{IsStrictlyIncreasing}
use mathlib.Core.List.{map as each}
use Rattle.script_grammar.specs.Print.{state_word}
use Rattle.lease.specs.Timeline.{IsUsable, newest as newest_number}
use Rattle.replay.specs.Replay.{Facts}
use Rattle.schema_version.specs.declared.element.ElementDef.{ElementDef}
use Rattle.schema_version.specs.declared.element.Way.{Way}
use Rattle.schema_version.specs.declared.element.Way.TheVariants.{Adding, Dropping}
use Rattle.schema_version.specs.Version.{Version, Table, live, table_at}
use Rattle.serde_json.specs.Data.{Data, unsigned, number, string, array, object, member, no_members}
use Rattle.serde_json.specs.View.{items_of}
use Rattle.serde_json.specs.Written.{compact_text}
use Rattle.piece_work.specs.State.{State, entry_count, facts_of}

-- the versions that a lease may still use, rising
pub record AreUsable (facts : Facts) (numbers : List ℕ) : Type 0 where
  pub rising : IsStrictlyIncreasing numbers
  pub usable : (number : ℕ) → Contains numbers number ↔ IsUsable facts.line number facts.moment

-- ---- the line's data

abbrev pub count_data : ℕ → Data
count_data count = number (unsigned count)

abbrev pub list_data : List Data → Data
list_data all = array (items_of all)

-- the table's name; empty where there is no such table
abbrev pub name_or_empty : Option Table → List ℕ
name_or_empty None = []
name_or_empty (Some table) = table.name

abbrev pub way_word : Way → List ℕ
way_word Adding = codes "adding"
way_word Dropping = codes "dropping"

-- an element of a version
abbrev pub element_data : Version → ElementDef → Data
element_data version element =
    object
    (member (codes "name") (string element.name)
    (member (codes "number") (count_data element.number)
    (member (codes "state") (string (state_word element.state))
    (member (codes "table") (string (name_or_empty (table_at version element.table)))
    (member (codes "way") (string (way_word element.way)) no_members)))))

-- all live elements of a version, by rising number
abbrev pub elements_data : Version → Data
elements_data version = list_data (each (element_data version) (live version))

-- the state, and the versions that are usable in it
abbrev pub status_data : State → List ℕ → Data
status_data state usable =
    object
    (member (codes "elements") (elements_data (facts_of state).newest)
    (member (codes "log") (count_data (entry_count state))
    (member (codes "moment") (count_data (facts_of state).moment)
    (member (codes "usable") (list_data (each count_data usable))
    (member (codes "version") (count_data (newest_number (facts_of state).line)) no_members)))))

-- the text is the compact JSON of the state's data
abbrev pub IsStatus : State → List ℕ → Type 0
IsStatus state text = (usable : List ℕ) × AreUsable (facts_of state) usable × (text ≡ compact_text (status_data state usable))
