-- Cited by the definitions of Answer, Forge, Replies.
-- What the lines before `open` do, and `open` itself.
use Rattle.std.specs.Prelude.{◌≡◌, ℕ, List, [], ◌∷◌, ◌++◌, Option, Some, None, option_map, Result, Ok, Err, Bool, true, false, bytes_eq, if◌then◌else◌, codes}
use Rattle.std.specs.FinMap as map
use Rattle.script_grammar.specs.declared.command.Command.{Command}
use Rattle.script_grammar.specs.declared.command.Command.TheVariants as command
use Rattle.schema_version.specs.declared.table.TableDef.{TableDef}
use Rattle.script_replies.specs.Calls.{OpenStep}
use Rattle.script_replies.specs.State.{State}
use Rattle.script_replies.specs.OpenFault.{OpenFault}
use Rattle.script_session.specs.declared.session.Declarations.{Declarations}
use Rattle.script_session.specs.declared.session.Session.TheVariants.{Declaring, Running}
use Rattle.script_session.specs.Session.{Session, empty}
use Rattle.script_replies.specs.Texts.{line, bad_line, refused, open_name}

-- the reply is this one line
abbrev pub IsReply : List ℕ → List ℕ → Bool → Type 0
IsReply text reply bad = (reply ≡ line text) × (bad ≡ false)

-- the line is bad, and nothing changes
abbrev pub IsBad : Session → List ℕ → Bool → Session → Type 0
IsBad old reply bad new = (reply ≡ bad_line) × (bad ≡ true) × (new ≡ old)

-- the tables with one index more, where one of them has the name
abbrev pub with_index : List TableDef → List ℕ → List ℕ → List (List ℕ) → Option (List TableDef)
with_index [] name table columns = None
with_index (t ∷ ts) name table columns =
    if bytes_eq table t.name then Some ((record t { indexes = t.indexes ++ (name, columns) ∷ [] }) ∷ ts)
    else option_map (λ rest. t ∷ rest) (with_index ts name table columns)

-- an index of a table that wasn't declared is a bad line
abbrev pub IndexOn : Declarations → Option (List TableDef) → List ℕ → Bool → Session → Type 0
IndexOn d None reply bad new = IsBad (Declaring d) reply bad new
IndexOn d (Some tables) reply bad new = IsReply (codes "ok") reply bad × (new ≡ Declaring (record d { tables = tables }))

-- a refused opening forgets what was declared
abbrev pub Opens : Result State OpenFault → List ℕ → Bool → Session → Type 0
Opens (Ok world) reply bad new = IsReply (codes "ok version 1") reply bad × (new ≡ Running (record { world = world; leases = map.empty; pending = map.empty; plan = [] }))
Opens (Err fault) reply bad new = IsReply (refused (open_name fault)) reply bad × (new ≡ empty)

abbrev pub Declares : Declarations → Command → List ℕ → Bool → Session → Type 0
Declares d (command.Length length) reply bad new = IsReply (codes "ok") reply bad × (new ≡ Declaring (record d { length = length }))
Declares d (command.Table name key columns) reply bad new =
    IsReply (codes "ok") reply bad × (new ≡ Declaring (record d { tables = d.tables ++ (record { name = name; key = key; columns = columns; indexes = [] }) ∷ [] }))
Declares d (command.Index name table columns) reply bad new = IndexOn d (with_index d.tables name table columns) reply bad new
Declares d command.Open reply bad new = (result : Result State OpenFault) × OpenStep (record { length = d.length; tables = d.tables }) result × Opens result reply bad new
Declares d _ reply bad new = IsBad (Declaring d) reply bad new
