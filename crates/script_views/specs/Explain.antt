-- Cited by the contracts of named_view, explanation and of the functions below them, and by that of view_of in script_hints.
-- What `explain query` shows: by which path a query is answered.
use Rattle.std.specs.Prelude.{◌≡◌, ◌⊎◌, ◌++◌, ◌∷◌, ◌==◌, ℕ, List, [], Option, Some, None, Result, Ok, Err, ⊤, codes, if◌then◌else◌}
use Rattle.std.specs.FinMap as map
use Rattle.std.specs.Option.{IsSomeAnd}
use Rattle.std.specs.Str.{trim}
use Rattle.row_query.specs.Path.{plain_path}
use Rattle.row_query.specs.Refused.{IsRefused, IsSound}
use Rattle.row_query.specs.declared.fault.QueryFault.{QueryFault}
use Rattle.row_query.specs.declared.query.Query.{Query}
use Rattle.row_query.specs.declared.query.Path.{Path}
use Rattle.row_query.specs.declared.query.Path.TheVariants as path
use Rattle.schema_version.specs.Version.{Version}
use Rattle.script_grammar.specs.Commands.{command_at}
use Rattle.script_grammar.specs.declared.command.Command.{Command}
use Rattle.script_grammar.specs.declared.command.Command.TheVariants as command
use Rattle.script_grammar.specs.declared.selection.Selection.{Selection}
use Rattle.script_session.specs.Rows.{fault_name}
use Rattle.script_session.specs.Texts.{refused}
use Rattle.script_session.specs.Names.{asked}
use Rattle.script_session.specs.Session.{Session}
use Rattle.script_session.specs.declared.session.Opened.{Opened}
use Rattle.script_session.specs.declared.session.ServerLease.{ServerLease}
use Rattle.script_session.specs.declared.session.Session.TheVariants.{Declaring, Running}
use Rattle.script_tokens.specs.declared.fault.LineFault.{LineFault}
use Rattle.script_views.specs.Names.{element_name}

-- the line with ` at 0` before its first colon; the line itself if it has no colon
abbrev pub timed : List ℕ → List ℕ
timed [] = []
timed (b ∷ bs) = if b == 58 then codes " at 0:" ++ bs else b ∷ timed bs

-- what the line parses to, or, if that is no command, what the line with a moment parses to
abbrev pub command_or : Result Command LineFault → List ℕ → Result Command LineFault
command_or (Ok command) line = Ok command
command_or (Err fault) line = command_at (timed line)

abbrev pub explained : List ℕ → Result Command LineFault
explained line = command_or (command_at line) line

-- the server and the selection of a query
abbrev pub query_of : Result Command LineFault → Option (List ℕ × Selection)
query_of (Ok (command.Query server moment selection)) = Some (server, selection)
query_of _ = None

-- For `select town from people where town = 'Ulm'` and a public index `by_town` on `town`:
-- `index people.by_town: its pairs between the bounds are read, and the row of each`.
abbrev pub path_words : Version → Path → List ℕ
path_words version path.Key = codes "key: one row is looked up"
path_words version path.Scan = codes "scan: all rows of the table are read"
path_words version (path.Index number) = codes "index " ++ element_name version number ++ codes ": its pairs between the bounds are read, and the row of each"

-- the text is this line, or this line and remarks on lines of their own
abbrev pub BeginsWith : List ℕ → List ℕ → Type 0
BeginsWith line text = (text ≡ line) ⊎ ((remarks : List ℕ) × (text ≡ line ++ 10 ∷ remarks))

-- By which path the query is answered under the version; or else why it is refused, as its reply has it, and remarks.
abbrev pub ExplainsQuery : Version → Query → List ℕ → Type 0
ExplainsQuery version query text =
    (IsSound version query × (text ≡ path_words version (plain_path version query)))
    ⊎ ((fault : QueryFault) × IsRefused version query fault × BeginsWith (refused (fault_name fault)) text)

abbrev pub ExplainsUnder : Option ServerLease → Selection → List ℕ → Type 0
ExplainsUnder None selection text = text ≡ codes "the server has no lease"
ExplainsUnder (Some held) selection text = ExplainsQuery held.schema (asked held.schema selection) text

-- the path of a query, under its server's lease; or the form of the line
abbrev pub Explains : Opened → Option (List ℕ × Selection) → List ℕ → Type 0
Explains opened None text = text ≡ codes "explain query SERVER: select .. from TABLE where .."
Explains opened (Some query) text = ExplainsUnder (map.get opened.leases query.0) query.1 text

-- the line begins with `explain query`
abbrev pub IsExplainLine : List ℕ → Type 0
IsExplainLine line = (rest : List ℕ) × (line ≡ codes "explain query" ++ rest)

-- a line that begins with `explain query` shows the path of the query that it goes on with
abbrev pub ShowsPathIn : Opened → List ℕ → Option (List ℕ) → Type 0
ShowsPathIn opened line shown =
    (rest : List ℕ) → line ≡ codes "explain query" ++ rest → IsSomeAnd shown (λ text. Explains opened (query_of (explained (codes "query" ++ rest))) text)

-- in an opened world, whatever white space is around the line
abbrev pub ShowsPath : Session → List ℕ → Option (List ℕ) → Type 0
ShowsPath (Declaring declared) line shown = ⊤
ShowsPath (Running opened) line shown = ShowsPathIn opened (trim line) shown
