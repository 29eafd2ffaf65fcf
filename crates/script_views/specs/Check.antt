-- Cited by the contracts of named_view, named_pairs and of the functions below them, and by that of view_of in script_hints.
-- What `check TABLE.NAME` shows of one element.
use Rattle.std.specs.Prelude.{◌≡◌, ◌≢◌, ◌<◌, ◌==◌, ◌++◌, ◌∷◌, ℕ, List, [], Option, Some, None, length, get_or, ⊤, codes, if◌then◌else◌}
use Rattle.std.specs.Fmt.{decimal}
use Rattle.std.specs.List.{flat_map}
use Rattle.std.specs.Option.{MatchOption, IsSomeAnd}
use Rattle.std.specs.Str.{trim}
use mathlib.Core.List.{map as each}
use Rattle.audit.specs.Audit.{numbered}
use Rattle.element_check.specs.Check.{IsElementCheck}
use Rattle.element_check.specs.declared.report.ElementReport.{ElementReport}
use Rattle.keycode.specs.declared.value.Value.{Value}
use Rattle.row_map.specs.declared.key.KeyOf.{KeyOf}
use Rattle.row_map.specs.declared.key.KeyOf.TheVariants.{Exists, Column, Index}
use Rattle.schema_version.specs.declared.element.ElementDef.{ElementDef}
use Rattle.schema_version.specs.declared.element.ElementState.{ElementState}
use Rattle.schema_version.specs.declared.element.ElementState.TheVariants.{Absent, DeleteOnly, WriteOnly, Public}
use Rattle.script_grammar.specs.Print.{value_text}
use Rattle.script_session.specs.Names.{table_number, element_number}
use Rattle.script_session.specs.Rows.{joined}
use Rattle.script_session.specs.Session.{Session}
use Rattle.script_session.specs.declared.session.Opened.{Opened}
use Rattle.script_session.specs.declared.session.Session.TheVariants.{Declaring, Running}
use Rattle.script_session.specs.State.{State, facts_of}
use Rattle.script_views.specs.Unknown.{SaysUnknown}

-- `(VALUE, VALUE)`
abbrev pub tuple : List Value → List ℕ
tuple values = codes "(" ++ joined (each value_text values) ++ codes ")"

-- the primary key of a column's pair; the indexed values and the primary key of an index's pair
abbrev pub key_tuple : KeyOf → List ℕ
key_tuple (Exists table key) = tuple key
key_tuple (Column table key element) = tuple key
key_tuple (Index element values) = tuple values

abbrev pub missing_line : List Value → List ℕ
missing_line key = codes "\nmissing " ++ tuple key

abbrev pub extra_line : KeyOf → List ℕ
extra_line key = codes "\nextra " ++ key_tuple key

-- what there is to know of rows that lack their pair of an element in this state
abbrev pub state_note : ElementState → List ℕ
state_note Absent = []
state_note DeleteOnly = codes "\nmissing pairs are normal in delete_only: writers delete pairs, and write none"
state_note WriteOnly = codes "\nmissing pairs are normal in write_only before a fill has ended"
state_note Public = []

abbrev pub check_note : ℕ → ElementState → List ℕ
check_note missing state = if missing == 0 then [] else state_note state

-- `TABLE.NAME missing M extra X`, a line for each row and for each key of the report, and the note
abbrev pub check_text : List ℕ → ElementState → ElementReport → List ℕ
check_text name state report =
    name ++ codes " missing " ++ decimal report.missing ++ codes " extra " ++ decimal report.extra
    ++ flat_map missing_line report.missing_rows ++ flat_map extra_line report.extra_keys ++ check_note report.missing state

-- an element's state; absent is what is not there
abbrev pub state_at : Option ElementDef → ElementState
state_at None = Absent
state_at (Some element) = element.state

-- the check of an element by the newest version, with the first 20 of each
abbrev pub IsElementText : State → List ℕ → ElementDef → List ℕ → Type 0
IsElementText world name element text =
    (report : ElementReport) × IsElementCheck (facts_of world).newest world.pairs element 20 report × (text ≡ check_text name element.state report)

-- the number that the names have in the newest version
abbrev pub number_of : State → List ℕ → List ℕ → ℕ
number_of world table name = element_number (facts_of world).newest (table_number (facts_of world).newest table) name

-- what is shown of the live element of these names; or that it is not there
abbrev pub ShowsElement : State → List ℕ → List ℕ → List ℕ → Type 0
ShowsElement world table name text =
    MatchOption (numbered (facts_of world).newest (number_of world table name)) (SaysUnknown (facts_of world).newest table name text) (λ element. IsElementText world (table ++ codes "." ++ name) element text)

abbrev pub HasNo : ℕ → List ℕ → Type 0
HasNo c bytes = (i : ℕ) → i < length bytes → get_or bytes i 0 ≢ c

-- a name with no tab, no space and no dot in it, as every name of a schema is
pub record IsBare (name : List ℕ) : Type 0 where
  pub no_tab : HasNo 9 name
  pub no_space : HasNo 32 name
  pub no_dot : HasNo 46 name

-- no tab and no space
abbrev pub HasNoSpace : List ℕ → Type 0
HasNoSpace bytes = HasNo 9 bytes × HasNo 32 bytes

-- the line is `check TABLE.NAME`: the first dot ends the table's name
abbrev pub IsCheckLine : List ℕ → Type 0
IsCheckLine line = (table : List ℕ) × (name : List ℕ) × IsBare table × HasNoSpace name × (line ≡ codes "check " ++ (table ++ 46 ∷ name))

-- the line `check TABLE.NAME` shows the check of that element
abbrev pub ShowsCheckIn : Opened → List ℕ → Option (List ℕ) → Type 0
ShowsCheckIn opened line shown =
    (table name : List ℕ) → IsBare table → HasNoSpace name → line ≡ codes "check " ++ (table ++ 46 ∷ name) → IsSomeAnd shown (λ text. ShowsElement opened.world table name text)

-- in an opened world, whatever white space is around the line
abbrev pub ShowsCheck : Session → List ℕ → Option (List ℕ) → Type 0
ShowsCheck (Declaring declared) line shown = ⊤
ShowsCheck (Running opened) line shown = ShowsCheckIn opened (trim line) shown
