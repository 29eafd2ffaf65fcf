-- Cited by the contracts of Declared, keys_first, split, read_command and 2 more.
-- The productions of the grammar: what lists of tokens parse to, read whole unless a name ends in
-- `_at`.
use Rattle.std.specs.Prelude.{◌≡◌, ℕ, List, [], ◌∷◌, Option, Some, None, Result, Ok, Err, Bool, true, false, not, ◌&&◌, ◌||◌, if◌then◌else◌, codes, map, filter}
use Rattle.std.specs.Option.{option_map, option_and_then}
use Rattle.keycode.specs.declared.value.Value.{Value}
use Rattle.row_map.specs.declared.shape.ColumnType.{ColumnType}
use Rattle.script_tokens.specs.declared.token.Token.{Token}
use Rattle.script_tokens.specs.declared.token.Mark.TheVariants as mark
use Rattle.script_tokens.specs.declared.fault.LineFault.{LineFault}
use Rattle.script_tokens.specs.declared.fault.LineFault.TheVariants.{Malformed}
use Rattle.script_grammar.specs.declared.columns.Declared.{Declared}
use Rattle.script_grammar.specs.declared.operation.Operation.{Operation}
use Rattle.script_grammar.specs.declared.operation.Operation.TheVariants.{Insert, Update, Delete}
use Rattle.script_grammar.specs.declared.selection.Condition.{Condition}
use Rattle.script_grammar.specs.declared.selection.Condition.TheVariants.{Key, Equal, Between}
use Rattle.script_grammar.specs.declared.selection.Selection.{Selection}
use Rattle.script_grammar.specs.declared.element.ElementName.{ElementName}
use Rattle.script_grammar.specs.declared.command.Command.{Command}
use Rattle.script_grammar.specs.declared.command.Command.TheVariants as command
use Rattle.script_tokens.specs.Tokens.{tokens_of}
use Rattle.script_tokens.specs.Productions.{◌>>=◌, first_by, after_first, at_end, is_mark, is_word, name_in, count_in, small_count_in, type_in, value_in, cut_brackets, each_between, value_of, set_of}
use Rattle.script_grammar.specs.Changes.{element_at, index_at, move_of, change_of}

-- `[key]`
abbrev pub key_of : List Token → Option Bool
key_of [] = Some false
key_of (t ∷ ts) = if is_word (codes "key") t then at_end true ts else None

-- `COLUMN TYPE [key]`
unfoldable pub declared_of : List Token → Option Declared
declared_of ts = do
  name ← first_by name_in ts
  type ← first_by type_in name.1
  is_key ← key_of type.1
  Some (record { name = name.0; column_type = type.0; is_key = is_key })

-- whether no key column stands after another column; before: whether the one before is a key column
abbrev pub keys_lead : Bool → List Declared → Bool
keys_lead before [] = true
keys_lead before (d ∷ ds) = (before || not d.is_key) && keys_lead d.is_key ds

-- whether there is a key column, and the key columns stand first
abbrev pub keys_first : List Declared → Bool
keys_first [] = false
keys_first (d ∷ ds) = d.is_key && keys_lead true ds

-- a column without its part in the key
abbrev pub column_of : Declared → List ℕ × ColumnType
column_of d = (d.name, d.column_type)

abbrev pub key_columns : List Declared → List (List ℕ × ColumnType)
key_columns ds = map column_of (filter (λ d. d.is_key) ds)

abbrev pub other_columns : List Declared → List (List ℕ × ColumnType)
other_columns ds = map column_of (filter (λ d. not d.is_key) ds)

-- `length N`, without its first word, as each command below
unfoldable pub length_of : List Token → Option Command
length_of ts = do
  length ← first_by count_in ts
  at_end (command.Length length.0) length.1

-- the table of these columns
abbrev pub table_with : List ℕ → List Declared → Option Command
table_with name ds = if keys_first ds then Some (command.Table name (key_columns ds) (other_columns ds)) else None

-- `table NAME ( COLUMN TYPE key {, COLUMN TYPE key} {, COLUMN TYPE} )`
unfoldable pub table_of : List Token → Option Command
table_of ts = do
  name ← first_by name_in ts
  inner ← cut_brackets name.1
  end ← at_end (tt {0}) inner.1
  columns ← each_between mark.Comma declared_of inner.0
  table_with name.0 columns

-- `index NAME on TABLE ( COLUMN {, COLUMN} )`
unfoldable pub index_of : List Token → Option Command
index_of ts = do
  index ← index_at ts
  at_end (command.Index index.0.0.name index.0.0.table index.0.1) index.1

-- `NAME at M`, and the tokens after it
unfoldable pub name_at_moment : List Token → Option ((List ℕ × ℕ) × List Token)
name_at_moment ts = do
  name ← first_by name_in ts
  behind ← after_first (is_word (codes "at")) name.1
  moment ← first_by count_in behind
  Some ((name.0, moment.0), moment.1)

-- `lease SERVER at M`
unfoldable pub lease_of : List Token → Option Command
lease_of ts = do
  server ← name_at_moment ts
  at_end (command.Lease server.0.0 server.0.1) server.1

-- `( VALUE {, VALUE} )`, and the tokens after it
unfoldable pub tuple_at : List Token → Option (List Value × List Token)
tuple_at ts = do
  inner ← cut_brackets ts
  values ← each_between mark.Comma value_of inner.0
  Some (values, inner.1)

-- `set COLUMN = VALUE {, COLUMN = VALUE}`
unfoldable pub sets_of : List Token → Option (List (List ℕ × Value))
sets_of ts = do
  sets ← after_first (is_word (codes "set")) ts
  each_between mark.Comma set_of sets

-- the same, or nothing
abbrev pub optional_sets_of : List Token → Option (List (List ℕ × Value))
optional_sets_of [] = Some []
optional_sets_of (t ∷ ts) = sets_of (t ∷ ts)

-- `insert TABLE ( VALUE {, VALUE} ) [set COLUMN = VALUE {, COLUMN = VALUE}]`
unfoldable pub insert_of : List Token → Option Operation
insert_of ts = do
  table ← first_by name_in ts
  key ← tuple_at table.1
  sets ← optional_sets_of key.1
  Some (Insert table.0 key.0 sets)

-- `update TABLE ( VALUE {, VALUE} ) set COLUMN = VALUE {, COLUMN = VALUE}`
unfoldable pub update_of : List Token → Option Operation
update_of ts = do
  table ← first_by name_in ts
  key ← tuple_at table.1
  sets ← sets_of key.1
  Some (Update table.0 key.0 sets)

-- `delete TABLE ( VALUE {, VALUE} )`
unfoldable pub delete_of : List Token → Option Operation
delete_of ts = do
  table ← first_by name_in ts
  key ← tuple_at table.1
  at_end (Delete table.0 key.0) key.1

-- an operation, by its first word
unfoldable pub operation_of : List Token → Option Operation
operation_of [] = None
operation_of (t ∷ ts) =
    if is_word (codes "insert") t then insert_of ts
    else (if is_word (codes "update") t then update_of ts
    else (if is_word (codes "delete") t then delete_of ts
    else None))

-- `txn SERVER at M: OPERATION {; OPERATION}`
unfoldable pub txn_of : List Token → Option Command
txn_of ts = do
  server ← name_at_moment ts
  behind ← after_first (is_mark mark.Colon) server.1
  operations ← each_between mark.Semicolon operation_of behind
  Some (command.Txn server.0.0 server.0.1 operations)

-- `prepare WORK by SERVER: OPERATION {; OPERATION}`
unfoldable pub prepare_of : List Token → Option Command
prepare_of ts = do
  name ← first_by name_in ts
  behind ← after_first (is_word (codes "by")) name.1
  server ← first_by name_in behind
  colon ← after_first (is_mark mark.Colon) server.1
  operations ← each_between mark.Semicolon operation_of colon
  Some (command.Prepare name.0 server.0 operations)

-- `commit WORK at M`
unfoldable pub commit_of : List Token → Option Command
commit_of ts = do
  name ← name_at_moment ts
  at_end (command.Commit name.0.0 name.0.1) name.1

-- whether p is true of the first token
abbrev pub begins_with : (Token → Bool) → List Token → Bool
begins_with p [] = false
begins_with p (t ∷ ts) = p t

-- `COLUMN {, COLUMN}`, and the tokens after them
unfoldable pub columns_at : List Token → Option (List (List ℕ) × List Token)
columns_at [] = None
columns_at (t ∷ []) = do
  column ← name_in t
  Some (column ∷ [], [])
columns_at (t ∷ u ∷ ts) = do
  column ← name_in t
  if is_mark mark.Comma u then option_map (λ x. (column ∷ x.0, x.1)) (columns_at ts) else Some (column ∷ [], u ∷ ts)

-- the same, or `*`, which names none
abbrev pub selected_at : List Token → Option (Option (List (List ℕ)) × List Token)
selected_at [] = None
selected_at (t ∷ ts) = if is_mark mark.Star t then Some (None, ts) else option_map (λ x. (Some x.0, x.1)) (columns_at (t ∷ ts))

-- `= TUPLE`, after `key`, and the tokens after it
unfoldable pub key_condition_at : List Token → Option (Condition × List Token)
key_condition_at ts = do
  behind ← after_first (is_mark mark.Equal) ts
  key ← tuple_at behind
  Some (Key key.0, key.1)

-- the condition that a sign and the value after it make of a COLUMN: `COLUMN = VALUE`, `COLUMN >=
-- VALUE` or `COLUMN <= VALUE`
abbrev pub compared : Token → List ℕ → Value → Option Condition
compared t column value =
    if is_mark mark.Equal t then Some (Equal column value)
    else (if is_mark mark.AtLeast t then Some (Between column (Some value) None)
    else (if is_mark mark.AtMost t then Some (Between column None (Some value))
    else None))

-- `VALUE`, after a COLUMN and this sign, and the tokens after it
unfoldable pub compared_at : Token → List ℕ → List Token → Option (Condition × List Token)
compared_at t column ts = do
  value ← first_by value_in ts
  condition ← compared t column value.0
  Some (condition, value.1)

-- `VALUE and VALUE`, after `COLUMN between`, and the tokens after it
unfoldable pub between_at : List ℕ → List Token → Option (Condition × List Token)
between_at column ts = do
  low ← first_by value_in ts
  behind ← after_first (is_word (codes "and")) low.1
  high ← first_by value_in behind
  Some (Between column (Some low.0) (Some high.0), high.1)

-- what follows a COLUMN in a condition, by its first token, and the tokens after it
unfoldable pub comparison_at : List ℕ → List Token → Option (Condition × List Token)
comparison_at column [] = None
comparison_at column (t ∷ ts) = if is_word (codes "between") t then between_at column ts else compared_at t column ts

-- a condition on a column, and the tokens after it
unfoldable pub column_condition_at : List Token → Option (Condition × List Token)
column_condition_at ts = do
  column ← first_by name_in ts
  comparison_at column.0 column.1

-- `COND`, and the tokens after it; `key` is always the primary key
unfoldable pub condition_at : List Token → Option (Condition × List Token)
condition_at [] = None
condition_at (t ∷ ts) = if is_word (codes "key") t then key_condition_at ts else column_condition_at (t ∷ ts)

-- nothing, or what f makes of the tokens after an `and`
abbrev pub and_more : {A : Type 0} → (List Token → Option (List A)) → List Token → Option (List A)
and_more f [] = Some []
and_more f (t ∷ ts) = if is_word (codes "and") t then f ts else None

-- `COND {and COND}`, no more of them than the first list has tokens
unfoldable pub conditions_within : List Token → List Token → Option (List Condition)
conditions_within [] ts = None
conditions_within (b ∷ bs) ts = do
  condition ← condition_at ts
  option_map (λ more. condition.0 ∷ more) (and_more (conditions_within bs) condition.1)

-- `COND {and COND}`: a condition has a token at least
abbrev pub conditions_of : List Token → Option (List Condition)
conditions_of ts = conditions_within ts ts

-- that the bound leaves nothing out: after a condition stands nothing, or an `and` and such a list
-- again
abbrev pub IsJoined : List Token → Type 0
IsJoined ts = conditions_of ts ≡ (condition_at ts >>= λ x. option_map (λ more. x.0 ∷ more) (and_more conditions_of x.1))

-- `[where COND {and COND}]`
abbrev pub optional_conditions_of : List Token → Option (List Condition)
optional_conditions_of [] = Some []
optional_conditions_of (t ∷ ts) = if is_word (codes "where") t then conditions_of ts else None

-- `select COLUMN {, COLUMN} from TABLE [where COND {and COND}]`, or `*` for the columns
unfoldable pub selection_of : List Token → Option Selection
selection_of ts = do
  select ← after_first (is_word (codes "select")) ts
  columns ← selected_at select
  from ← after_first (is_word (codes "from")) columns.1
  table ← first_by name_in from
  conditions ← optional_conditions_of table.1
  Some (record { table = table.0; columns = columns.0; conditions = conditions })

-- `query SERVER at M: SELECTION`
unfoldable pub query_of : List Token → Option Command
query_of ts = do
  server ← name_at_moment ts
  behind ← after_first (is_mark mark.Colon) server.1
  selection ← selection_of behind
  Some (command.Query server.0.0 server.0.1 selection)

-- `forge SERVER version V granted G until U`
unfoldable pub forge_of : List Token → Option Command
forge_of ts = do
  server ← first_by name_in ts
  version_at ← after_first (is_word (codes "version")) server.1
  version ← first_by count_in version_at
  granted_at ← after_first (is_word (codes "granted")) version.1
  granted ← first_by count_in granted_at
  until_at ← after_first (is_word (codes "until")) granted.1
  until ← first_by count_in until_at
  at_end (command.Forge server.0 version.0 granted.0 until.0) until.1

-- `piece WORK of TABLE.NAME N limit K`
unfoldable pub piece_of : List Token → Option Command
piece_of ts = do
  name ← first_by name_in ts
  behind ← after_first (is_word (codes "of")) name.1
  element ← element_at behind
  piece ← first_by small_count_in element.1
  limit_at ← after_first (is_word (codes "limit")) piece.1
  limit ← first_by small_count_in limit_at
  at_end (command.Piece name.0 element.0 piece.0 limit.0) limit.1

-- `at M`, and the tokens after it
unfoldable pub moment_at : List Token → Option (ℕ × List Token)
moment_at ts = do
  behind ← after_first (is_word (codes "at")) ts
  first_by count_in behind

-- `publish at M: MOVE {; MOVE}`
unfoldable pub publish_of : List Token → Option Command
publish_of ts = do
  moment ← moment_at ts
  behind ← after_first (is_mark mark.Colon) moment.1
  moves ← each_between mark.Semicolon move_of behind
  Some (command.Publish moment.0 moves)

-- `plan: CHANGE {; CHANGE}`
unfoldable pub plan_of : List Token → Option Command
plan_of ts = do
  behind ← after_first (is_mark mark.Colon) ts
  changes ← each_between mark.Semicolon change_of behind
  Some (command.Plan changes)

-- `next at M`
unfoldable pub next_of : List Token → Option Command
next_of ts = do
  moment ← moment_at ts
  at_end (command.Next moment.0) moment.1

-- `TABLE.NAME at M`, and the tokens after it
unfoldable pub element_at_moment : List Token → Option ((ElementName × ℕ) × List Token)
element_at_moment ts = do
  element ← element_at ts
  moment ← moment_at element.1
  Some ((element.0, moment.0), moment.1)

-- `reorganise TABLE.NAME at M pieces N`
unfoldable pub reorganise_of : List Token → Option Command
reorganise_of ts = do
  element ← element_at_moment ts
  behind ← after_first (is_word (codes "pieces")) element.1
  pieces ← first_by small_count_in behind
  at_end (command.Reorganise element.0.0 element.0.1 pieces.0) pieces.1

-- `work TABLE.NAME at M limit K`
unfoldable pub work_of : List Token → Option Command
work_of ts = do
  element ← element_at_moment ts
  behind ← after_first (is_word (codes "limit")) element.1
  limit ← first_by small_count_in behind
  at_end (command.Work element.0.0 element.0.1 limit.0) limit.1

-- a command on the schema or on the work that a change of it needs, by its first word
unfoldable pub schema_command_of : List Token → Option Command
schema_command_of [] = None
schema_command_of (t ∷ ts) =
    if is_word (codes "forge") t then forge_of ts
    else (if is_word (codes "piece") t then piece_of ts
    else (if is_word (codes "publish") t then publish_of ts
    else (if is_word (codes "plan") t then plan_of ts
    else (if is_word (codes "next") t then next_of ts
    else (if is_word (codes "reorganise") t then reorganise_of ts
    else (if is_word (codes "work") t then work_of ts
    else (if is_word (codes "status") t then at_end command.Status ts
    else None)))))))

-- a command, by its first word
unfoldable pub command_of : List Token → Option Command
command_of [] = None
command_of (t ∷ ts) =
    if is_word (codes "length") t then length_of ts
    else (if is_word (codes "table") t then table_of ts
    else (if is_word (codes "index") t then index_of ts
    else (if is_word (codes "open") t then at_end command.Open ts
    else (if is_word (codes "lease") t then lease_of ts
    else (if is_word (codes "txn") t then txn_of ts
    else (if is_word (codes "pairs") t then at_end command.Pairs ts
    else (if is_word (codes "check") t then at_end command.Check ts
    else (if is_word (codes "log") t then at_end command.Log ts
    else (if is_word (codes "prepare") t then prepare_of ts
    else (if is_word (codes "commit") t then commit_of ts
    else (if is_word (codes "query") t then query_of ts
    else schema_command_of (t ∷ ts))))))))))))

-- what is parsed, or a bad line
abbrev pub or_malformed : {A : Type 0} → Option A → Result A LineFault
or_malformed None = Err Malformed
or_malformed (Some x) = Ok x

-- the command that the bytes of a line parse to
abbrev pub command_at : List ℕ → Result Command LineFault
command_at line = or_malformed (option_and_then command_of (tokens_of line))
