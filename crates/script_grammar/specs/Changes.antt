-- Cited by the contracts of NamedMove, NamedChange.
-- The productions of changes to the schema: elements, what is to enter, named moves and named changes, read whole unless a name ends in `_at`.
use Rattle.std.specs.Prelude.{ℕ, List, [], ◌∷◌, Option, Some, None, if◌then◌else◌, codes}
use Rattle.std.specs.Option.{option_map}
use Rattle.keycode.specs.declared.value.Value.{Value}
use Rattle.schema_version.specs.declared.element.ElementState.{ElementState}
use Rattle.schema_version.specs.declared.element.ElementState.TheVariants.{DeleteOnly}
use Rattle.script_tokens.specs.declared.token.Token.{Token}
use Rattle.script_tokens.specs.declared.token.Mark.TheVariants as mark
use Rattle.script_grammar.specs.declared.element.ElementName.{ElementName}
use Rattle.script_grammar.specs.declared.element.New.{New}
use Rattle.script_grammar.specs.declared.element.New.TheVariants.{Index, Column}
use Rattle.script_grammar.specs.declared.named.NamedMove.{NamedMove}
use Rattle.script_grammar.specs.declared.named.NamedMove.TheVariants.{Enter, Go, Turn}
use Rattle.script_grammar.specs.declared.named.NamedChange.{NamedChange}
use Rattle.script_grammar.specs.declared.named.NamedChange.TheVariants.{Add, DropIndex, DropColumn, Abandon}
use Rattle.script_tokens.specs.Productions.{◌>>=◌, first_by, after_first, at_end, is_mark, is_word, name_in, type_in, value_in, state_in, cut_brackets, each_between, name_of}

-- `TABLE.NAME`, and the tokens after it
unfoldable pub element_at : List Token → Option (ElementName × List Token)
element_at ts = do
  table ← first_by name_in ts
  behind ← after_first (is_mark mark.Dot) table.1
  name ← first_by name_in behind
  Some (record { table = table.0; name = name.0 }, name.1)

-- `TABLE.NAME`
unfoldable pub element_of : List Token → Option ElementName
element_of ts = do
  element ← element_at ts
  at_end element.0 element.1

-- `on TABLE`, and the tokens after it
unfoldable pub on_table_at : List Token → Option (List ℕ × List Token)
on_table_at ts = do
  behind ← after_first (is_word (codes "on")) ts
  first_by name_in behind

-- `NAME on TABLE`, and the tokens after it
unfoldable pub named_on_at : List Token → Option (ElementName × List Token)
named_on_at ts = do
  name ← first_by name_in ts
  table ← on_table_at name.1
  Some (record { table = table.0; name = name.0 }, table.1)

-- `NAME on TABLE`
unfoldable pub named_on : List Token → Option ElementName
named_on ts = do
  element ← named_on_at ts
  at_end element.0 element.1

-- an index and its columns, `NAME on TABLE ( COLUMN {, COLUMN} )`, and the tokens after it
unfoldable pub index_at : List Token → Option ((ElementName × List (List ℕ)) × List Token)
index_at ts = do
  index ← named_on_at ts
  inner ← cut_brackets index.1
  columns ← each_between mark.Comma name_of inner.0
  Some ((index.0, columns), inner.1)

-- an index, after `index`, and the tokens after it
unfoldable pub new_index_at : List Token → Option (New × List Token)
new_index_at ts = do
  index ← index_at ts
  Some (Index index.0.0.name index.0.0.table index.0.1, index.1)

-- `[default VALUE]`, and the tokens after it
unfoldable pub default_at : List Token → Option (Option Value × List Token)
default_at [] = Some (None, [])
default_at (t ∷ ts) = if is_word (codes "default") t then option_map (λ x. (Some x.0, x.1)) (first_by value_in ts) else Some (None, t ∷ ts)

-- `NAME TYPE [default VALUE] on TABLE`, after `column`, and the tokens after it
unfoldable pub new_column_at : List Token → Option (New × List Token)
new_column_at ts = do
  name ← first_by name_in ts
  type ← first_by type_in name.1
  fallback ← default_at type.1
  table ← on_table_at fallback.1
  Some (Column name.0 type.0 fallback.0 table.0, table.1)

-- NEW, by its first word, and the tokens after it
unfoldable pub new_at : List Token → Option (New × List Token)
new_at [] = None
new_at (t ∷ ts) =
    if is_word (codes "index") t then new_index_at ts
    else (if is_word (codes "column") t then new_column_at ts
    else None)

-- `to STATE`
unfoldable pub to_state_of : List Token → Option ElementState
to_state_of ts = do
  behind ← after_first (is_word (codes "to")) ts
  state ← first_by state_in behind
  at_end state.0 state.1

-- the same, or nothing, which is delete_only
abbrev pub optional_to_state_of : List Token → Option ElementState
optional_to_state_of [] = Some DeleteOnly
optional_to_state_of (t ∷ ts) = to_state_of (t ∷ ts)

-- `NEW [to STATE]`, after `add`
unfoldable pub enter_of : List Token → Option NamedMove
enter_of ts = do
  fresh ← new_at ts
  to ← optional_to_state_of fresh.1
  Some (Enter fresh.0 to)

-- `TABLE.NAME to STATE`, after `move`
unfoldable pub go_of : List Token → Option NamedMove
go_of ts = do
  element ← element_at ts
  to ← to_state_of element.1
  Some (Go element.0 to)

-- MOVE, by its first word
unfoldable pub move_of : List Token → Option NamedMove
move_of [] = None
move_of (t ∷ ts) =
    if is_word (codes "add") t then enter_of ts
    else (if is_word (codes "move") t then go_of ts
    else (if is_word (codes "turn") t then option_map Turn (element_of ts)
    else None))

-- `NEW`, after `add`
unfoldable pub add_of : List Token → Option NamedChange
add_of ts = do
  fresh ← new_at ts
  at_end (Add fresh.0) fresh.1

-- `index NAME on TABLE` or `column NAME on TABLE`, after `drop`, by its first word
unfoldable pub drop_of : List Token → Option NamedChange
drop_of [] = None
drop_of (t ∷ ts) =
    if is_word (codes "index") t then option_map DropIndex (named_on ts)
    else (if is_word (codes "column") t then option_map DropColumn (named_on ts)
    else None)

-- CHANGE, by its first word
unfoldable pub change_of : List Token → Option NamedChange
change_of [] = None
change_of (t ∷ ts) =
    if is_word (codes "add") t then add_of ts
    else (if is_word (codes "drop") t then drop_of ts
    else (if is_word (codes "abandon") t then option_map Abandon (element_of ts)
    else None))
