-- Cited by the definitions of Plans.
-- How the steps of a plan are printed, a line each.
use Rattle.std.specs.Prelude.{ℕ, ◌+◌, List, [], ◌∷◌, ◌++◌, Option, Some, None, codes}
use Rattle.std.specs.Fmt.{decimal}
use Rattle.std.specs.List.{join_by}
use mathlib.Core.List.{map as each}
use Rattle.script_grammar.specs.Print.{state_word}
use Rattle.schema_version.specs.declared.element.ElementDef.{ElementDef}
use Rattle.schema_version.specs.declared.step.Move.{Move}
use Rattle.schema_version.specs.declared.step.Move.TheVariants.{Enter, Go, Turn}
use Rattle.schema_version.specs.Version.{Version, Table, table_at, element_at}
use Rattle.schema_version.specs.Moves.{after_step}
use Rattle.change_plan.specs.declared.least_plan.Reorg.{Reorg}
use Rattle.change_plan.specs.declared.least_plan.Reorg.TheVariants.{Fill, Clear}
use Rattle.change_plan.specs.declared.least_plan.PlanStep.{PlanStep}

-- a table that isn't there has the empty name
abbrev pub name_or_empty : Option Table → List ℕ
name_or_empty None = []
name_or_empty (Some table) = table.name

-- `TABLE.ELEMENT`
abbrev pub dotted : Version → ℕ → List ℕ → List ℕ
dotted version table name = name_or_empty (table_at version table) ++ codes "." ++ name

-- an element that isn't there has the empty name
abbrev pub dotted_or_empty : Version → Option ElementDef → List ℕ
dotted_or_empty version None = []
dotted_or_empty version (Some element) = dotted version element.table element.name

-- the live element of this number
abbrev pub element_text : Version → ℕ → List ℕ
element_text version number = dotted_or_empty version (element_at version number)

-- `fill TABLE.ELEMENT` or `clear TABLE.ELEMENT`
abbrev pub reorg_text : Version → Reorg → List ℕ
reorg_text version (Fill number) = codes "fill " ++ element_text version number
reorg_text version (Clear number) = codes "clear " ++ element_text version number

-- `TABLE.ELEMENT STATE`, or `TABLE.ELEMENT dropping` of a turn
abbrev pub move_text : Version → Move → List ℕ
move_text version (Enter fresh to) = dotted version fresh.table fresh.name ++ codes " " ++ state_word to
move_text version (Go number to) = element_text version number ++ codes " " ++ state_word to
move_text version (Turn number) = element_text version number ++ codes " " ++ codes "dropping"

-- the reorganisations that stand before the step, and then its moves
abbrev pub item_texts : Version → PlanStep → List (List ℕ)
item_texts version step = each (reorg_text version) step.before ++ each (move_text version) step.step

-- the texts in a row, with a comma between each two
abbrev pub joined : List (List ℕ) → List ℕ
joined texts = join_by (λ text. text) (codes ", ") texts

-- `step NUMBER: ITEM, ITEM` and the end of the line
abbrev pub step_line : Version → ℕ → PlanStep → List ℕ
step_line version number step = codes "step " ++ decimal number ++ codes ": " ++ joined (item_texts version step) ++ 10 ∷ []

-- a line for each step, numbered on from this number; each names the elements of the version that the steps before it give
abbrev pub plan_lines : Version → ℕ → List PlanStep → List ℕ
plan_lines version number [] = []
plan_lines version number (first ∷ rest) = step_line version number first ++ plan_lines (after_step version first.step) (number + 1) rest
