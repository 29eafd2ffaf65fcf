-- Cited by the contracts of is_undo, take_back, keep_declared and of the functions below them, and by the definitions of Conversation.
-- The declarations before `open`, and the line `undo`, which takes the last of them back.
use Rattle.std.specs.Prelude.{◌≡◌, ℕ, List, [], ◌∷◌, ◌++◌, Option, Some, None, Result, Ok, Err, Bool, true, false, codes}
use Rattle.script_grammar.specs.Commands.{command_at}
use Rattle.script_grammar.specs.declared.command.Command.{Command}
use Rattle.script_grammar.specs.declared.command.Command.TheVariants as command
use Rattle.script_json.specs.Replies.{Reply}
use Rattle.script_json.specs.Session.{Session, empty}
use Rattle.script_json.specs.SessionVariants.TheVariants.{Declaring, Running}
use Rattle.script_tokens.specs.declared.fault.LineFault.{LineFault}
use Rattle.script_tokens.specs.Tokens.{tokens_of}
use Rattle.prompt.specs.Alone.{is_alone}
use Rattle.prompt.specs.declared.state.PromptState.{PromptState}
use Rattle.prompt.specs.declared.undo.Effect.{Effect}
use Rattle.prompt.specs.declared.undo.Effect.TheVariants.{Adds, Forgets, Keeps}

-- the word `undo` alone
abbrev pub is_undo : List ℕ → Bool
is_undo line = is_alone (codes "undo") (tokens_of line)

-- what a good line does to the declarations: `length`, `table` and `index` are one more, and `open` forgets them
abbrev pub effect_of : Command → Effect
effect_of (command.Length length) = Adds
effect_of (command.Table name key columns) = Adds
effect_of (command.Index name table columns) = Adds
effect_of command.Open = Forgets
effect_of _ = Keeps

abbrev pub line_effect : Result Command LineFault → Effect
line_effect (Ok command) = effect_of command
line_effect (Err fault) = Keeps

abbrev pub declared_by : List (List ℕ) → List ℕ → Effect → List (List ℕ)
declared_by declared line Adds = declared ++ line ∷ []
declared_by declared line Forgets = []
declared_by declared line Keeps = declared

-- the declarations after a line that left this session
abbrev pub declared_after : Session → List (List ℕ) → List ℕ → Bool → List (List ℕ)
declared_after (Running r) declared line bad = []
declared_after (Declaring d) declared line true = declared
declared_after (Declaring d) declared line false = declared_by declared line (line_effect (command_at line))

-- From old, these lines may be given replies in turn that leave new.
abbrev pub AreReplied : Session → List (List ℕ) → Session → Type 0
AreReplied old [] new = new ≡ old
AreReplied old (line ∷ lines) new = (reply : List ℕ) × (bad : Bool) × (mid : Session) × Reply old line reply bad mid × AreReplied mid lines new

-- The last declaration is taken back: the session is that of the others, in turn. Without one nothing changes.
abbrev pub TakesBack : PromptState → Option (List ℕ) → PromptState → Type 0
TakesBack old None new = (old.declared ≡ []) × (new ≡ old)
TakesBack old (Some last) new = (old.declared ≡ new.declared ++ last ∷ []) × AreReplied empty new.declared new.session
