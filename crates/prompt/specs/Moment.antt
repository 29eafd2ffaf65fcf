-- Cited by the contracts of is_foreign, given_line and the functions below it, and by the definitions of Conversation.
-- Lines whose moment was left out.
use Rattle.std.specs.Prelude.{◌≡◌, ◌⊎◌, ◌++◌, ◌∷◌, ◌==◌, ◌||◌, ℕ, List, [], Option, Some, None, Err, Bool, false, codes, is_ok, if◌then◌else◌}
use Rattle.std.specs.Fmt.{decimal}
use Rattle.std.specs.List.{before_first}
use Rattle.std.specs.Str.{bytes_eq}
use Rattle.std.specs.Str.Pattern.{FindsText, SplitsAroundMatch}
use Rattle.script_grammar.specs.Commands.{command_at}
use Rattle.script_grammar.specs.Silent.{is_silent}
use Rattle.script_json.specs.Session.{Session}
use Rattle.script_json.specs.SessionVariants.TheVariants.{Declaring, Running}
use Rattle.script_tokens.specs.declared.fault.LineFault.TheVariants.{Malformed}
use Rattle.script_json.specs.State.{facts_of}

-- no line of a script: neither a command nor silent
abbrev pub IsForeign : List ℕ → Type 0
IsForeign line = (is_silent line ≡ false) × (command_at line ≡ Err Malformed)

abbrev pub is_command : List ℕ → Bool
is_command line = is_ok (command_at line)

-- the moment of the last entry of the log
abbrev pub last_moment : Session → ℕ
last_moment (Declaring d) = 0
last_moment (Running r) = (facts_of r.world).moment

-- what a line has before its first space
abbrev pub first_word : List ℕ → List ℕ
first_word line = before_first (λ b. b == 32) line

-- The mark before which a line with this first word has its moment; an empty one is the end of the line.
abbrev pub moment_mark : List ℕ → Option (List ℕ)
moment_mark word =
    if bytes_eq word (codes "lease") || bytes_eq word (codes "commit") || bytes_eq word (codes "next") then Some []
    else (if bytes_eq word (codes "txn") || bytes_eq word (codes "query") || bytes_eq word (codes "publish") || bytes_eq word (codes "publish:") then Some (codes ":")
    else (if bytes_eq word (codes "reorganise") then Some (codes " pieces")
    else (if bytes_eq word (codes "work") then Some (codes " limit")
    else None)))

-- The line at the place of its moment: what is before it, the first such mark, and the rest. None, if the line has no such mark.
abbrev pub IsCutAt : Option (List ℕ) → List ℕ → Option (List ℕ × (List ℕ × List ℕ)) → Type 0
IsCutAt None line cut = cut ≡ None
IsCutAt (Some []) line cut = cut ≡ Some (line, ([], []))
IsCutAt (Some (b ∷ bs)) line None = FindsText (b ∷ bs) line None
IsCutAt (Some (b ∷ bs)) line (Some cut) = (cut.1.0 ≡ b ∷ bs) × SplitsAroundMatch (FindsText (b ∷ bs)) line cut.0 cut.1.1

-- a text that is a command, or else the line
abbrev pub command_or : List ℕ → List ℕ → List ℕ
command_or line text = if is_command text then text else line

-- the line with this moment put in, if that is a command, and else the line
abbrev pub with_moment : ℕ → List ℕ → Option (List ℕ × (List ℕ × List ℕ)) → List ℕ
with_moment moment line None = line
with_moment moment line (Some cut) = command_or line (cut.0 ++ (codes " at " ++ decimal moment) ++ cut.1.0 ++ cut.1.1)

-- What the session is given for a line: a line of a script as it is, and any other one with the last moment put in, if it is a command then.
abbrev pub IsGiven : Session → List ℕ → List ℕ → Type 0
IsGiven session line given =
    ((IsForeign line → ⊥) × (given ≡ line))
    ⊎ (IsForeign line × ((cut : Option (List ℕ × (List ℕ × List ℕ))) × IsCutAt (moment_mark (first_word line)) line cut × (given ≡ with_moment (last_moment session) line cut)))
