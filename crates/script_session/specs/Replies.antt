-- Cited by the contracts of Session::reply_to.
-- The reply to a line.
use Rattle.std.specs.Prelude.{◌≡◌, ℕ, List, [], length, Result, Ok, Err, Bool, false, nat_lt}
use Rattle.std.specs.Bool.{MatchBool}
use Rattle.script_grammar.specs.declared.command.Command.{Command}
use Rattle.script_tokens.specs.declared.fault.LineFault.{LineFault}
use Rattle.script_grammar.specs.Commands.{command_at}
use Rattle.script_grammar.specs.Silent.{is_silent}
use Rattle.script_session.specs.declared.session.Session.TheVariants.{Declaring, Running}
use Rattle.script_session.specs.Session.{Session}
use Rattle.script_session.specs.Declare.{IsBad, Declares}
use Rattle.script_session.specs.Answer.{Answers}

-- `Performs old command reply bad new`: the command may give this reply, which says whether the line is bad, and leave new
abbrev pub Performs : Session → Command → List ℕ → Bool → Session → Type 0
Performs (Declaring d) command reply bad new = Declares d command reply bad new
Performs (Running r) command reply bad new = Answers r command reply bad new

abbrev pub Parsed : Session → Result Command LineFault → List ℕ → Bool → Session → Type 0
Parsed old (Err fault) reply bad new = IsBad old reply bad new
Parsed old (Ok command) reply bad new = Performs old command reply bad new

abbrev pub max_line : ℕ
max_line = 65536

-- The line may be given this reply, which says whether it is a bad line, and leave new. A line that is too long is bad whatever it holds.
abbrev pub Reply : Session → List ℕ → List ℕ → Bool → Session → Type 0
Reply old text reply bad new =
    MatchBool (nat_lt max_line (length text)) (IsBad old reply bad new)
    (MatchBool (is_silent text) ((reply ≡ []) × (bad ≡ false) × (new ≡ old)) (Parsed old (command_at text) reply bad new))
