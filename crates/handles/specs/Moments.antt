-- Cited by the contracts of cagzhomul_reply_to and of what it calls.
-- The moment that a line names.
use Rattle.std.specs.Prelude.{ℕ, List, length, Option, Some, None, Result, Ok, Err, Bool, false, nat_lt, nat_eq, if◌then◌else◌}
use Rattle.script_grammar.specs.Commands.{command_at}
use Rattle.script_grammar.specs.declared.command.Command.{Command}
use Rattle.script_grammar.specs.declared.command.Command.TheVariants as command
use Rattle.script_tokens.specs.declared.fault.LineFault.{LineFault}
use Rattle.typed_calls.specs.Bounded.{is_too_far}
use Rattle.typed_calls.specs.Replies.{max_line}
use Rattle.typed_calls.specs.declared.bounded.BoundedWorld.{BoundedWorld}

-- a furthest jump by which no moment is too far
abbrev pub any_jump : ℕ
any_jump = 18446744073709551615

-- the moment of a command that is made at one
abbrev pub command_moment : Command → Option ℕ
command_moment (command.Lease server moment) = Some moment
command_moment (command.Txn server moment operations) = Some moment
command_moment (command.Commit name moment) = Some moment
command_moment (command.Query server moment selection) = Some moment
command_moment (command.Publish moment moves) = Some moment
command_moment (command.Next moment) = Some moment
command_moment (command.Reorganise element moment pieces) = Some moment
command_moment (command.Work element moment limit) = Some moment
command_moment _ = None

abbrev pub parsed_moment : Result Command LineFault → Option ℕ
parsed_moment (Ok command) = command_moment command
parsed_moment (Err fault) = None

-- the moment that a line names; one that is too long is no command, whatever it holds
abbrev pub line_moment : List ℕ → Option ℕ
line_moment line = if nat_lt max_line (length line) then None else parsed_moment (command_at line)

abbrev pub is_named_too_far : BoundedWorld → Option ℕ → Bool
is_named_too_far bounded None = false
is_named_too_far bounded (Some moment) = is_too_far bounded moment

-- the line names a moment that is too far
abbrev pub is_line_too_far : BoundedWorld → List ℕ → Bool
is_line_too_far bounded line = if nat_eq bounded.furthest any_jump then false else is_named_too_far bounded (line_moment line)
