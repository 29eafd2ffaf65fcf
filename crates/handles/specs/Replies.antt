-- Cited by the contracts of cagzhomul_reply_to and cagzhomul_repeat.
-- The statuses of lines that have their replies, and of entries that were to be repeated.
use Rattle.std.specs.Prelude.{ℤ, Bool, true, false, Result, Ok, Err}
use Rattle.typed_calls.specs.Receipt.{Receipt}
use Rattle.replica.specs.declared.fault.RepeatFault.{RepeatFault}
use Rattle.replica.specs.declared.fault.RepeatFault.TheVariants.{NotNext, Memory}
use Rattle.typed_calls.specs.Statuses.{ok, bad_line, not_next, out_of_memory}

-- the status of a line that has its reply
abbrev pub reply_status : Bool → ℤ
reply_status true = bad_line
reply_status false = ok

-- the status of an entry that was to be repeated
abbrev pub repeat_status : Result Receipt RepeatFault → ℤ
repeat_status (Ok receipt) = ok
repeat_status (Err NotNext) = not_next
repeat_status (Err Memory) = out_of_memory
