-- Cited by the contracts of status_of.
-- The exit status after a command line that chooses nothing.
use Rattle.std.specs.Prelude.{ℕ}
use Rattle.clap.specs.declared.error.kind.ErrorKind.{ErrorKind}
use Rattle.clap.specs.declared.error.kind.ErrorKind.TheVariants.{DisplayHelp, DisplayVersion, OutOfMemory}

-- 0 where help was asked for, 5 when out of memory, and 2 for what is refused.
abbrev pub status_after : ErrorKind → ℕ
status_after DisplayHelp = 0
status_after DisplayVersion = 0
status_after OutOfMemory = 5
status_after _ = 2
