-- Cited by the contracts of unprepared_line, committed_line, rejected_line.
-- What a script prints of a transaction.
use Rattle.std.specs.Prelude.{ℕ, List, codes, ◌++◌}
use Rattle.std.specs.Fmt.{decimal}
use Rattle.script_grammar.specs.Print.{hex}
use Rattle.row_write.specs.declared.fault.PrepareFault.{PrepareFault}
use Rattle.row_write.specs.declared.fault.PrepareFault.TheVariants as prepare
use Rattle.row_write.specs.declared.fault.RowFault.{RowFault}
use Rattle.row_write.specs.declared.fault.RowFault.TheVariants.{Duplicate, NoRow}
use Rattle.piece_work.specs.Committed.{Committed}
use Rattle.piece_work.specs.Committed.TheVariants as committed
use Rattle.piece_work.specs.CommitFault.{CommitFault}
use Rattle.piece_work.specs.CommitFault.TheVariants as commit

abbrev pub prepare_name : PrepareFault → List ℕ
prepare_name prepare.NoTable = codes "NoTable"
prepare_name (prepare.NotPublic column) = codes "NotPublic " ++ decimal column
prepare_name prepare.WrongType = codes "WrongType"
prepare_name prepare.TooManyOps = codes "TooManyOps"
prepare_name prepare.ViewMismatch = codes "ViewMismatch"
prepare_name prepare.Memory = codes "Memory"

abbrev pub commit_name : CommitFault → List ℕ
commit_name commit.MomentTooLarge = codes "MomentTooLarge"
commit_name commit.BadLease = codes "BadLease"
commit_name (commit.LeaseEnded until now) = codes "LeaseEnded " ++ decimal until ++ codes " " ++ decimal now
commit_name commit.WrongSchema = codes "WrongSchema"
commit_name (commit.Conflict key) = codes "Conflict " ++ hex key
commit_name commit.Memory = codes "Memory"

abbrev pub row_name : RowFault → List ℕ
row_name Duplicate = codes "Duplicate"
row_name NoRow = codes "NoRow"

-- `ok done PLACE`, or `ok refused OPERATION REASON`
abbrev pub committed_text : Committed → List ℕ
committed_text (committed.Done receipt) = codes "ok done " ++ decimal receipt.place
committed_text (committed.Refused op why) = codes "ok refused " ++ decimal op ++ codes " " ++ row_name why
