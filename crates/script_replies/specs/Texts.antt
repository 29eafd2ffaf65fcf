-- Cited by the contracts of open_refusal, grant_refusal, lease_line, push_numbered and 14 more.
-- The words of replies.
use Rattle.std.specs.Prelude.{ℕ, List, [], ◌∷◌, ◌++◌, codes, length}
use Rattle.std.specs.Fmt.{decimal}
use Rattle.std.specs.List.{flat_map}
use Rattle.audit.specs.declared.report.CheckReport.{CheckReport}
use Rattle.script_grammar.specs.Print.{hex}
use Rattle.lease.specs.declared.lease.Lease.{Lease}
use Rattle.row_map.specs.Rows.{Bytes}
use Rattle.piece_work.specs.OpenFault.{OpenFault}
use Rattle.piece_work.specs.OpenFault.TheVariants as open_fault
use Rattle.piece_work.specs.GrantFault.{GrantFault}
use Rattle.piece_work.specs.GrantFault.TheVariants as grant_fault

-- a line of a reply
abbrev pub line : List ℕ → List ℕ
line text = text ++ 10 ∷ []

abbrev pub bad_line : List ℕ
bad_line = line (codes "bad line")

-- a refusal by its name
abbrev pub refused : List ℕ → List ℕ
refused name = codes "refused " ++ name

abbrev pub open_name : OpenFault → List ℕ
open_name open_fault.BadTable = codes "BadTable"
open_name open_fault.BadLength = codes "BadLength"
open_name open_fault.Memory = codes "Memory"

abbrev pub grant_name : GrantFault → List ℕ
grant_name grant_fault.MomentTooLarge = codes "MomentTooLarge"
grant_name grant_fault.Memory = codes "Memory"

-- `ok lease VERSION GRANTED UNTIL`
abbrev pub leased : Lease → List ℕ
leased lease = codes "ok lease " ++ decimal lease.version ++ codes " " ++ decimal lease.granted ++ codes " " ++ decimal lease.until

-- a value that isn't empty stands after its key
abbrev pub value_behind : Bytes → List ℕ
value_behind [] = []
value_behind (b ∷ bs) = codes " = " ++ hex (b ∷ bs)

-- `KEY` or `KEY = VALUE`
abbrev pub pair_line : Bytes × Bytes → List ℕ
pair_line pair = line (hex pair.0 ++ value_behind pair.1)

-- all pairs, and their number
abbrev pub pairs_text : List (Bytes × Bytes) → List ℕ
pairs_text pairs = flat_map pair_line pairs ++ line (codes "ok pairs " ++ decimal (length pairs))

-- `ok rows R missing M extra X`
abbrev pub check_text : CheckReport → List ℕ
check_text report = codes "ok rows " ++ decimal report.rows ++ codes " missing " ++ decimal report.missing ++ codes " extra " ++ decimal report.extra
