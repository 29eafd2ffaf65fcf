-- Cited by the contracts of work_word, begun_line, worked_line.
-- What a script prints of the begin of a reorganisation, and of one that is run to its end.
use Rattle.std.specs.Prelude.{ℕ, List, ◌++◌, Option, Some, None, Result, Ok, Err, codes}
use Rattle.std.specs.Option.{option_and_then}
use Rattle.std.specs.Fmt.{decimal}
use Rattle.schema_version.specs.declared.element.ElementDef.{ElementDef}
use Rattle.schema_version.specs.declared.element.Work.{Work}
use Rattle.schema_version.specs.declared.element.Work.TheVariants.{Fill, Clear}
use Rattle.schema_version.specs.Edges.{wanted_work}
use Rattle.schema_version.specs.Version.{Version, element_at}
use Rattle.piece_work.specs.Receipt.{Receipt}
use Rattle.piece_work.specs.BeginFault.{BeginFault}
use Rattle.piece_work.specs.BeginFault.TheVariants as begin_fault
use Rattle.piece_work.specs.declared.fault.WorkFault.{WorkFault}
use Rattle.piece_work.specs.declared.fault.WorkFault.TheVariants as work_fault
use Rattle.script_replies.specs.Pieces.{read_name, piece_name}
use Rattle.script_replies.specs.Texts.{refused}

abbrev pub begin_name : BeginFault → List ℕ
begin_name begin_fault.MomentTooLarge = codes "MomentTooLarge"
begin_name begin_fault.NotWanted = codes "NotWanted"
begin_name (begin_fault.StillUsed until) = codes "StillUsed " ++ decimal until
begin_name begin_fault.Begun = codes "Begun"
begin_name begin_fault.BadCount = codes "BadCount"
begin_name begin_fault.Memory = codes "Memory"

-- the word for what an element wants; none is ever begun that wants nothing
abbrev pub want_word : Option Work → List ℕ
want_word (Some Fill) = codes "fill"
want_word (Some Clear) = codes "clear"
want_word None = codes "clear"

abbrev pub work_word : Option ElementDef → List ℕ
work_word element = want_word (option_and_then wanted_work element)

-- `ok begun fill PIECES` or `ok begun clear PIECES`
abbrev pub begun_words : List ℕ → ℕ → Result Receipt BeginFault → List ℕ
begun_words word pieces (Ok receipt) = codes "ok begun " ++ word ++ codes " " ++ decimal pieces
begun_words word pieces (Err fault) = refused (begin_name fault)

abbrev pub begun_text : Version → ℕ → ℕ → Result Receipt BeginFault → List ℕ
begun_text version number = begun_words (work_word (element_at version number))

-- ---- working it off

-- a refusal of a piece is reported by its own name
abbrev pub work_name : WorkFault → List ℕ
work_name (work_fault.Read fault) = read_name fault
work_name (work_fault.Commit fault) = piece_name fault
work_name work_fault.Memory = codes "Memory"

-- `ok work COMMITS`
abbrev pub worked_text : Result ℕ WorkFault → List ℕ
worked_text (Ok commits) = codes "ok work " ++ decimal commits
worked_text (Err fault) = refused (work_name fault)
