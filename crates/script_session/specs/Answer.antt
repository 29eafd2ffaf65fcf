-- Cited by the definitions of Replies.
-- What the lines after `open` do.
use Rattle.std.specs.Prelude.{◌≡◌, ℕ, List, [], ◌∷◌, Option, Some, None, Result, Ok, Err, Bool, false, ◌⊎◌, ◌++◌, codes}
use Rattle.std.specs.FinMap as map
use Rattle.std.specs.Fmt.{decimal}
use Rattle.audit.specs.declared.report.CheckReport.{CheckReport}
use Rattle.script_grammar.specs.declared.command.Command.{Command}
use Rattle.script_grammar.specs.declared.command.Command.TheVariants as command
use Rattle.script_grammar.specs.declared.named.NamedMove.{NamedMove}
use Rattle.script_grammar.specs.declared.operation.Operation.{Operation}
use Rattle.script_grammar.specs.declared.selection.Selection.{Selection}
use Rattle.row_write.specs.Made.{PreparedTxn}
use Rattle.script_replies.specs.Calls.{LeaseStep, CommitStep, IsCheck}
use Rattle.change_plan.specs.declared.change.Change.{Change}
use Rattle.change_plan.specs.declared.fault.PlanFault.{PlanFault}
use Rattle.change_plan.specs.declared.least_plan.LeastPlan.{LeastPlan}
use Rattle.script_replies.specs.WorkFault.{WorkFault}
use Rattle.script_replies.specs.WorkOff.{WorkStep}
use Rattle.reorganise.specs.declared.read.Reading.{Reading}
use Rattle.schema_version.specs.declared.step.Move.{Move}
use Rattle.script_replies.specs.BeginReorg.{BeginStep}
use Rattle.script_replies.specs.Piece.{PieceStep}
use Rattle.script_replies.specs.Publish.{PublishStep}
use Rattle.script_replies.specs.State.{State, entry_count, facts_of}
use Rattle.script_replies.specs.Grant.{Grant}
use Rattle.script_replies.specs.PieceDone.{PieceDone}
use Rattle.script_replies.specs.Receipt.{Receipt}
use Rattle.script_replies.specs.Committed.{Committed}
use Rattle.script_replies.specs.BeginFault.{BeginFault}
use Rattle.script_replies.specs.CommitFault.{CommitFault}
use Rattle.script_replies.specs.GrantFault.{GrantFault}
use Rattle.script_replies.specs.PieceFault.{PieceFault}
use Rattle.script_replies.specs.PublishFault.{PublishFault}
use Rattle.script_session.specs.declared.pieces.PieceRead.{PieceRead}
use Rattle.script_session.specs.declared.pieces.PieceRead.TheVariants as pieces
use Rattle.script_session.specs.declared.session.ServerLease.{ServerLease}
use Rattle.script_session.specs.declared.session.Pending.{Pending}
use Rattle.script_session.specs.declared.session.Pending.TheVariants.{Txn, Piece}
use Rattle.script_session.specs.declared.session.Opened.{Opened}
use Rattle.script_session.specs.declared.session.Session.TheVariants.{Running}
use Rattle.script_session.specs.declared.prepare.Preparation.{Preparation}
use Rattle.script_session.specs.declared.prepare.Preparation.TheVariants.{Ready, Unprepared, OutOfMemory}
use Rattle.script_session.specs.declared.txn.Transacted.{Transacted}
use Rattle.script_session.specs.Session.{Session}
use Rattle.script_session.specs.Declare.{IsReply, IsBad}
use Rattle.script_names.specs.Names.{resolved_all, asked, numbered}
use Rattle.script_replies.specs.Texts.{line, refused, grant_name, leased, pairs_text, check_text}
use Rattle.script_session.specs.Prepare.{Prepares, prepared_text}
use Rattle.script_session.specs.Forge.{Forged}
use Rattle.script_names.specs.Changes.{changes_of}
use Rattle.script_names.specs.Moves.{step_of}
use Rattle.script_replies.specs.Pieces.{piece_name, piece_text}
use Rattle.script_session.specs.Pieces.{ReadsPiece, read_text}
use Rattle.script_replies.specs.Publications.{published_text}
use Rattle.script_replies.specs.Plans.{planned_text}
use Rattle.script_session.specs.Plan.{IsPlanOf, kept_plan, left_of}
use Rattle.script_replies.specs.Reorganisations.{begun_text, worked_text}
use Rattle.script_replies.specs.Status.{IsStatus}
use Rattle.script_session.specs.Query.{Queried}
use Rattle.script_replies.specs.Transactions.{committed_text, commit_name}
use Rattle.script_session.specs.Txn.{Transacts, transacted_text}

-- a refused lease leaves the server's old one
abbrev pub Leased : Opened → List ℕ → Result Grant GrantFault → State → List ℕ → Bool → Session → Type 0
Leased old server (Ok given) world reply bad new =
    IsReply (leased given.lease) reply bad × (new ≡ Running (record old { world = world; leases = map.insert old.leases server (record { lease = given.lease; schema = given.schema }) }))
Leased old server (Err fault) world reply bad new = IsReply (refused (grant_name fault)) reply bad × (new ≡ Running old)

-- a transaction under the server's lease, where it has one
abbrev pub TxnUnder : Opened → Option ServerLease → ℕ → List Operation → List ℕ → Bool → Session → Type 0
TxnUnder old None moment operations reply bad new = IsReply (refused (codes "NoServer")) reply bad × (new ≡ Running old)
TxnUnder old (Some held) moment operations reply bad new =
    (how : Transacted) × (world : State) × Transacts old.world held moment (resolved_all held.schema operations) how world
    × IsReply (transacted_text how) reply bad × (new ≡ Running (record old { world = world }))

-- this is kept under the name, in place of what was kept there
abbrev pub kept : Opened → List ℕ → Pending → Opened
kept old name prepared = record old { pending = map.insert old.pending name prepared }

-- what was prepared is kept under its name
abbrev pub kept_after : Opened → List ℕ → Preparation → Opened
kept_after old name (Ready prepared) = kept old name (Txn prepared)
kept_after old name (Unprepared fault) = old
kept_after old name OutOfMemory = old

-- a preparation under the server's lease, where it has one
abbrev pub PrepareUnder : Opened → Option ServerLease → List ℕ → List Operation → List ℕ → Bool → Session → Type 0
PrepareUnder old None name operations reply bad new = IsReply (refused (codes "NoServer")) reply bad × (new ≡ Running old)
PrepareUnder old (Some held) name operations reply bad new =
    (how : Preparation) × Prepares old.world held (resolved_all held.schema operations) how
    × IsReply (prepared_text how) reply bad × (new ≡ Running (kept_after old name how))

-- what stands after what is spent
abbrev pub taken : Opened → List ℕ → Opened
taken old name = record old { pending = map.remove old.pending name }

-- a transaction is spent where the world accepts it or its rows refuse it, and else stays
abbrev pub TxnLeaves : Opened → List ℕ → Result Committed (CommitFault × PreparedTxn) → State → List ℕ → Bool → Session → Type 0
TxnLeaves old name (Ok done) world reply bad new = IsReply (committed_text done) reply bad × (new ≡ Running (record (taken old name) { world = world }))
TxnLeaves old name (Err refusal) world reply bad new = IsReply (refused (commit_name refusal.0)) reply bad × (new ≡ Running old)

abbrev pub TxnEnds : Opened → List ℕ → ℕ → PreparedTxn → List ℕ → Bool → Session → Type 0
TxnEnds old name moment prepared reply bad new =
    (result : Result Committed (CommitFault × PreparedTxn)) × (world : State) × CommitStep old.world moment prepared result world × TxnLeaves old name result world reply bad new

-- a piece is spent where the world accepts it, and else stays
abbrev pub PieceLeaves : Opened → List ℕ → Result PieceDone (PieceFault × Reading) → State → List ℕ → Bool → Session → Type 0
PieceLeaves old name (Ok done) world reply bad new = IsReply (piece_text done) reply bad × (new ≡ Running (record (taken old name) { world = world }))
PieceLeaves old name (Err refusal) world reply bad new = IsReply (refused (piece_name refusal.0)) reply bad × (new ≡ Running old)

abbrev pub PieceEnds : Opened → List ℕ → ℕ → Reading → List ℕ → Bool → Session → Type 0
PieceEnds old name moment read reply bad new =
    (result : Result PieceDone (PieceFault × Reading)) × (world : State) × PieceStep old.world moment read result world × PieceLeaves old name result world reply bad new

-- what is left is kept under the name
abbrev pub left_in : Opened → List ℕ → Option Pending → Opened
left_in old name None = old
left_in old name (Some prepared) = kept old name prepared

-- the reply to the commit of a transaction, and what is left of the transaction
abbrev pub txn_reply : Result Committed (CommitFault × PreparedTxn) → List ℕ × Option Pending
txn_reply (Ok done) = (line (committed_text done), None)
txn_reply (Err refusal) = (line (refused (commit_name refusal.0)), Some (Txn refusal.1))

-- the reply to the commit of a piece, and what is left of the piece
abbrev pub piece_reply : Result PieceDone (PieceFault × Reading) → List ℕ × Option Pending
piece_reply (Ok done) = (line (piece_text done), None)
piece_reply (Err refusal) = (line (refused (piece_name refusal.0)), Some (Piece refusal.1))

-- what was prepared is committed, with this reply, and this is left of it
abbrev pub Ends : State → ℕ → Pending → List ℕ → Option Pending → State → Type 0
Ends old moment (Txn prepared) text left new =
    (result : Result Committed (CommitFault × PreparedTxn)) × CommitStep old moment prepared result new × ((text, left) ≡ txn_reply result)
Ends old moment (Piece read) text left new =
    (result : Result PieceDone (PieceFault × Reading)) × PieceStep old moment read result new × ((text, left) ≡ piece_reply result)

-- the commit of what was prepared under the name
abbrev pub CommitOf : Opened → Option Pending → List ℕ → ℕ → List ℕ → Bool → Session → Type 0
CommitOf old None name moment reply bad new = IsReply (refused (codes "NoWork")) reply bad × (new ≡ Running old)
CommitOf old (Some (Txn prepared)) name moment reply bad new = TxnEnds old name moment prepared reply bad new
CommitOf old (Some (Piece read)) name moment reply bad new = PieceEnds old name moment read reply bad new

-- a piece of an element of the newest version is read and prepared, and is then kept under its name
abbrev pub piece_kept : Opened → List ℕ → PieceRead → Opened
piece_kept old name (pieces.Ready read) = kept old name (Piece read)
piece_kept old name (pieces.Unread fault) = old
piece_kept old name pieces.OutOfMemory = old

abbrev pub PieceUnder : Opened → List ℕ → ℕ → ℕ → ℕ → List ℕ → Bool → Session → Type 0
PieceUnder old name number piece limit reply bad new =
    (how : PieceRead) × ReadsPiece old.world number piece limit how × IsReply (read_text how) reply bad × (new ≡ Running (piece_kept old name how))

-- a reorganisation of an element of the newest version begins
abbrev pub Begun : Opened → ℕ → ℕ → ℕ → List ℕ → Bool → Session → Type 0
Begun old number moment pieces reply bad new =
    (result : Result Receipt BeginFault) × (world : State) × BeginStep old.world moment number pieces result world
    × IsReply (begun_text (facts_of old.world).newest number pieces result) reply bad × (new ≡ Running (record old { world = world }))

-- a begun reorganisation of an element of the newest version is run to its end
abbrev pub Worked : Opened → ℕ → ℕ → ℕ → List ℕ → Bool → Session → Type 0
Worked old number moment limit reply bad new =
    (result : Result ℕ WorkFault) × (world : State) × WorkStep old.world number moment limit result world × IsReply (worked_text result) reply bad × (new ≡ Running (record old { world = world }))

-- the least plan of these changes, from the newest version
abbrev pub Planned : Opened → List Change → List ℕ → Bool → Session → Type 0
Planned old changes reply bad new =
    (result : Result LeastPlan PlanFault) × IsPlanOf (facts_of old.world).newest changes result × (reply ≡ planned_text (facts_of old.world).newest result) × (bad ≡ false)
    × (new ≡ Running (record old { plan = kept_plan old.plan result }))

-- the first step that is left of the kept plan is published
abbrev pub NextOf : Opened → List (List Move) → ℕ → List ℕ → Bool → Session → Type 0
NextOf old [] moment reply bad new = IsReply (refused (codes "NoPlan")) reply bad × (new ≡ Running old)
NextOf old (step ∷ rest) moment reply bad new =
    (result : Result (ℕ × Receipt) PublishFault) × (world : State) × PublishStep old.world moment step result world × IsReply (published_text result) reply bad
    × (new ≡ Running (record old { world = world; plan = left_of old.plan result }))

-- how the world stands
abbrev pub Reported : Opened → List ℕ → Bool → Type 0
Reported old reply bad = (text : List ℕ) × IsStatus old.world text × IsReply text reply bad

-- a query under the server's lease, where it has one
abbrev pub QueryUnder : Opened → Option ServerLease → ℕ → Selection → List ℕ → Bool → Session → Type 0
QueryUnder old None moment selection reply bad new = IsReply (refused (codes "NoServer")) reply bad × (new ≡ Running old)
QueryUnder old (Some held) moment selection reply bad new = Queried old.world held moment (asked held.schema selection) reply × (bad ≡ false) × (new ≡ Running old)

-- a step is published, by the names of the newest version
abbrev pub Published : Opened → ℕ → List NamedMove → List ℕ → Bool → Session → Type 0
Published old moment moves reply bad new =
    (result : Result (ℕ × Receipt) PublishFault) × (world : State) × PublishStep old.world moment (step_of (facts_of old.world).newest moves) result world
    × IsReply (published_text result) reply bad × (new ≡ Running (record old { world = world }))

abbrev pub Checked : Opened → List ℕ → Bool → Type 0
Checked old reply bad = ((report : CheckReport) × IsCheck old.world report × IsReply (check_text report) reply bad) ⊎ IsReply (refused (codes "Memory")) reply bad

-- the commands that change the schema
abbrev pub Changes : Opened → Command → List ℕ → Bool → Session → Type 0
Changes old (command.Forge server version granted until) reply bad new = Forged old server (record { version = version; granted = granted; until = until }) reply bad new
Changes old (command.Publish moment moves) reply bad new = Published old moment moves reply bad new
Changes old (command.Piece name element piece limit) reply bad new = PieceUnder old name (numbered (facts_of old.world).newest element) piece limit reply bad new
Changes old (command.Reorganise element moment pieces) reply bad new = Begun old (numbered (facts_of old.world).newest element) moment pieces reply bad new
Changes old (command.Work element moment limit) reply bad new = Worked old (numbered (facts_of old.world).newest element) moment limit reply bad new
Changes old (command.Plan changes) reply bad new = Planned old (changes_of (facts_of old.world).newest changes) reply bad new
Changes old (command.Next moment) reply bad new = NextOf old old.plan moment reply bad new
Changes old command.Status reply bad new = Reported old reply bad × (new ≡ Running old)
Changes old _ reply bad new = IsBad (Running old) reply bad new

abbrev pub Answers : Opened → Command → List ℕ → Bool → Session → Type 0
Answers old (command.Lease server moment) reply bad new =
    (result : Result Grant GrantFault) × (world : State) × LeaseStep old.world moment result world × Leased old server result world reply bad new
Answers old (command.Txn server moment operations) reply bad new = TxnUnder old (map.get old.leases server) moment operations reply bad new
Answers old command.Pairs reply bad new = (reply ≡ pairs_text (map.entries old.world.pairs)) × (bad ≡ false) × (new ≡ Running old)
Answers old command.Check reply bad new = Checked old reply bad × (new ≡ Running old)
Answers old command.Log reply bad new = IsReply (codes "ok log " ++ decimal (entry_count old.world)) reply bad × (new ≡ Running old)
Answers old (command.Prepare name server operations) reply bad new = PrepareUnder old (map.get old.leases server) name operations reply bad new
Answers old (command.Commit name moment) reply bad new = CommitOf old (map.get old.pending name) name moment reply bad new
Answers old (command.Query server moment selection) reply bad new = QueryUnder old (map.get old.leases server) moment selection reply bad new
Answers old other reply bad new = Changes old other reply bad new
