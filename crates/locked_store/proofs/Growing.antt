-- A call leaves the log as it was, or with one entry more.
use Rattle.std.proofs.Common.{◌≡◌, ℕ, List, [], ◌∷◌, ◌++◌, sym, ap, ◌∙◌, subst, append_assoc, append-nil, Result, Ok, Err}
use Rattle.row_write.specs.Made.{PreparedTxn}
use Rattle.reorganise.specs.declared.read.Reading.{Reading}
use Rattle.schema_version.specs.declared.step.Move.{Move}
use Rattle.replay.specs.declared.entry.What.{What}
use Rattle.rollout.specs.BeginFault.{BeginFault}
use Rattle.rollout.specs.CommitFault.{CommitFault}
use Rattle.rollout.specs.Committed.{Committed}
use Rattle.rollout.specs.Committed.TheVariants as committed
use Rattle.rollout.specs.Grant.{Grant}
use Rattle.rollout.specs.PieceDone.{PieceDone}
use Rattle.rollout.specs.Receipt.{Receipt}
use Rattle.rollout.specs.GrantFault.{GrantFault}
use Rattle.rollout.specs.PieceFault.{PieceFault}
use Rattle.rollout.specs.PublishFault.{PublishFault}
use Rattle.rollout.specs.BeginReorg.{BeginStep}
use Rattle.rollout.specs.Calls.{Appends, LeaseStep, CommitStep}
use Rattle.rollout.specs.Piece.{PieceStep}
use Rattle.rollout.specs.Publish.{PublishStep}
use Rattle.rollout.specs.State.{State, cut_here, entries_before}
use Rattle.locked_store.specs.Cores.{GrewFrom}

pub at_start : (start world : State) → start ≡ world → GrewFrom start world
at_start start world same = record { opened = ap (λ (s : State). s.opening) (sym same); more = []; log = ap (λ (s : State). s.log) (sym same) ∙ sym (append-nil start.log) }

appended : (start found left : State) (now : ℕ) (what : What) (receipt : Receipt) → GrewFrom start found → Appends found now what receipt left → GrewFrom start left
appended start found left now what receipt grew appends =
    record {
      opened = ap (λ (s : State). s.opening) appends.state ∙ grew.opened;
      more = grew.more ++ receipt.entry ∷ [];
      log = ap (λ (s : State). s.log) appends.state ∙ ap (λ log. log ++ receipt.entry ∷ []) grew.log ∙ append_assoc start.log grew.more (receipt.entry ∷ []);
    }

unchanged : (start found left : State) → GrewFrom start found → left ≡ found → GrewFrom start left
unchanged start found left grew same = subst (GrewFrom start) (sym same) grew

pub taken : (start found left : State) → GrewFrom start found → left ≡ cut_here found → GrewFrom start left
taken start found left grew same =
    record { opened = ap (λ (s : State). s.opening) same ∙ grew.opened; more = grew.more; log = ap (λ (s : State). s.log) same ∙ grew.log }

pub lease : (start found left : State) (moment : ℕ) (answer : Result Grant GrantFault) → GrewFrom start found → LeaseStep found moment answer left → GrewFrom start left
lease start found left moment (Ok given) grew step = appended start found left _ _ given.receipt grew step.3
lease start found left moment (Err why) grew step = unchanged start found left grew step.1

pub commit : (start found left : State) (moment : ℕ) (prepared : PreparedTxn) (answer : Result Committed (CommitFault × PreparedTxn)) → GrewFrom start found → CommitStep found moment prepared answer left → GrewFrom start left
commit start found left moment prepared (Ok (committed.Done receipt)) grew step = appended start found left _ _ receipt grew step.2
commit start found left moment prepared (Ok (committed.Refused op why)) grew step = unchanged start found left grew step.2
commit start found left moment prepared (Err refusal) grew step = unchanged start found left grew step.0.1

pub publish : (start found left : State) (moment : ℕ) (move : List Move) (answer : Result (ℕ × Receipt) PublishFault) → GrewFrom start found → PublishStep found moment move answer left → GrewFrom start left
publish start found left moment move (Ok done) grew step = appended start found left _ _ done.1 grew step.2
publish start found left moment move (Err why) grew step = unchanged start found left grew step.1

pub begin : (start found left : State) (moment element pieces : ℕ) (answer : Result Receipt BeginFault) → GrewFrom start found → BeginStep found moment element pieces answer left → GrewFrom start left
begin start found left moment element pieces (Ok receipt) grew step = appended start found left _ _ receipt grew step.1
begin start found left moment element pieces (Err why) grew step = unchanged start found left grew step.1

pub piece : (start found left : State) (moment : ℕ) (read : Reading) (answer : Result PieceDone (PieceFault × Reading)) → GrewFrom start found → PieceStep found moment read answer left → GrewFrom start left
piece start found left moment read (Ok done) grew step = appended start found left _ _ done.receipt grew step.2
piece start found left moment read (Err refusal) grew step = unchanged start found left grew step.0.1

-- ---- no call but a cut lets entries go

appended_before : (found left : State) (now : ℕ) (what : What) (receipt : Receipt) → Appends found now what receipt left → entries_before left ≡ entries_before found
appended_before found left now what receipt appends = ap entries_before appends.state

pub lease_before : (found left : State) (moment : ℕ) (answer : Result Grant GrantFault) → LeaseStep found moment answer left → entries_before left ≡ entries_before found
lease_before found left moment (Ok given) step = appended_before found left _ _ given.receipt step.3
lease_before found left moment (Err why) step = ap entries_before step.1

pub commit_before : (found left : State) (moment : ℕ) (prepared : PreparedTxn) (answer : Result Committed (CommitFault × PreparedTxn)) → CommitStep found moment prepared answer left → entries_before left ≡ entries_before found
commit_before found left moment prepared (Ok (committed.Done receipt)) step = appended_before found left _ _ receipt step.2
commit_before found left moment prepared (Ok (committed.Refused op why)) step = ap entries_before step.2
commit_before found left moment prepared (Err refusal) step = ap entries_before step.0.1

pub publish_before : (found left : State) (moment : ℕ) (move : List Move) (answer : Result (ℕ × Receipt) PublishFault) → PublishStep found moment move answer left → entries_before left ≡ entries_before found
publish_before found left moment move (Ok done) step = appended_before found left _ _ done.1 step.2
publish_before found left moment move (Err why) step = ap entries_before step.1

pub begin_before : (found left : State) (moment element pieces : ℕ) (answer : Result Receipt BeginFault) → BeginStep found moment element pieces answer left → entries_before left ≡ entries_before found
begin_before found left moment element pieces (Ok receipt) step = appended_before found left _ _ receipt step.1
begin_before found left moment element pieces (Err why) step = ap entries_before step.1

pub piece_before : (found left : State) (moment : ℕ) (read : Reading) (answer : Result PieceDone (PieceFault × Reading)) → PieceStep found moment read answer left → entries_before left ≡ entries_before found
piece_before found left moment read (Ok done) step = appended_before found left _ _ done.receipt step.2
piece_before found left moment read (Err refusal) step = ap entries_before step.0.1
