-- A receipt that a call gives is of an entry in the log that the call left; and no front falls.
use Rattle.std.proofs.Common.{◌≡◌, ℕ, ◌+◌, ◌-◌, ◌≤◌, List, [], ◌∷◌, ◌++◌, length, Some, refl, ap, ◌∙◌, arith, Result, Ok, Err}
use Rattle.std.specs.Prelude.{slice_get}
use Rattle.row_write.specs.Made.{PreparedTxn}
use Rattle.reorganise.specs.declared.read.Reading.{Reading}
use Rattle.replay.specs.declared.entry.What.{What}
use Rattle.rollout.specs.Committed.{Committed}
use Rattle.rollout.specs.Committed.TheVariants as committed
use Rattle.rollout.specs.CommitFault.{CommitFault}
use Rattle.rollout.specs.Grant.{Grant}
use Rattle.rollout.specs.PieceDone.{PieceDone}
use Rattle.rollout.specs.Receipt.{Receipt}
use Rattle.rollout.specs.GrantFault.{GrantFault}
use Rattle.rollout.specs.PieceFault.{PieceFault}
use Rattle.rollout.specs.Calls.{Appends, LeaseStep, CommitStep}
use Rattle.rollout.specs.Piece.{PieceStep}
use Rattle.rollout.specs.State.{State, entry_count}
use Rattle.locked_store.specs.declared.fault.SharedFault.{SharedFault}
use Rattle.locked_store.specs.declared.fault.SharedFault.TheVariants as shared
use Rattle.locked_store.specs.declared.fault.WentBack.{WentBack}
use Rattle.locked_store.specs.Answers.{Answers, AnswersBack, BackBy, Finds, no_place, grant_place, commit_place, piece_place}
use Rattle.locked_store.specs.Cores.{IsCore}
use Rattle.locked_store.specs.Known.{Known}
use Rattle.locked_store.specs.Receipts.{IsLogged}

last_of : {A : Type 0} (xs : List A) (x : A) → slice_get (xs ++ x ∷ []) (length xs) ≡ Some x
last_of [] x = refl
last_of (y ∷ xs) x = last_of xs x

one_less : (n before m : ℕ) → n ≡ before + m + 1 → n - (before + 1) ≡ m
one_less n before m e = omega arith

-- ---- receipts

pub logged_after : (start : State) (front : ℕ) (found left : State) (now : ℕ) (what : What) (receipt : Receipt) → IsCore start left → front ≤ entry_count found → Appends found now what receipt left → IsLogged start front receipt
logged_after start front found left now what receipt core seen appends =
    record {
      core = left;
      is_core = core;
      stands = (
        omega (arith, appends.place, ap (λ (s : State). s.opening.place) appends.state),
        ap (λ (s : State). slice_get s.log (receipt.place - (s.opening.place + 1))) appends.state
            ∙ ap (slice_get (found.log ++ receipt.entry ∷ [])) (one_less receipt.place found.opening.place (length found.log) appends.place)
            ∙ last_of found.log receipt.entry,
      );
      new = omega (arith, appends.place, seen);
    }

pub lease_logged : (start : State) (v w : Known) (front moment : ℕ) (given : Grant)
    → Answers start v (let r : Result Grant (SharedFault GrantFault) = Ok given in r) w (λ c r d. LeaseStep c moment r d) grant_place
    → front ≤ v.front → IsLogged start front given.receipt
lease_logged start v w front moment given a seen = logged_after start front a.0 a.1 _ _ given.receipt a.2.1 (omega (arith, seen, a.2.2)) a.2.3.3

pub commit_logged : (start : State) (v w : Known) (front moment : ℕ) (prepared : PreparedTxn) (receipt : Receipt)
    → AnswersBack start v prepared (let r : Result Committed (SharedFault CommitFault × PreparedTxn) = Ok (committed.Done receipt) in r) w (λ c r d. CommitStep c moment prepared r d) commit_place
    → front ≤ v.front → IsLogged start front receipt
commit_logged start v w front moment prepared receipt a seen = logged_after start front a.0 a.1 _ _ receipt a.2.1 (omega (arith, seen, a.2.2)) a.2.3.2

pub piece_logged : (start : State) (v w : Known) (front moment : ℕ) (read : Reading) (done : PieceDone)
    → AnswersBack start v read (let r : Result PieceDone (SharedFault PieceFault × Reading) = Ok done in r) w (λ c r d. PieceStep c moment read r d) piece_place
    → front ≤ v.front → IsLogged start front done.receipt
piece_logged start v w front moment read done a seen = logged_after start front a.0 a.1 _ _ done.receipt a.2.1 (omega (arith, seen, a.2.2)) a.2.3.2

-- ---- fronts

pub stays : (v w : Known) (found left : State) → v.front ≤ entry_count found → w.front ≡ entry_count left → left ≡ found → v.front ≤ w.front
stays v w found left seen is same = omega (arith, seen, is, ap entry_count same)

pub same_front : (v w : Known) → w ≡ v → v.front ≤ w.front
same_front v w same = omega (arith, ap (λ (k : Known). k.front) same)

-- a call whose step changes nothing
pub reads_rise : {T E : Type 0} (start : State) (v w : Known) (answer : Result T (SharedFault E)) (says : State → Result T E → Type 0)
    → Answers start v answer w (λ c r d. says c r × (d ≡ c)) no_place → v.front ≤ w.front
reads_rise start v w (Ok x) says a = stays v w a.0 a.1 a.2.2 a.2.4 a.2.3.1
reads_rise start v w (Err (shared.World e)) says a = stays v w a.0 a.1 a.2.2 a.2.4 a.2.3.1
reads_rise start v w (Err (shared.WentBack seen)) says a = same_front v w a.2

pub finds_rise : {T : Type 0} (start : State) (v w : Known) (answer : Result T WentBack) (says : State → T → Type 0) → Finds start v answer w says → v.front ≤ w.front
finds_rise start v w (Ok x) says a = omega (arith, a.1.1, a.1.3)
finds_rise start v w (Err back) says a = same_front v w a.2

pub lease_rises : (start : State) (v w : Known) (moment : ℕ) (answer : Result Grant (SharedFault GrantFault))
    → Answers start v answer w (λ c r d. LeaseStep c moment r d) grant_place → v.front ≤ w.front
lease_rises start v w moment (Ok given) a = omega (arith, a.2.5.2, a.2.5.3)
lease_rises start v w moment (Err (shared.World e)) a = stays v w a.0 a.1 a.2.2 a.2.4 a.2.3.1
lease_rises start v w moment (Err (shared.WentBack seen)) a = same_front v w a.2

commit_back_rises : (start : State) (v w : Known) (moment : ℕ) (prepared back : PreparedTxn) (fault : SharedFault CommitFault)
    → BackBy {T = Committed} start v fault back prepared w (λ c r d. CommitStep c moment prepared r d) commit_place → v.front ≤ w.front
commit_back_rises start v w moment prepared back (shared.World e) a = stays v w a.0 a.1 a.2.2 a.2.4 a.2.3.0.1
commit_back_rises start v w moment prepared back (shared.WentBack seen) a = same_front v w a.0.2

pub commit_rises : (start : State) (v w : Known) (moment : ℕ) (prepared : PreparedTxn) (answer : Result Committed (SharedFault CommitFault × PreparedTxn))
    → AnswersBack start v prepared answer w (λ c r d. CommitStep c moment prepared r d) commit_place → v.front ≤ w.front
commit_rises start v w moment prepared (Ok (committed.Done receipt)) a = omega (arith, a.2.5.2, a.2.5.3)
commit_rises start v w moment prepared (Ok (committed.Refused op why)) a = stays v w a.0 a.1 a.2.2 a.2.4 a.2.3.2
commit_rises start v w moment prepared (Err refusal) a = commit_back_rises start v w moment prepared refusal.1 refusal.0 a

piece_back_rises : (start : State) (v w : Known) (moment : ℕ) (read back : Reading) (fault : SharedFault PieceFault)
    → BackBy {T = PieceDone} start v fault back read w (λ c r d. PieceStep c moment read r d) piece_place → v.front ≤ w.front
piece_back_rises start v w moment read back (shared.World e) a = stays v w a.0 a.1 a.2.2 a.2.4 a.2.3.0.1
piece_back_rises start v w moment read back (shared.WentBack seen) a = same_front v w a.0.2

pub piece_rises : (start : State) (v w : Known) (moment : ℕ) (read : Reading) (answer : Result PieceDone (SharedFault PieceFault × Reading))
    → AnswersBack start v read answer w (λ c r d. PieceStep c moment read r d) piece_place → v.front ≤ w.front
piece_rises start v w moment read (Ok done) a = omega (arith, a.2.5.2, a.2.5.3)
piece_rises start v w moment read (Err refusal) a = piece_back_rises start v w moment read refusal.1 refusal.0 a
