-- What was prepared is taken out of its place, and put back.
use Rattle.std.proofs.Common.{◌≡◌, ℕ, List, Option, Some, None, Ok, Err, Bool, false, cond, refl, sym, ap, subst, ◌∙◌}
use Rattle.std.specs.Prelude.{codes}
use Rattle.std.specs.declared.cmp.Ordering.TheVariants.{Less, Equal, Greater}
use Rattle.std.specs.Ordering.{eq_by_cmp, is_eq}
use Rattle.std.specs.FinMap as map
use Rattle.byte_map.specs.Order.{bytes_cmp}
use Rattle.byte_map.proofs.Order.{bytes_cmp_total, bytes_cmp-IsAntisymmetric}
use Rattle.row_write.specs.Made.{PreparedTxn}
use Rattle.script_replies.specs.Calls.{CommitStep}
use Rattle.script_replies.specs.Piece.{PieceStep}
use Rattle.script_replies.specs.State.{State}
use Rattle.script_replies.specs.Committed.{Committed}
use Rattle.script_replies.specs.PieceDone.{PieceDone}
use Rattle.script_replies.specs.CommitFault.{CommitFault}
use Rattle.script_replies.specs.PieceFault.{PieceFault}
use Rattle.script_session.specs.declared.session.Opened.{Opened}
use Rattle.script_session.specs.declared.session.Pending.{Pending}
use Rattle.script_session.specs.declared.session.Pending.TheVariants.{Txn, Piece}
use Rattle.script_session.specs.declared.session.Session.TheVariants.{Running}
use Rattle.reorganise.specs.declared.read.Reading.{Reading}
use Rattle.script_replies.specs.Pieces.{piece_name, piece_text}
use Rattle.script_session.specs.Answer.{CommitOf, Ends, kept, left_in, taken}
use Rattle.script_session.specs.Session.{Session}
use Rattle.script_replies.specs.Texts.{line, refused}
use Rattle.script_replies.specs.Transactions.{committed_text, commit_name}

module _ {X : Type 0} where
  -- nothing is there to be taken
  none_taken : (m : map.FinMap bytes_cmp X) (k : List ℕ) → map.get m k ≡ None → map.remove m k ≡ m
  none_taken m k none = map.same_map bytes_cmp_total bytes_cmp-IsAntisymmetric (map.remove m k) m (λ q.
      map.get-remove bytes_cmp_total m k q
      ∙ elim (bytes_cmp q k) as (λ r. bytes_cmp q k ≡ r → cond (is_eq r) None (map.get m q) ≡ map.get m q) [
        | Less ↦ λ e. refl
        | Equal ↦ λ e. sym (ap (map.get m) (bytes_cmp-IsAntisymmetric q k e) ∙ none)
        | Greater ↦ λ e. refl
      ] refl)

  -- what was taken is put back
  put_in_again : (m : map.FinMap bytes_cmp X) (k : List ℕ) (x : X) → map.get m k ≡ Some x → map.insert (map.remove m k) k x ≡ m
  put_in_again m k x is = map.same_map bytes_cmp_total bytes_cmp-IsAntisymmetric (map.insert (map.remove m k) k x) m (λ q.
      map.get-insert bytes_cmp_total (map.remove m k) k x q
      ∙ ap (cond (eq_by_cmp bytes_cmp q k) (Some x)) (map.get-remove bytes_cmp_total m k q)
      ∙ elim (bytes_cmp q k) as (λ r. bytes_cmp q k ≡ r → cond (is_eq r) (Some x) (cond (is_eq r) None (map.get m q)) ≡ map.get m q) [
        | Less ↦ λ e. refl
        | Equal ↦ λ e. sym (ap (map.get m) (bytes_cmp-IsAntisymmetric q k e) ∙ is)
        | Greater ↦ λ e. refl
      ] refl)

-- what is put back where it was taken out
stays : (old : Opened) (name : List ℕ) (p q : Pending) (world : State) → map.get old.pending name ≡ Some p → q ≡ p → world ≡ old.world → kept (record (taken old name) { world = world }) name q ≡ old
stays old name p q world found same unmoved =
    ap (λ (w : State). kept (record (taken old name) { world = w }) name q) unmoved
    ∙ ap (kept (taken old name) name) same
    ∙ ap (λ (m : map.FinMap bytes_cmp Pending). record old { pending = m }) (put_in_again old.pending name p found)

pub nothing_prepared : (old : Opened) (rest : map.FinMap bytes_cmp Pending) (name key : List ℕ) (moment : ℕ) (text : List ℕ) (bad : Bool) (new : Session)
    → key ≡ name → None ≡ map.get old.pending key → rest ≡ map.remove old.pending key → new ≡ Running (record old { pending = rest }) → text ≡ line (refused (codes "NoWork")) → bad ≡ false
    → CommitOf old (map.get old.pending name) name moment text bad new
nothing_prepared old rest name key moment text bad new key_is found rest_is next reported good =
    let none : map.get old.pending name ≡ None = ap (map.get old.pending) (sym key_is) ∙ sym found in
    subst (λ (o : Option Pending). CommitOf old o name moment text bad new) (sym none)
    ((reported, good), next ∙ ap (λ (m : map.FinMap bytes_cmp Pending). let s : Session = Running (record old { pending = m }) in s) (rest_is ∙ ap (map.remove old.pending) key_is ∙ none_taken old.pending name none))

-- what was taken out and committed
ended : (old : Opened) (name : List ℕ) (moment : ℕ) (p : Pending) (text : List ℕ) (left : Option Pending) (world : State) (bad : Bool)
    → map.get old.pending name ≡ Some p → Ends old.world moment p text left world → bad ≡ false → CommitOf old (Some p) name moment text bad (Running (left_in (record (taken old name) { world = world }) name left))
ended old name moment (Txn p) text left world bad found (Ok done, step, is) good =
    (Ok done, world, step, ((ap (λ x. x.0) is, good), ap (λ x. let s : Session = Running (left_in (record (taken old name) { world = world }) name x.1) in s) is))
ended old name moment (Txn p) text left world bad found (Err refusal, step, is) good = (
  Err refusal,
  world,
  step,
  (
    (ap (λ x. x.0) is, good),
    ap (λ x. let s : Session = Running (left_in (record (taken old name) { world = world }) name x.1) in s) is ∙ ap Running (stays old name (Txn p) (Txn refusal.1) world found (ap Txn step.1) step.0.1),
  ),
)
ended old name moment (Piece p) text left world bad found (Ok done, step, is) good =
    (Ok done, world, step, ((ap (λ x. x.0) is, good), ap (λ x. let s : Session = Running (left_in (record (taken old name) { world = world }) name x.1) in s) is))
ended old name moment (Piece p) text left world bad found (Err refusal, step, is) good = (
  Err refusal,
  world,
  step,
  (
    (ap (λ x. x.0) is, good),
    ap (λ x. let s : Session = Running (left_in (record (taken old name) { world = world }) name x.1) in s) is ∙ ap Running (stays old name (Piece p) (Piece refusal.1) world found (ap Piece step.1) step.0.1),
  ),
)

pub commits : (old next : Opened) (rest : map.FinMap bytes_cmp Pending) (name key : List ℕ) (moment : ℕ) (p : Pending) (text reply : List ℕ) (left : Option Pending) (world : State) (bad : Bool)
    → key ≡ name → Some p ≡ map.get old.pending key → rest ≡ map.remove old.pending key → Ends old.world moment p text left world → reply ≡ text → bad ≡ false
    → next ≡ left_in (record old { world = world; pending = rest }) name left
    → CommitOf old (map.get old.pending name) name moment reply bad (Running next)
commits old next rest name key moment p text reply left world bad key_is found rest_is done reported good next_is =
    let here : map.get old.pending name ≡ Some p = ap (map.get old.pending) (sym key_is) ∙ sym found in
    let gone : rest ≡ map.remove old.pending name = rest_is ∙ ap (map.remove old.pending) key_is in
    let after : next ≡ left_in (record (taken old name) { world = world }) name left = next_is ∙ ap (λ (m : map.FinMap bytes_cmp Pending). left_in (record old { world = world; pending = m }) name left) gone in
    subst (λ (o : Option Pending). CommitOf old o name moment reply bad (Running next)) (sym here)
    (subst (λ (n : Opened). CommitOf old (Some p) name moment reply bad (Running n)) (sym after)
    (subst (λ (t : List ℕ). CommitOf old (Some p) name moment t bad (Running (left_in (record (taken old name) { world = world }) name left))) (sym reported)
    (ended old name moment p text left world bad here done good)))
