use Rattle.std.proofs.Common.{Some, Err, sym, ap, subst}
use Rattle.std.specs.Prelude.{string_bytes}
use Rattle.script_session.specs.Answer.{Ends}
use Rattle.script_session.specs.declared.session.Pending.{Pending}
use Rattle.script_session.specs.declared.session.Pending.TheVariants.{Txn, Piece}
use Rattle.script_session.proofs.pending.commit_pending.Goals as goal

pub returns-in_ok-text-in-Err : goal.returns-in_ok-text-in-Err
returns-in_ok-text-in-Err c =
    subst (λ (p : Pending). Ends c.args.world.now c.args.moment p (string_bytes c.in_ok-text-in-Err.text) (Some (Txn c.in-Err.prepared)) c.commit.new.self) (sym c.in-Txn.is)
    (Err (c.in-Err.fault, c.in-Err.prepared), c.in-Err.ensures.step, ap (λ text. (text, Some (Txn c.in-Err.prepared))) c.in_ok-text-in-Err.ensures)

pub returns-in_ok-text-in-Err-commit_piece : goal.returns-in_ok-text-in-Err-commit_piece
returns-in_ok-text-in-Err-commit_piece c =
    subst (λ (p : Pending). Ends c.args.world.now c.args.moment p (string_bytes c.in_ok-text-in-Err-commit_piece.text) (Some (Piece c.in-Err-commit_piece.prepared)) c.commit_piece.new.self) (sym c.in-Piece.is)
    (Err (c.in-Err-commit_piece.fault, c.in-Err-commit_piece.prepared), c.in-Err-commit_piece.ensures.step, ap (λ text. (text, Some (Piece c.in-Err-commit_piece.prepared))) c.in_ok-text-in-Err-commit_piece.ensures)
