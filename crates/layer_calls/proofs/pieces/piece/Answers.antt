use Rattle.std.proofs.Common.{inl, inr, refl}
use Rattle.std.proofs.lemmas.Result.{err_from_is_err_and}
use Rattle.layer_calls.proofs.pieces.piece.Goals as goal

pub returns-in_err-view : goal.returns-in_err-view
returns-in_err-view c =
    let p = err_from_is_err_and c.from_residual-in_err-view.result c.from_residual-in_err-view.ensures.1 in
    let e = c.in_err-view.field-0.0 in
    rw (p.1, p.2) (inl (c.in_ok-reorg.reorg, c.in_ok-reorg.ensures, inl (c.in_ok-cursor.cursor, c.in_ok-cursor.ensures, inr (e, c.in_err-view.ensures, refl))))

pub returns : goal.returns
returns c = inl (c.in_ok-reorg.reorg, c.in_ok-reorg.ensures, inl (c.in_ok-cursor.cursor, c.in_ok-cursor.ensures, inl (c.in_ok-view.view, c.in_ok-view.ensures, c.piece_at.ensures)))
