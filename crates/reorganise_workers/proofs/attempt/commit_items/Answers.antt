use Rattle.std.proofs.Common.{sym, subst}
use Rattle.std.specs.Prelude.{Result, Ok, Err}
use Rattle.reorganise.specs.declared.read.Reading.{Reading}
use Rattle.locked_store.specs.Piece.{PieceStep}
use Rattle.locked_store.specs.PieceDone.{PieceDone}
use Rattle.locked_store.specs.PieceFault.{PieceFault}
use Rattle.locked_store.specs.Answers.{piece_place}
use Rattle.locked_store.specs.declared.fault.SharedFault.{SharedFault}
use Rattle.reorganise_workers.specs.Ends.{IsAttempt}
use Rattle.reorganise_workers.specs.declared.attempt.Attempt.{Attempt}
use Rattle.reorganise_workers.proofs.Ends.{still_pieces, stays_back, one_piece_more, piece_receipt, was_committed, brought_to_its_end, more_left, refused_by}
use Rattle.reorganise_workers.proofs.attempt.commit_items.Goals as goal

pub returns-then-is_err-clause-pieces : goal.returns-then-is_err-clause-pieces
returns-then-is_err-clause-pieces g c = still_pieces g.L.SharedLedger.start c.args.job.now c.args.kept_receipts.now.items c.reserve.new.self.items c.reserve.ensures.items

pub returns-in_default-clause-pieces : goal.returns-in_default-clause-pieces
returns-in_default-clause-pieces g c = still_pieces g.L.SharedLedger.start c.args.job.now c.args.kept_receipts.now.items c.reserve.new.self.items c.reserve.ensures.items

pub returns-then-ended-clause-pieces : goal.returns-then-ended-clause-pieces
returns-then-ended-clause-pieces g c =
    one_piece_more g.L.SharedLedger.start c.args.job.now c.args.kept_receipts.now.items c.reserve.new.self.items c.push_reserved.new.self.items c.in-Ok-commit_piece.field-0.receipt
    c.reserve.ensures.items c.push_reserved.ensures.items
    (piece_receipt g.L.SharedLedger.start c.args.me.now c.commit_piece.new.me c.args.job.now c.args.view.piece c.args.view c.in-Ok.prepared c.in-Ok-commit_piece.field-0 c.requires.seen c.in-Ok.ensures.ok c.requires.read c.in-Ok-commit_piece.ensures)

pub returns-then-ended-clause-attempt : goal.returns-then-ended-clause-attempt
returns-then-ended-clause-attempt g c =
    brought_to_its_end g.L.SharedLedger.start c.args.job.now c.args.view.piece c.in-Ok-commit_piece.field-0
    (was_committed g.L.SharedLedger.start c.args.me.now c.commit_piece.new.me c.args.job.now c.args.view.piece c.args.view c.in-Ok.prepared c.in-Ok-commit_piece.field-0
    c.requires.seen c.in-Ok.ensures.ok c.requires.read c.requires.kind c.in-Ok-commit_piece.ensures)
    c.if-ended.true

pub returns-in-Ok-commit_piece-clause-pieces : goal.returns-in-Ok-commit_piece-clause-pieces
returns-in-Ok-commit_piece-clause-pieces g c =
    one_piece_more g.L.SharedLedger.start c.args.job.now c.args.kept_receipts.now.items c.reserve.new.self.items c.push_reserved.new.self.items c.in-Ok-commit_piece.field-0.receipt
    c.reserve.ensures.items c.push_reserved.ensures.items
    (piece_receipt g.L.SharedLedger.start c.args.me.now c.commit_piece.new.me c.args.job.now c.args.view.piece c.args.view c.in-Ok.prepared c.in-Ok-commit_piece.field-0 c.requires.seen c.in-Ok.ensures.ok c.requires.read c.in-Ok-commit_piece.ensures)

pub returns-in-Ok-commit_piece-clause-attempt : goal.returns-in-Ok-commit_piece-clause-attempt
returns-in-Ok-commit_piece-clause-attempt g c =
    more_left g.L.SharedLedger.start c.args.job.now c.args.view.piece c.in-Ok-commit_piece.field-0
    (was_committed g.L.SharedLedger.start c.args.me.now c.commit_piece.new.me c.args.job.now c.args.view.piece c.args.view c.in-Ok.prepared c.in-Ok-commit_piece.field-0
    c.requires.seen c.in-Ok.ensures.ok c.requires.read c.requires.kind c.in-Ok-commit_piece.ensures)
    c.if-ended.false

pub returns-clause-pieces : goal.returns-clause-pieces
returns-clause-pieces g c = still_pieces g.L.SharedLedger.start c.args.job.now c.args.kept_receipts.now.items c.reserve.new.self.items c.reserve.ensures.items

pub returns-clause-attempt : goal.returns-clause-attempt
returns-clause-attempt g c =
    subst (λ (t : Attempt). IsAttempt g.L.SharedLedger.start c.args.job.now c.args.view.piece t) (sym c.refused.ensures)
    (refused_by g.L.SharedLedger.start c.args.me.now c.commit_piece.new.me c.args.job.now c.args.view.piece c.args.view c.in-Ok.prepared c.in-Err.field-0-1 c.in-Err.fault
    c.requires.seen c.requires.had c.in-Ok.ensures.ok c.requires.read c.requires.kind c.in-Err.ensures)

pub returns-then-ended-clause-had : goal.returns-then-ended-clause-had
returns-then-ended-clause-had g c =
    stays_back g.L.SharedLedger.start c.args.job.now.most c.args.me.now c.commit_piece.new.me c.in-Ok.prepared (let r : Result PieceDone (SharedFault PieceFault × Reading) = Ok c.in-Ok-commit_piece.field-0 in r)
    (λ core r d. PieceStep core c.args.job.now.moment c.in-Ok.prepared r d) piece_place c.in-Ok-commit_piece.ensures c.requires.had

pub returns-in-Ok-commit_piece-clause-had : goal.returns-in-Ok-commit_piece-clause-had
returns-in-Ok-commit_piece-clause-had g c =
    stays_back g.L.SharedLedger.start c.args.job.now.most c.args.me.now c.commit_piece.new.me c.in-Ok.prepared (let r : Result PieceDone (SharedFault PieceFault × Reading) = Ok c.in-Ok-commit_piece.field-0 in r)
    (λ core r d. PieceStep core c.args.job.now.moment c.in-Ok.prepared r d) piece_place c.in-Ok-commit_piece.ensures c.requires.had

pub returns-clause-had : goal.returns-clause-had
returns-clause-had g c =
    stays_back g.L.SharedLedger.start c.args.job.now.most c.args.me.now c.commit_piece.new.me c.in-Ok.prepared (let r : Result PieceDone (SharedFault PieceFault × Reading) = Err (c.in-Err.fault, c.in-Err.field-0-1) in r)
    (λ core r d. PieceStep core c.args.job.now.moment c.in-Ok.prepared r d) piece_place c.in-Err.ensures c.requires.had
