use Rattle.reorganise_workers.proofs.Workers.{still_at_work}
use Rattle.reorganise_workers.proofs.worker.PieceWorkerWorker.perform.Goals as goal

pub invariant_of-self : goal.invariant_of-self
invariant_of-self g c =
    still_at_work g.L.SharedLedger.start c.self.inside.job c.self.inside.handle c.work_piece.new.me c.self.inside.first_front c.self.inside.kept_receipts.items c.work_piece.new.kept_receipts.items c.work_piece.ensures.rises c.work_piece.ensures.had c.work_piece.ensures.pieces c.self.invariant
