use Rattle.std.proofs.Common.{rules, ap, sym, subst, ◌∙◌, ◌≤◌, All, List, []}
use Rattle.std.proofs.lemmas.List.Elements.{All-push, All-same, All-nil}
use Rattle.locked_store.specs.Receipt.{Receipt}
use Rattle.reorganise_workers.specs.Ends.{IsPieceReceipt}
use Rattle.reorganise_workers.specs.inner.Workers.{Filling}
use Rattle.reorganise_workers.proofs.Reorganises.{handle_apart, receipts_apart, pieces_apart}
use Rattle.reorganise_workers.proofs.all_pieces.into_parts.Goals as goal

abbrev IsRisen : Filling → Type 0
IsRisen w = w.first_front ≤ w.handle.front

pub loop-worker-preserved : goal.loop-worker-preserved
loop-worker-preserved g c = (
  search rules,
  search rules,
  search rules,
  search rules,
  handle_apart c.loop-worker.workers.items c.pop.new.self.items c.in-Some.worker c.worker.inside.handle c.loop-worker.handles.items c.push_reserved.new.self.items _
      c.in-Some.ensures.items c.push_reserved.ensures.items (ap (λ (w : Filling). w.handle) (sym c.worker.view_is)) c.loop-worker.invariant.4,
  receipts_apart c.loop-worker.workers.items c.pop.new.self.items c.in-Some.worker c.new.result c.loop-worker.receipts.items c.push_reserved-in-Some.new.self.items _
      c.in-Some.ensures.items c.push_reserved-in-Some.ensures.items (ap (λ (w : Filling). w.kept_receipts) (sym c.worker.view_is) ∙ sym c.new.ensures) c.loop-worker.invariant.5,
  λ job all.
      pieces_apart g.L.SharedLedger.start job c.worker.inside.job c.loop-worker.workers.items c.pop.new.self.items c.in-Some.worker c.new.result c.loop-worker.receipts.items c.push_reserved-in-Some.new.self.items
      c.in-Some.ensures.items c.push_reserved-in-Some.ensures.items
      (ap (λ (w : Filling). w.job) (sym c.worker.view_is))
      (subst (λ (l : List Receipt). All (IsPieceReceipt g.L.SharedLedger.start c.worker.inside.job) l) (sym c.new.ensures) c.worker.invariant.pieces)
      (c.loop-worker.invariant.6 job all),
  λ all.
      c.loop-worker.invariant.7
      (All-same IsRisen c.loop-worker.workers.items _ c.in-Some.ensures.items (All-push IsRisen c.pop.new.self.items c.in-Some.worker all (subst IsRisen c.worker.view_is c.worker.invariant.risen))),
)

pub returns-clause-pieces : goal.returns-clause-pieces
returns-clause-pieces g c = λ job all. (c.loop-worker.invariant.6 job all).1

pub returns-clause-risen : goal.returns-clause-risen
returns-clause-risen g c = c.loop-worker.invariant.7 (All-same IsRisen c.loop-worker.workers.items [] (search rules) (All-nil IsRisen))
