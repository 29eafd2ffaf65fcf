use Rattle.std.proofs.Common.{◌≡◌, ◌≤◌, [], Some, refl, arith, rules}
use Rattle.std.proofs.lemmas.Grind.{common_steps}
use Rattle.std.proofs.lemmas.List.Elements.{All-pop, All-push, All-same}
use Rattle.locked_store.specs.Known.{Known}
use Rattle.server.specs.Works.{Orders, Serving}
use Rattle.server.proofs.serve_all.make_workers.Goals as goal

pub loop-handle-preserved : goal.loop-handle-preserved
loop-handle-preserved g c =
    let orders : Orders = record { requests = c.args.requests.now; tries = c.args.tries; front = c.args.front; most = c.args.most } in
    let IsIdle : Serving → Type 0 = λ w. (w.kept_receipts ≡ []) × (w.orders ≡ orders) × (w.first_front ≡ w.handle.front) in (
      search rules,
      search rules,
      search rules,
      grind (arith, common_steps),
      All-same IsIdle c.push_reserved.new.self.items _ c.push_reserved.ensures.items (All-push IsIdle c.loop-handle.workers.items _ c.loop-handle.invariant.4 (c.new.ensures.items, refl, c.front-first_front.ensures)),
      (All-pop (λ (h : Known). c.args.front ≤ h.front) c.loop-handle.handles.items c.pop.new.self.items (Some c.in-Some.handle) c.in-Some.ensures.items c.loop-handle.invariant.5).0,
      (All-pop (λ (h : Known). h.front ≤ c.args.most) c.loop-handle.handles.items c.pop.new.self.items (Some c.in-Some.handle) c.in-Some.ensures.items c.loop-handle.invariant.6).0,
    )
