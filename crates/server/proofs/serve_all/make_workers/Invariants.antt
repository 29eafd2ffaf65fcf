use Rattle.std.proofs.Common.{◌≡◌, ◌+◌, ◌≤◌, ◌++◌, map, reverse, All}
use Rattle.std.specs.Prelude.{vec_len, vec_capacity}
use Rattle.locked_store.specs.Known.{Known}
use Rattle.server.specs.Works.{Serving, AreIdle}
use Rattle.server.proofs.serve_all.make_workers.Given as goal

abbrev pub invariant-loop-handle : goal.invariant-loop-handle
invariant-loop-handle g l =
    (vec_len l.workers + vec_len l.handles ≡ vec_len l.fn.handles) × (vec_len l.fn.handles ≤ vec_capacity l.workers) × (vec_capacity l.handles ≡ vec_capacity l.fn.handles)
    × (map (λ (w : Serving). w.handle) l.workers.items ++ reverse l.handles.items ≡ reverse l.fn.handles.items)
    × AreIdle (record { requests = l.requests; tries = l.tries; front = l.front; most = l.most }) l.workers.items
    × All (λ (h : Known). l.front ≤ h.front) l.handles.items
    × All (λ (h : Known). h.front ≤ l.most) l.handles.items

abbrev pub decreases-loop-handle : goal.decreases-loop-handle
decreases-loop-handle g l = vec_len l.handles
