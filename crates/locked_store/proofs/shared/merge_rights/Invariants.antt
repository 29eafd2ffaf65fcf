use Rattle.std.proofs.Common.{◌≡◌, ◌+◌, ◌≤◌, All}
use Rattle.std.specs.Prelude.{vec_len}
use Rattle.locked_store.specs.Known.{Known, total_count, total_taken}
use Rattle.locked_store.proofs.shared.merge_rights.Given as goal

abbrev pub invariant-loop-handle : goal.invariant-loop-handle
invariant-loop-handle g l =
    (l.all.added.parts + vec_len l.handles ≡ vec_len l.fn.handles) × (l.all.added.amount + total_count l.handles.items ≡ total_count l.fn.handles.items)
    × (l.all.taken.amount + total_taken l.handles.items ≡ total_taken l.fn.handles.items) × (l.all.added.parts ≤ g.L.Ledger.parts) × (l.cut ≡ l.fn.cut)
    × (All (λ (h : Known). h.cut ≤ l.fn.cut.at) l.handles.items → All (λ (h : Known). h.cut ≤ l.fn.cut.at) l.fn.handles.items)

abbrev pub decreases-loop-handle : goal.decreases-loop-handle
decreases-loop-handle g l = goal.left-loop-handle g l
