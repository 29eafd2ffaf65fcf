use Rattle.std.proofs.Common.{◌≤◌, Some, arith, rules}
use Rattle.std.proofs.lemmas.Grind.{common_steps}
use Rattle.std.proofs.lemmas.List.Elements.{All-pop}
use Rattle.locked_store.specs.Known.{Known}
use Rattle.reorganise_workers.specs.Ends.{HasSeen}
use Rattle.reorganise_workers.proofs.all_pieces.make_workers.Goals as goal

pub invariant_of-push_reserved : goal.invariant_of-push_reserved
invariant_of-push_reserved g c =
    record {
      job = search rules;
      seen = search rules;
      risen = search rules;
      had = (All-pop (λ (h : Known). HasSeen g.L.SharedLedger.start c.args.job.most h.front) c.loop-handle.handles.items c.pop.new.self.items (Some c.in-Some.handle) c.in-Some.ensures.items c.loop-handle.invariant.6).1;
      pieces = search rules;
    }

pub loop-handle-preserved : goal.loop-handle-preserved
loop-handle-preserved g c = (
  search rules,
  search rules,
  search rules,
  grind (arith, common_steps),
  grind (arith, common_steps),
  (All-pop (λ (h : Known). c.args.job.front ≤ h.front) c.loop-handle.handles.items c.pop.new.self.items (Some c.in-Some.handle) c.in-Some.ensures.items c.loop-handle.invariant.5).0,
  (All-pop (λ (h : Known). HasSeen g.L.SharedLedger.start c.args.job.most h.front) c.loop-handle.handles.items c.pop.new.self.items (Some c.in-Some.handle) c.in-Some.ensures.items c.loop-handle.invariant.6).0,
)
