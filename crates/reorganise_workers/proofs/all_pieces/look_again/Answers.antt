use Rattle.std.proofs.Common.{◌≤◌, ℕ, List, All, ap, subst, sym}
use Rattle.locked_store.specs.Known.{Known}
use Rattle.reorganise_workers.specs.Ends.{HasSeen}
use Rattle.reorganise_workers.specs.declared.job.Job.{Job}
use Rattle.reorganise_workers.proofs.Reorganises.{had_still, ok_map}
use Rattle.reorganise_workers.proofs.all_pieces.look_again.Goals as goal

pub returns-clause-had : goal.returns-clause-had
returns-clause-had g c =
    ok_map c.job_of-found.result c.job_of-found.ensures.job
    (λ job is. subst (λ (most : ℕ). All (λ (h : Known). HasSeen g.L.SharedLedger.start most h.front) c.push_reserved.new.self.items) (sym (ap (λ (j : Job). j.most) is.1))
    (had_still g.L.SharedLedger.start c.most_front-most.result c.args.handles.now.items c.pop.new.self.items c.push_reserved.new.self.items c.in-Some.me c.job_of-found.new.me c.in-Some.ensures.items c.push_reserved.ensures.items
    (c.job_of-found.ensures.stays c.most_front-most.result)
    (subst (λ (hs : List Known). All (λ (h : Known). h.front ≤ c.most_front-most.result) hs) c.as_slice-2.ensures.value c.most_front-most.ensures.seen)))
