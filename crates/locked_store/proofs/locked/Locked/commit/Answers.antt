use Rattle.std.proofs.Common.{ap, ◌∙◌, subst, arith}
use Rattle.rollout.specs.Calls.{CommitStep, given_back}
use Rattle.rollout.specs.State.{State}
use Rattle.locked_store.specs.Cores.{IsCore}
use Rattle.locked_store.proofs.Growing.{commit, commit_before}
use Rattle.locked_store.proofs.locked.Locked.commit.Goals as goal

pub invariant_of-self : goal.invariant_of-self
invariant_of-self g c =
    let done = c.commit_counted-result in
    let step : CommitStep c.args.self.now c.args.moment c.args.prepared.now (given_back c.args.prepared.now done.result) done.new.world =
    subst (λ (s : State). CommitStep s c.args.moment c.args.prepared.now (given_back c.args.prepared.now done.result) done.new.world) c.self.view_is done.ensures.step in
    let core : IsCore g.L.SharedLedger.start done.new.world = record {
      grew = commit g.L.SharedLedger.start c.args.self.now done.new.world c.args.moment c.args.prepared.now (given_back c.args.prepared.now done.result) c.lemma_is_core.ensures.grew step;
      replayed = c.lemma_agrees.ensures.replayed;
      agrees = c.lemma_agrees.ensures.agrees;
      kept = c.lemma_agrees.ensures.kept;
    } in
    (core, omega (arith, done.ensures.added, c.self.invariant.1), omega (arith, done.ensures.total, c.self.invariant.2), c.self.invariant.3, omega (arith, commit_before c.self.inside.world done.new.world c.args.moment c.args.prepared.now (given_back c.args.prepared.now done.result) done.ensures.step, done.ensures.taken.0, c.self.invariant.4), omega (arith, commit_before c.self.inside.world done.new.world c.args.moment c.args.prepared.now (given_back c.args.prepared.now done.result) done.ensures.step, ap (λ w. w.at) done.ensures.taken.1, c.self.invariant.5), ap (λ w. w.name) done.ensures.taken.1 ∙ c.self.invariant.6, c.self.invariant.7, c.self.invariant.8)

pub returns : goal.returns
returns g c =
    let done = c.commit_counted-result in
    let step : CommitStep c.args.self.now c.args.moment c.args.prepared.now (given_back c.args.prepared.now done.result) done.new.world =
    subst (λ (s : State). CommitStep s c.args.moment c.args.prepared.now (given_back c.args.prepared.now done.result) done.new.world) c.self.view_is done.ensures.step in
    let core : IsCore g.L.SharedLedger.start done.new.world = record {
      grew = commit g.L.SharedLedger.start c.args.self.now done.new.world c.args.moment c.args.prepared.now (given_back c.args.prepared.now done.result) c.lemma_is_core.ensures.grew step;
      replayed = c.lemma_agrees.ensures.replayed;
      agrees = c.lemma_agrees.ensures.agrees;
      kept = c.lemma_agrees.ensures.kept;
    } in
    (c.lemma_is_core.ensures, core, c.requires, step, done.ensures.front, done.ensures.counts)
