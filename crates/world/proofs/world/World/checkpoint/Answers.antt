use Rattle.std.proofs.Common.{ap, ◌∙◌}
use Rattle.checkpoint_check.specs.Checkpoint.{checkpoint_of}
use Rattle.world.specs.Inside.{state_of}
use Rattle.world.specs.State.{facts_of, entry_count, State}
use Rattle.world.proofs.Wholes.{copied, whole_copied}
use Rattle.world.proofs.world.World.checkpoint.Goals as goal

pub invariant_of-result : goal.invariant_of-result
invariant_of-result c =
    whole_copied c.self.inside c.lemma_checkpoints_keep.ensures.whole c.self.invariant c.count.result _
    (copied c.self.inside c.self.invariant c.count.result c.moment.result c.in_ok-line.line c.in_ok-newest.newest c.in_ok-before.before c.in_ok-begun.begun.items c.in_ok-store.store c.moment.ensures c.in_ok-line.ensures c.in_ok-newest.ensures c.in_ok-before.ensures (c.in_ok-begun.ensures ∙ c.as_slice.ensures.value) c.in_ok-store.ensures)

pub returns : goal.returns
returns c =
    copied c.self.inside c.self.invariant c.count.result c.moment.result c.in_ok-line.line c.in_ok-newest.newest c.in_ok-before.before c.in_ok-begun.begun.items c.in_ok-store.store c.moment.ensures c.in_ok-line.ensures c.in_ok-newest.ensures c.in_ok-before.ensures (c.in_ok-begun.ensures ∙ c.as_slice.ensures.value) c.in_ok-store.ensures
    ∙ ap (λ n. checkpoint_of n (facts_of (state_of c.self.inside))) c.count.ensures.count
    ∙ ap (λ (s : State). checkpoint_of (entry_count s) (facts_of s)) c.self.view_is
