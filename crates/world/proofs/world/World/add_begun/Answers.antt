use Rattle.world.proofs.Begins.{begin_entry, begin_held}
use Rattle.world.proofs.Invariant.{logged}
use Rattle.world.proofs.world.World.add_begun.Goals as goal

pub invariant_of-self-2 : goal.invariant_of-self-2
invariant_of-self-2 c =
    begin_held c.self.inside c.args.self.now c.args.now c.args.element c.args.pieces c.args.progress c.push.new.self c.enter.new.self c.enter.result c.lemma_begins_keep.ensures c.self.invariant c.self.view_is c.requires.later c.requires.begins c.in_ok-push.ensures.items
    (logged c.self.inside.log c.make_ready.new.self c.enter.new.self c.in_ok-draft.draft (begin_entry c.args.now c.args.element c.args.pieces) c.enter.result c.in_ok-draft.ensures.entries c.in_ok-draft.ensures.draft
    c.enter.ensures.entries c.enter.ensures.moment c.enter.ensures.receipt)
