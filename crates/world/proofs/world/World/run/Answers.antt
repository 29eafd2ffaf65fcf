use Rattle.std.proofs.Common.{◌≡◌, ◌++◌, ◌∷◌, [], ◌+◌, ◌∙◌, length, ap, sym, subst, rules, arith}
use Rattle.world.specs.Run.{Runs}
use Rattle.world.proofs.Runs.{one_more, longer}
use Rattle.world.proofs.world.World.run.Goals as goal

pub loop-event-preserved : goal.loop-event-preserved
loop-event-preserved c =
    let items : c.push.new.self.items ≡ c.loop-event.replies.items ++ c.happen-reply.result ∷ [] = search rules in
    record {
      ran = subst (λ rs. Runs c.args.self.now (c.loop-event.yielded ++ c.in-Some.event ∷ []) rs c.happen-reply.new.self) (sym items)
          (one_more c.args.self.now c.loop-event.self c.happen-reply.new.self c.loop-event.yielded c.loop-event.replies.items c.in-Some.event c.happen-reply.result c.loop-event.invariant.ran c.happen-reply.ensures.step c.happen-reply.ensures.replayed c.happen-reply.ensures.agrees);
      many = ap length items ∙ longer c.loop-event.replies.items c.happen-reply.result ∙ ap (λ n. n + 1) c.loop-event.invariant.many ∙ sym (longer c.loop-event.yielded c.in-Some.event);
      room = omega (arith, c.loop-event.invariant.room, c.push.ensures.capacity);
    }
