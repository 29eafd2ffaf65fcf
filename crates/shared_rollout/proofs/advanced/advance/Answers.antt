use Rattle.std.proofs.Common.{◌≡◌, ◌∙◌, false, true, sym, refl}
use Rattle.shared_rollout.proofs.Acts.{acts_as, acts_counted, acts_done, acts_order, acts_refused, acts_seen, any_ok}
use Rattle.shared_rollout.proofs.advanced.advance.Goals as goal

pub returns-clause-done : goal.returns-clause-done
returns-clause-done g c = acts_done g.L.SharedLedger.start _ c.args.me.now c.do_act.new.me c.do_act.result (acts_as g.L.SharedLedger.start c.args.moment c.args.pieces c.args.limit c.args.tries c.front.result c.args.me.now.front c.args.me.now c.do_act.new.me c.do_act.result c.front.ensures c.do_act.ensures)

pub returns-clause-refused : goal.returns-clause-refused
returns-clause-refused g c = acts_refused g.L.SharedLedger.start _ c.args.me.now c.do_act.new.me c.do_act.result (acts_as g.L.SharedLedger.start c.args.moment c.args.pieces c.args.limit c.args.tries c.front.result c.args.me.now.front c.args.me.now c.do_act.new.me c.do_act.result c.front.ensures c.do_act.ensures)

pub returns-clause-counted : goal.returns-clause-counted
returns-clause-counted g c = acts_counted g.L.SharedLedger.start _ c.args.me.now c.do_act.new.me c.do_act.result c.do_act.ensures

pub returns-clause-numbers : goal.returns-clause-numbers
returns-clause-numbers g c = any_ok c.do_act.result (c.are_numbers.ensures.0 c.if-not-are_numbers.false)

pub returns-clause-seen : goal.returns-clause-seen
returns-clause-seen g c = acts_seen g.L.SharedLedger.start _ c.args.me.now c.do_act.new.me c.do_act.result c.do_act.ensures

pub returns-clause-order : goal.returns-clause-order
returns-clause-order g c = acts_order g.L.SharedLedger.start _ c.args.me.now c.do_act.new.me c.do_act.result (c.are_numbers.ensures.0 c.if-not-are_numbers.false) c.do_act.ensures

pub returns-then-not-are_numbers-clause-order : goal.returns-then-not-are_numbers-clause-order
returns-then-not-are_numbers-clause-order g c =
    (λ _. λ p. let e : false ≡ true = sym c.if-not-are_numbers.true ∙ c.are_numbers.ensures.1 p in absurd cc, λ _. refl)
