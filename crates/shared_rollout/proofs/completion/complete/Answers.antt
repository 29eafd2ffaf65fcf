use Rattle.std.proofs.Common.{◌≡◌, ◌∙◌, false, true, sym, refl}
use Rattle.shared_rollout.specs.Operator.{AreNumbers, asked}
use Rattle.shared_rollout.proofs.Acts.{bad_count, finished_at, is_no_bad_count, no_act, one_act_more, refused_at}
use Rattle.shared_rollout.proofs.completion.complete.Goals as goal

pub returns-then-not-are_numbers-clause-stopped : goal.returns-then-not-are_numbers-clause-stopped
returns-then-not-are_numbers-clause-stopped g c =
    bad_count g.L.SharedLedger.start c.args.pieces c.args.limit c.args.tries c.args.me.now.front c.args.moment c.args.receipts.now.items c.args.me.now.front
    (λ p. let e : false ≡ true = sym c.if-not-are_numbers.true ∙ c.are_numbers.ensures.1 p in absurd cc)

pub returns-then-not-are_numbers-clause-order : goal.returns-then-not-are_numbers-clause-order
returns-then-not-are_numbers-clause-order g c =
    (λ _. λ p. let e : false ≡ true = sym c.if-not-are_numbers.true ∙ c.are_numbers.ensures.1 p in absurd cc, λ _. refl)

pub loop-i-init : goal.loop-i-init
loop-i-init g c = no_act g.L.SharedLedger.start c.args.pieces c.args.limit c.args.tries c.args.moment c.args.me.now c.args.receipts.now.items

pub loop-i-preserved : goal.loop-i-preserved
loop-i-preserved g c =
    one_act_more g.L.SharedLedger.start c.args.pieces c.args.limit c.args.tries c.args.moment c.loop-i.now c.front.result c.in-Ok-Some.next c.args.me.now c.loop-i.me c.act_and_keep.new.me c.args.receipts.now.items c.loop-i.receipts.items c.act_and_keep.new.receipts.items c.in-Ok-Some.field-0
    c.front.ensures c.in-Ok-Some.field-0-is c.loop-i.invariant c.in-Ok-Some.ensures

pub returns-in-Ok-None : goal.returns-in-Ok-None
returns-in-Ok-None g c =
    let end = finished_at g.L.SharedLedger.start c.args.pieces c.args.limit c.args.tries c.args.moment c.loop-i.now c.front.result c.args.me.now c.loop-i.me c.act_and_keep.new.me c.args.receipts.now.items c.loop-i.receipts.items c.act_and_keep.new.receipts.items c.in-Ok-None.field-0
    c.front.ensures c.in-Ok-None.field-0-is c.loop-i.invariant c.in-Ok-None.ensures in
    record {
      numbers = c.are_numbers.ensures.0 c.if-not-are_numbers.false;
      done = (c.loop-i.invariant.later, end.0);
      order = tt;
      stopped = tt;
      counted = end.1.counted;
      logged = end.1.logged;
      same = end.1.same;
      rises = end.1.rises;
    }

pub returns-in-Err : goal.returns-in-Err
returns-in-Err g c =
    let are : AreNumbers c.args.pieces c.args.limit c.args.tries = c.are_numbers.ensures.0 c.if-not-are_numbers.false in
    let end = refused_at g.L.SharedLedger.start c.args.pieces c.args.limit c.args.tries c.args.moment c.loop-i.now c.front.result c.args.me.now c.loop-i.me c.act_and_keep.new.me c.args.receipts.now.items c.loop-i.receipts.items c.act_and_keep.new.receipts.items c.in-Err.fault
    c.front.ensures c.loop-i.invariant c.in-Err.ensures in
    record {
      numbers = tt;
      done = tt;
      order = is_no_bad_count g.L.SharedLedger.start (asked c.loop-i.now c.args.pieces c.args.limit c.args.tries c.front.result) c.act_and_keep.new.me.front c.in-Err.fault are c.in-Err.ensures.says.0;
      stopped = end.0;
      counted = end.1.counted;
      logged = end.1.logged;
      same = end.1.same;
      rises = end.1.rises;
    }
