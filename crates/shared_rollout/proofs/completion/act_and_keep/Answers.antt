use Rattle.std.proofs.Common.{refl}
use Rattle.shared_rollout.proofs.Acts.{no_room, act_refused, acted}
use Rattle.shared_rollout.proofs.completion.act_and_keep.Goals as goal

pub returns-then-is_err : goal.returns-then-is_err
returns-then-is_err g c = no_room g.L.SharedLedger.start c.args.ask.now c.args.me.now c.args.me.now c.args.receipts.now.items c.reserve.new.self.items refl c.reserve.ensures.items

pub returns-in-Ok : goal.returns-in-Ok
returns-in-Ok g c =
    acted g.L.SharedLedger.start c.args.ask.now c.args.me.now c.do_act.new.me c.args.receipts.now.items c.reserve.new.self.items c.keep.new.receipts.items c.in-Ok.done c.keep.result
    c.reserve.ensures.items c.in-Ok.ensures c.keep.ensures.next c.keep.ensures.receipts

pub returns-in-Err : goal.returns-in-Err
returns-in-Err g c = act_refused g.L.SharedLedger.start c.args.ask.now c.args.me.now c.do_act.new.me c.args.receipts.now.items c.reserve.new.self.items c.in-Err.fault c.reserve.ensures.items c.in-Err.ensures
