use Rattle.std.proofs.Common.{sym, ap, ◌∙◌}
use Rattle.std.specs.FinMap as map
use Rattle.script_session.proofs.UnderLease.{txn_under}
use Rattle.script_session.proofs.answer.txn.Goals as goal

pub returns : goal.returns
returns c =
    txn_under c.args.opened.now c.args.server.now c.in-Some.held.now c.args.moment c.args.operations _ c.transact-how.new.world _ _
    (ap (map.get c.args.opened.now.leases) (sym c.as_bytes.ensures.value) ∙ sym c.in-Some.ensures)
    c.transact-how.ensures
    (c.reply.ensures.text ∙ c.in_ok-transacted_line.ensures)
    c.reply.ensures.good
