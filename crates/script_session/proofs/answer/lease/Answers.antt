use Rattle.std.proofs.Common.{Ok, Err, ap, ◌∙◌}
use Rattle.std.specs.FinMap as map
use Rattle.script_session.specs.declared.session.Session.{Session}
use Rattle.script_session.specs.declared.session.Session.TheVariants.{Running}
use Rattle.script_session.proofs.answer.lease.Goals as goal

pub returns-in_ok-insert-in-Ok : goal.returns-in_ok-insert-in-Ok
returns-in_ok-insert-in-Ok c = (
  Ok c.in-Ok.grant,
  c.lease.new.self,
  c.in-Ok.ensures.step,
  (
    (c.reply-answer.ensures.text ∙ c.in_ok-lease_line-in-Ok.ensures, c.reply-answer.ensures.good),
    ap (λ m. let s : Session = Running (record { world = c.lease.new.self; leases = m; pending = c.args.opened.now.pending; plan = c.args.opened.now.plan }) in s)
        (c.in_ok-insert-in-Ok.ensures.ok ∙ ap (λ k. map.insert c.args.opened.now.leases k (record { lease = c.in-Ok.grant.lease; schema = c.in-Ok.grant.schema })) c.in_ok-name.ensures),
  ),
)

pub returns-in_ok-grant_refusal-in-Err : goal.returns-in_ok-grant_refusal-in-Err
returns-in_ok-grant_refusal-in-Err c = (
  Err c.in-Err.fault,
  c.lease.new.self,
  c.in-Err.ensures.step,
  (
    (c.reply.ensures.text ∙ c.in_ok-grant_refusal-in-Err.ensures, c.reply.ensures.good),
    ap (λ w. let s : Session = Running (record { world = w; leases = c.args.opened.now.leases; pending = c.args.opened.now.pending; plan = c.args.opened.now.plan }) in s) c.in-Err.ensures.step.1,
  ),
)
