use Rattle.std.proofs.Common.{Ok, subst, refl, arith}
use Rattle.locked_store.specs.Advanced.TheVariants as advanced
use Rattle.shared_rollout.specs.Operator.{WasDue, WasDueAt}
use Rattle.shared_rollout.proofs.Attempts.{due_quiet, later, looked, unseen, was_due, was_due_at}
use Rattle.shared_rollout.proofs.attempt.attempt_act.Goals as goal

pub begin-requires-clause-seen : goal.begin-requires-clause-seen
begin-requires-clause-seen g c = omega (arith, c.requires.seen, (due_quiet g.L.SharedLedger.start c.args.ask.now c.args.me.now c.due.new.me (Ok c.in-Ok-Begin.field-0) c.in-Ok-Begin.ensures).2)

pub begin-requires-clause-due : goal.begin-requires-clause-due
begin-requires-clause-due g c =
    subst (WasDue g.L.SharedLedger.start c.args.ask.now) c.in-Ok-Begin.field-0-is
    (was_due g.L.SharedLedger.start c.args.ask.now c.args.me.now c.due.new.me c.in-Ok-Begin.field-0 c.requires.seen c.in-Ok-Begin.ensures)

pub returns-in-Ok-Begin : goal.returns-in-Ok-Begin
returns-in-Ok-Begin g c =
    let q = due_quiet g.L.SharedLedger.start c.args.ask.now c.args.me.now c.due.new.me (Ok c.in-Ok-Begin.field-0) c.in-Ok-Begin.ensures in
    later g.L.SharedLedger.start c.args.ask.now c.args.me.now c.due.new.me c.begin.new.me c.begin.result q.0 q.1 q.2 c.begin.ensures

pub publish-requires-clause-seen : goal.publish-requires-clause-seen
publish-requires-clause-seen g c = omega (arith, c.requires.seen, (due_quiet g.L.SharedLedger.start c.args.ask.now c.args.me.now c.due.new.me (Ok c.in-Ok-Publish.field-0) c.in-Ok-Publish.ensures).2)

pub publish-requires-clause-due : goal.publish-requires-clause-due
publish-requires-clause-due g c =
    subst (WasDue g.L.SharedLedger.start c.args.ask.now) c.in-Ok-Publish.field-0-is
    (was_due g.L.SharedLedger.start c.args.ask.now c.args.me.now c.due.new.me c.in-Ok-Publish.field-0 c.requires.seen c.in-Ok-Publish.ensures)

pub returns-in-Ok-Publish : goal.returns-in-Ok-Publish
returns-in-Ok-Publish g c =
    let q = due_quiet g.L.SharedLedger.start c.args.ask.now c.args.me.now c.due.new.me (Ok c.in-Ok-Publish.field-0) c.in-Ok-Publish.ensures in
    later g.L.SharedLedger.start c.args.ask.now c.args.me.now c.due.new.me c.publish.new.me c.publish.result q.0 q.1 q.2 c.publish.ensures

pub work-requires-clause-seen : goal.work-requires-clause-seen
work-requires-clause-seen g c = omega (arith, c.requires.seen, (due_quiet g.L.SharedLedger.start c.args.ask.now c.args.me.now c.due.new.me (Ok c.in-Ok-Work.field-0) c.in-Ok-Work.ensures).2)

pub work-requires-clause-due : goal.work-requires-clause-due
work-requires-clause-due g c =
    subst (WasDue g.L.SharedLedger.start c.args.ask.now) c.in-Ok-Work.field-0-is
    (was_due g.L.SharedLedger.start c.args.ask.now c.args.me.now c.due.new.me c.in-Ok-Work.field-0 c.requires.seen c.in-Ok-Work.ensures)

pub returns-in-Ok-Work : goal.returns-in-Ok-Work
returns-in-Ok-Work g c =
    let q = due_quiet g.L.SharedLedger.start c.args.ask.now c.args.me.now c.due.new.me (Ok c.in-Ok-Work.field-0) c.in-Ok-Work.ensures in
    later g.L.SharedLedger.start c.args.ask.now c.args.me.now c.due.new.me c.work.new.me c.work.result q.0 q.1 q.2 c.work.ensures

pub returns-in-Ok-Wait : goal.returns-in-Ok-Wait
returns-in-Ok-Wait g c =
    looked g.L.SharedLedger.start c.args.ask.now c.args.me.now c.due.new.me (advanced.Waiting c.in-Ok-Wait.until) refl
    (subst (WasDue g.L.SharedLedger.start c.args.ask.now) c.in-Ok-Wait.field-0-is
    (was_due g.L.SharedLedger.start c.args.ask.now c.args.me.now c.due.new.me c.in-Ok-Wait.field-0 c.requires.seen c.in-Ok-Wait.ensures))
    (subst (WasDueAt g.L.SharedLedger.start c.due.new.me.front c.args.ask.now.moment) c.in-Ok-Wait.field-0-is
    (was_due_at g.L.SharedLedger.start c.args.ask.now c.args.me.now c.due.new.me c.in-Ok-Wait.field-0 c.in-Ok-Wait.ensures))
    (due_quiet g.L.SharedLedger.start c.args.ask.now c.args.me.now c.due.new.me (Ok c.in-Ok-Wait.field-0) c.in-Ok-Wait.ensures)

pub returns-in-Ok-Nothing : goal.returns-in-Ok-Nothing
returns-in-Ok-Nothing g c =
    looked g.L.SharedLedger.start c.args.ask.now c.args.me.now c.due.new.me advanced.Finished refl
    (subst (WasDue g.L.SharedLedger.start c.args.ask.now) c.in-Ok-Nothing.field-0-is
    (was_due g.L.SharedLedger.start c.args.ask.now c.args.me.now c.due.new.me c.in-Ok-Nothing.field-0 c.requires.seen c.in-Ok-Nothing.ensures))
    (subst (WasDueAt g.L.SharedLedger.start c.due.new.me.front c.args.ask.now.moment) c.in-Ok-Nothing.field-0-is
    (was_due_at g.L.SharedLedger.start c.args.ask.now c.args.me.now c.due.new.me c.in-Ok-Nothing.field-0 c.in-Ok-Nothing.ensures))
    (due_quiet g.L.SharedLedger.start c.args.ask.now c.args.me.now c.due.new.me (Ok c.in-Ok-Nothing.field-0) c.in-Ok-Nothing.ensures)

pub returns-in-Err : goal.returns-in-Err
returns-in-Err g c =
    rw (c.of_look.ensures) (unseen g.L.SharedLedger.start c.args.ask.now c.args.me.now c.due.new.me c.in-Err.fault c.in-Err.ensures)
