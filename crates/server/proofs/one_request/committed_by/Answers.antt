use Rattle.std.proofs.Common.{inr}
use Rattle.locked_store.specs.CommitFault.TheVariants as commit_fault
use Rattle.server.proofs.Says.{done_says, refused_says, back_says, fault_says, ended_last}
use Rattle.server.proofs.one_request.committed_by.Goals as goal

pub returns-in-Ok-Done-clause-own : goal.returns-in-Ok-Done-clause-own
returns-in-Ok-Done-clause-own g c f m n requests at = done_says (g.P.Port.may f m) c.args.request.now.moment c.args.prepared.ops _ c.requires.of_request c.in-Ok-Done.field-0 _ c.in-Ok-Done.field-0-is (c.in-Ok-Done.ensures.says f m at)

pub returns-in-Ok-Refused-clause-own : goal.returns-in-Ok-Refused-clause-own
returns-in-Ok-Refused-clause-own g c f m n requests at = refused_says (g.P.Port.may f m) c.args.request.now.moment c.args.prepared.ops _ c.requires.of_request c.in-Ok-Refused.field-0 _ _ c.in-Ok-Refused.field-0-is (c.in-Ok-Refused.ensures.says f m at)

pub returns-in-Err-WentBack-default-clause-own : goal.returns-in-Err-WentBack-default-clause-own
returns-in-Err-WentBack-default-clause-own g c f m n requests at =
    back_says (g.P.Port.may f m) c.args.request.now.moment c.args.prepared.ops c.in-Err-WentBack-default.field-0-0 _ c.in-Err-WentBack-default.field-0-0-is (c.in-Err-WentBack-default.ensures.says f m at)

pub returns-in-Err-World-Conflict-default-clause-failed : goal.returns-in-Err-World-Conflict-default-clause-failed
returns-in-Err-World-Conflict-default-clause-failed g c f m at = (
  commit_fault.Conflict c.in-Err-World-Conflict-default.field-0-0-0-0,
  (
    tt,
    fault_says (g.P.Port.may f m) c.args.request.now.moment c.args.prepared.ops c.args.request.now.ops c.requires.of_request c.in-Err-World-Conflict-default.field-0-0
        c.in-Err-World-Conflict-default.field-0-0-0 (commit_fault.Conflict c.in-Err-World-Conflict-default.field-0-0-0-0) c.in-Err-World-Conflict-default.field-0-0-is c.in-Err-World-Conflict-default.field-0-0-0-is (c.in-Err-World-Conflict-default.ensures.says f m at),
  ),
)

pub returns-in-Err-World-LeaseEnded-default-clause-again : goal.returns-in-Err-World-LeaseEnded-default-clause-again
returns-in-Err-World-LeaseEnded-default-clause-again g c =
    ended_last (g.P.Port.tally c.commit.new.self) _ c.in-Err-World-LeaseEnded-default.field-0-0 c.in-Err-World-LeaseEnded-default.field-0-0-0 c.in-Err-World-LeaseEnded-default.field-0-0-0-0 c.in-Err-World-LeaseEnded-default.field-0-0-0-1
    c.in-Err-World-LeaseEnded-default.field-0-0-is c.in-Err-World-LeaseEnded-default.field-0-0-0-is c.in-Err-World-LeaseEnded-default.ensures.tallied

pub returns-in-Err-World-LeaseEnded-default-clause-failed : goal.returns-in-Err-World-LeaseEnded-default-clause-failed
returns-in-Err-World-LeaseEnded-default-clause-failed g c f m at = (
  commit_fault.LeaseEnded c.in-Err-World-LeaseEnded-default.field-0-0-0-0 c.in-Err-World-LeaseEnded-default.field-0-0-0-1,
  (
    tt,
    fault_says (g.P.Port.may f m) c.args.request.now.moment c.args.prepared.ops c.args.request.now.ops c.requires.of_request c.in-Err-World-LeaseEnded-default.field-0-0
        c.in-Err-World-LeaseEnded-default.field-0-0-0 (commit_fault.LeaseEnded c.in-Err-World-LeaseEnded-default.field-0-0-0-0 c.in-Err-World-LeaseEnded-default.field-0-0-0-1) c.in-Err-World-LeaseEnded-default.field-0-0-is c.in-Err-World-LeaseEnded-default.field-0-0-0-is (c.in-Err-World-LeaseEnded-default.ensures.says f m at),
  ),
)

pub returns-in-Err-World-MomentTooLarge-default-clause-own : goal.returns-in-Err-World-MomentTooLarge-default-clause-own
returns-in-Err-World-MomentTooLarge-default-clause-own g c f m n requests at =
    inr (
      tt,
      fault_says (g.P.Port.may f m) c.args.request.now.moment c.args.prepared.ops c.args.request.now.ops c.requires.of_request c.in-Err-World-MomentTooLarge-default.field-0-0
          c.in-Err-World-MomentTooLarge-default.field-0-0-0 commit_fault.MomentTooLarge c.in-Err-World-MomentTooLarge-default.field-0-0-is c.in-Err-World-MomentTooLarge-default.field-0-0-0-is (c.in-Err-World-MomentTooLarge-default.ensures.says f m at),
    )

pub returns-in-Err-World-BadLease-default-clause-own : goal.returns-in-Err-World-BadLease-default-clause-own
returns-in-Err-World-BadLease-default-clause-own g c f m n requests at =
    inr (
      tt,
      fault_says (g.P.Port.may f m) c.args.request.now.moment c.args.prepared.ops c.args.request.now.ops c.requires.of_request c.in-Err-World-BadLease-default.field-0-0
          c.in-Err-World-BadLease-default.field-0-0-0 commit_fault.BadLease c.in-Err-World-BadLease-default.field-0-0-is c.in-Err-World-BadLease-default.field-0-0-0-is (c.in-Err-World-BadLease-default.ensures.says f m at),
    )

pub returns-in-Err-World-WrongSchema-default-clause-own : goal.returns-in-Err-World-WrongSchema-default-clause-own
returns-in-Err-World-WrongSchema-default-clause-own g c f m n requests at =
    inr (
      tt,
      fault_says (g.P.Port.may f m) c.args.request.now.moment c.args.prepared.ops c.args.request.now.ops c.requires.of_request c.in-Err-World-WrongSchema-default.field-0-0
          c.in-Err-World-WrongSchema-default.field-0-0-0 commit_fault.WrongSchema c.in-Err-World-WrongSchema-default.field-0-0-is c.in-Err-World-WrongSchema-default.field-0-0-0-is (c.in-Err-World-WrongSchema-default.ensures.says f m at),
    )
