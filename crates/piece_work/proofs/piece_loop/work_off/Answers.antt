use Rattle.std.proofs.Common.{refl, sym, subst, rules, zero, ◌≡◌, ◌+◌}
use Rattle.std.proofs.lemmas.Result.{err_from_is_err_and}
use Rattle.piece_work.specs.declared.fault.WorkFault.TheVariants as work_fault
use Rattle.piece_work.specs.WorkOff.{Rounds}
use Rattle.piece_work.proofs.Rounds.{stopped, stops_next, stops_commit, round, one_more}
use Rattle.piece_work.proofs.piece_loop.work_off.Goals as goal

pub returns-in_err-view : goal.returns-in_err-view
returns-in_err-view c =
    let p = err_from_is_err_and c.from_residual.result c.from_residual.ensures.1 in
    record {
      step = stopped c.args.world.now c.loop-view.world c.args.element c.args.moment c.args.limit c.loop-view.commits (work_fault.Read c.in_err-view.field-0.0) p.0 c.from_residual.result p.1 p.2 c.loop-view.invariant
          (stops_next c.loop-view.world c.args.element c.args.moment c.args.limit c.in_err-view.field-0.0 c.in_err-view.ensures);
    }

pub returns-in_default-checked_add : goal.returns-in_default-checked_add
returns-in_default-checked_add c =
    let read = rw c.in-Some.is at c.in_ok-view.ensures in
    record {
      step = (c.loop-view.commits, c.loop-view.invariant, stops_commit c.loop-view.world c.loop-view.world c.args.element c.args.moment c.args.limit c.in-Some.view work_fault.Memory read tt refl);
    }

pub returns-in_err-commit : goal.returns-in_err-commit
returns-in_err-commit c =
    let p = err_from_is_err_and c.from_residual-in_err-commit.result c.from_residual-in_err-commit.ensures.1 in
    let read = rw c.in-Some.is at c.in_ok-view.ensures in
    let refused = c.in_err-commit.ensures in
    record {
      step = stopped c.args.world.now c.commit.new.world c.args.element c.args.moment c.args.limit c.loop-view.commits c.in_err-commit.field-0.0 p.0 c.from_residual-in_err-commit.result p.1 p.2
          (subst (Rounds c.loop-view.commits c.args.world.now c.args.element c.args.moment c.args.limit) (sym refused.same) c.loop-view.invariant)
          (stops_commit c.loop-view.world c.commit.new.world c.args.element c.args.moment c.args.limit c.in-Some.view c.in_err-commit.field-0.0 read refused.refused refused.same);
    }

pub loop-view-preserved : goal.loop-view-preserved
loop-view-preserved c =
    let read = rw c.in-Some.is at c.in_ok-view.ensures in
    let done = c.in_ok-commit.ensures.done in
    let more : c.in-Some-checked_add.more ≡ c.loop-view.commits + 1 = search rules in
    one_more c.loop-view.commits c.in-Some-checked_add.more c.args.world.now c.loop-view.world c.commit.new.world c.args.element c.args.moment c.args.limit more c.loop-view.invariant
    (round c.loop-view.world c.commit.new.world c.args.element c.args.moment c.args.limit c.in-Some.view done.0 read done.1)
