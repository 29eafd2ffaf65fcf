use Rattle.std.proofs.Common.{refl}
use Rattle.pair_changes.proofs.Steps.{is_end, step_before, step_after, step_less, step_same, step_greater}
use Rattle.pair_changes.proofs.changes.next_found.Goals as goal

pub returns-in-None-None : goal.returns-in-None-None
returns-in-None-None c = is_end c.args.before.now c.args.after.now c.in-None-None.ensures c.in-None-None.ensures'

pub returns-in-None-Some : goal.returns-in-None-Some
returns-in-None-Some c =
    let it = c.in-None-Some in
    step_after _ it.key.now it.value.now c.args.before.now c.args.after.now c.skip.new.self refl it.ensures it.ensures' c.skip.ensures

pub returns-in-Some-None : goal.returns-in-Some-None
returns-in-Some-None c =
    let it = c.in-Some-None in
    step_before _ it.key.now it.value.now c.args.before.now c.args.after.now c.skip-in-Some-None.new.self refl it.ensures it.ensures' c.skip-in-Some-None.ensures

pub returns-in-Less : goal.returns-in-Less
returns-in-Less c =
    let it = c.in-Some-Some in
    step_less _ it.key.now it.old.now it.other.now it.new.now c.args.before.now c.args.after.now c.skip-in-Less.new.self refl (cc) it.ensures it.ensures' c.skip-in-Less.ensures

pub returns-in-Greater : goal.returns-in-Greater
returns-in-Greater c =
    let it = c.in-Some-Some in
    step_greater _ it.key.now it.old.now it.other.now it.new.now c.args.before.now c.args.after.now c.skip-in-Greater.new.self refl (cc) it.ensures it.ensures' c.skip-in-Greater.ensures

pub returns-in-Equal : goal.returns-in-Equal
returns-in-Equal c =
    let it = c.in-Some-Some in
    step_same _ it.key.now it.old.now it.other.now it.new.now c.args.before.now c.args.after.now c.skip-in-Equal.new.self c.skip-in-Equal-2.new.self refl (cc) it.ensures it.ensures' c.skip-in-Equal.ensures c.skip-in-Equal-2.ensures
