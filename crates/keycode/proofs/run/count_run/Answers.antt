use Rattle.std.proofs.Common.{sym, arith}
use Rattle.keycode.proofs.Runs.{run_to, run_of_all}
use Rattle.keycode.proofs.run.count_run.Goals as goal

pub returns-in-Some-clause-run : goal.returns-in-Some-clause-run
returns-in-Some-clause-run c =
    let ends = c.in-Some.ensures.0 in
    sym (run_to c.args.bytes.now c.in-Some.first ends.high (λ j l. ends.before j (omega arith) l) c.in-Some.ensures.1)

pub returns-in-None-clause-run : goal.returns-in-None-clause-run
returns-in-None-clause-run c = sym (run_of_all c.args.bytes.now (λ j l. c.in-None.ensures j (omega arith) l))
