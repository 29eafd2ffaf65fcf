use Rattle.checkpoint_laws.proofs.Calls.{both_ways, calls_answer_alike, runs_answer_alike}
use Rattle.checkpoint_laws.proofs.Later.{checkpoints_open_alike, accepted_go_on, runs_go_on, alike_states_answer_alike}
use Rattle.checkpoint_laws.proofs.laws.checkpoints_go_on.Goals as goal

pub returns-clause-open : goal.returns-clause-open
returns-clause-open c = checkpoints_open_alike

pub returns-clause-accepted : goal.returns-clause-accepted
returns-clause-accepted c = accepted_go_on

pub returns-clause-all : goal.returns-clause-all
returns-clause-all c = runs_go_on

pub returns-clause-answers : goal.returns-clause-answers
returns-clause-answers c = alike_states_answer_alike

pub returns-clause-calls : goal.returns-clause-calls
returns-clause-calls c = calls_answer_alike

pub returns-clause-runs : goal.returns-clause-runs
returns-clause-runs c = runs_answer_alike

pub returns-clause-symmetric : goal.returns-clause-symmetric
returns-clause-symmetric c = both_ways
