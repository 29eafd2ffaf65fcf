-- It names no thread's key, so it may go to another thread.
use base.Growing.{at_least}
use denote.Param.Send.{IsSend}
use Rattle.high_water.specs.contracts.Reached.{the_row}

pub send : IsSend the_row
unfolding at_least
send = record { owned = λ d vs. ((λ vss. (tt, ((λ uss. (tt, tt)), tt))), tt); leaving = λ k f vs. tt }
