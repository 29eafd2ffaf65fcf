use Rattle.element_state.proofs.Whole.{commit_all_kept, begin_kept}
use Rattle.element_state.proofs.Publications.{publish_kept}
use Rattle.element_state.proofs.Reaches.{fill_puts_kept}
use Rattle.element_state.proofs.Opening.{opened_holds}
use Rattle.element_state.specs.Versions.{the_kinds}
use Rattle.element_state.proofs.Clears.{clear_keeps}
use Rattle.element_state.proofs.laws.core_keeps.Goals as goal

pub returns-clause-opening : goal.returns-clause-opening
returns-clause-opening c = opened_holds the_kinds

pub returns-clause-transaction : goal.returns-clause-transaction
returns-clause-transaction c = λ w s cs used runs i. commit_all_kept the_kinds cs w s used runs i

pub returns-clause-publication : goal.returns-clause-publication
returns-clause-publication c = publish_kept the_kinds

pub returns-clause-begin : goal.returns-clause-begin
returns-clause-begin c = begin_kept the_kinds

pub returns-clause-fill : goal.returns-clause-fill
returns-clause-fill c = fill_puts_kept the_kinds

pub returns-clause-clear : goal.returns-clause-clear
returns-clause-clear c = clear_keeps
