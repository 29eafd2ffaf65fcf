use Rattle.std.proofs.Common.{sym}
use Rattle.element_check.proofs.Own.{found_by_own}
use Rattle.element_check.proofs.check.check_element.Goals as goal

pub make-requires : goal.make-requires
make-requires g c = found_by_own c.args.schema.now c.args.number c.in-Some.element.now (sym c.in-Some.ensures)
