use Rattle.std.proofs.Common.{◌+◌, arith}
use Rattle.schema_version.specs.Names.{max_elements}
use Rattle.change_plan.proofs.EntryNumbers.{number_room}
use Rattle.change_plan.proofs.numbers.number_of.Goals as goal

pub overflow_cast-result : goal.overflow_cast-result
overflow_cast-result c = omega (arith, c.count_before.ensures, number_room c.args.all.now c.args.next c.args.place c.args.wait (max_elements + 1) c.requires.room)

pub overflow_add-result : goal.overflow_add-result
overflow_add-result c = omega (arith, c.count_before.ensures, number_room c.args.all.now c.args.next c.args.place c.args.wait (max_elements + 1) c.requires.room)

pub overflow_cast-result-2 : goal.overflow_cast-result-2
overflow_cast-result-2 c = omega (arith, c.count_at.ensures, number_room c.args.all.now c.args.next c.args.place c.args.wait (max_elements + 1) c.requires.room)

pub overflow_add-result-2 : goal.overflow_add-result-2
overflow_add-result-2 c = omega (arith, c.count_before.ensures, c.count_at.ensures, number_room c.args.all.now c.args.next c.args.place c.args.wait (max_elements + 1) c.requires.room)
