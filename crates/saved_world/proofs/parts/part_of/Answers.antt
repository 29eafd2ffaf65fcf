use Rattle.std.proofs.Common.{rules}
use Rattle.saved_world.proofs.Cuts.{no_number, cut_part, whole_part}
use Rattle.saved_world.proofs.parts.part_of.Goals as goal

pub returns-in_default-clause-none : goal.returns-in_default-clause-none
returns-in_default-clause-none c = no_number c.args.bytes.now c.in_default.ensures.none

pub returns-then-rest-len-clause-none : goal.returns-then-rest-len-clause-none
returns-then-rest-len-clause-none c = cut_part c.args.bytes.now c.in-Some.len c.in-Some.rest.now c.in-Some.ensures.found (search rules)

pub returns-clause-found : goal.returns-clause-found
returns-clause-found c =
    whole_part c.args.bytes.now c.in-Some.len c.in-Some.rest.now c.split_at.result.0.now c.split_at.result.1.now c.in-Some.ensures.found (search rules) c.split_at.ensures.front c.split_at.ensures.back
