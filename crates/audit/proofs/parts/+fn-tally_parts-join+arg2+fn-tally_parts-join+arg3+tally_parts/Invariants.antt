use Rattle.std.proofs.Common.{◌+◌, ◌*◌, ◌-◌}
use Rattle.audit.proofs.parts.+fn-tally_parts-join+arg2+fn-tally_parts-join+arg3+tally_parts.Given as goal

-- each half has fewer threads
abbrev pub decreases-tally_parts : goal.decreases-tally_parts
decreases-tally_parts g l = 2 * l.threads

abbrev pub decreases-join+arg2 : goal.decreases-join+arg2
decreases-join+arg2 g l = 2 * l.half + 1

abbrev pub decreases-join+arg3 : goal.decreases-join+arg3
decreases-join+arg3 g l = 2 * (l.threads - l.half) + 1
