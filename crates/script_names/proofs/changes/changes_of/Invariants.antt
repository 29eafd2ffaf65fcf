use Rattle.std.proofs.Common.{◌≡◌}
use Rattle.script_names.specs.Changes.{changes_of}
use Rattle.script_names.proofs.changes.changes_of.Given as goal

abbrev pub invariant-loop-change : goal.invariant-loop-change
invariant-loop-change l = l.found.items ≡ changes_of l.schema l.yielded
