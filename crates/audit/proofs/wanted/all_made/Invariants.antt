use Rattle.std.proofs.Common.{◌≡◌, take}
use Rattle.std.specs.List.{AllByRecursion}
use mathlib.Core.List.{map as each}
use Rattle.schema_version.specs.Version.{live}
use Rattle.audit.specs.inner.Made.{definition_of, IsMade}
use Rattle.audit.proofs.wanted.all_made.Given as goal

abbrev pub invariant-loop-definition : goal.invariant-loop-definition
invariant-loop-definition l = record {
  made : AllByRecursion (IsMade l.schema) l.all.items;
  live : each definition_of l.all.items ≡ take l.definition-index (live l.schema);
}
