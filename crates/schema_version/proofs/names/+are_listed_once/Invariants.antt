use Rattle.std.proofs.Common.{length}
use Rattle.schema_version.proofs.names.+are_listed_once.Given as goal

abbrev pub decreases-are_listed_once : goal.decreases-are_listed_once
decreases-are_listed_once l = length l.names.now
