use Rattle.std.proofs.Common.{length}
use Rattle.schema_version.proofs.restore.+have_room.Given as goal

abbrev pub decreases-have_room : goal.decreases-have_room
decreases-have_room l = length l.tables.now
