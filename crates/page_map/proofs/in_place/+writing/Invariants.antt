use Rattle.std.proofs.Common.{◌+◌, length}
use Rattle.page_map.proofs.in_place.+writing.Given as goal

abbrev pub decreases-write_chunks : goal.decreases-write_chunks
decreases-write_chunks l = length l.chunks.now + length l.chunks.now + length l.writes.now

abbrev pub decreases-write_pages : goal.decreases-write_pages
decreases-write_pages l = length l.behind.now + length l.behind.now + 1 + (length l.here.now + length l.later.now)
