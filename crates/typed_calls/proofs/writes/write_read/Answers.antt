use Rattle.std.proofs.Common.{inl}
use Rattle.typed_calls.proofs.writes.write_read.Goals as goal

pub returns-in-Ok : goal.returns-in-Ok
returns-in-Ok c = inl (c.in-Ok.prepared, c.in-Ok.ensures.prepared, c.commit_at_once.ensures)
