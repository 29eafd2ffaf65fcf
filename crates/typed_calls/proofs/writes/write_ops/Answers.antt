use Rattle.std.proofs.Common.{inl}
use Rattle.typed_calls.proofs.writes.write_ops.Goals as goal

pub returns-in-Ok : goal.returns-in-Ok
returns-in-Ok c = inl (c.in-Ok.view, c.in-Ok.ensures, c.write_read.ensures)
