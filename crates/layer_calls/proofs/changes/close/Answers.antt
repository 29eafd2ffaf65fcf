use Rattle.std.proofs.Common.{inl}
use Rattle.layer_calls.proofs.changes.close.Goals as goal

pub returns : goal.returns
returns c = inl (c.in_ok-schema.schema, c.in_ok-schema.ensures, c.close_before.ensures)
