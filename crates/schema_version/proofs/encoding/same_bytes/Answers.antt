use Rattle.byte_map.proofs.Order.{told_same}
use Rattle.schema_version.proofs.encoding.same_bytes.Goals as goal

pub returns : goal.returns
returns c = told_same c.args.a.now c.args.b.now c.is_same.result c.is_same.ensures
