use Rattle.std.proofs.Common.{◌≡◌, List, subst}
use Rattle.std.specs.FinMap as map
use Rattle.keycode.specs.Order.{bytes_cmp}
use Rattle.row_write.specs.declared.op.RowOp.{RowOp}
use Rattle.schema_version.specs.Version.{Version}
use Rattle.typed_calls.specs.Reads.{AreReads}
use Rattle.typed_calls.proofs.reads.coded.Goals as goal

-- the keys are those that the operations read under the schema of the lease
are_reads : (held schema : Version) (ops items : List RowOp) (keys : map.FinMap bytes_cmp (Unit {0})) → schema ≡ held → items ≡ ops → AreReads schema items keys → AreReads held ops keys
are_reads held schema ops items keys of same reads = subst (λ (s : Version). AreReads s ops keys) of (subst (λ (l : List RowOp). AreReads schema l keys) same reads)

pub returns-in-Ok-reads_of : goal.returns-in-Ok-reads_of
returns-in-Ok-reads_of c = (
  c.in-Ok.ensures.read.1,
  c.in-Ok.ensures.read.0,
  are_reads c.args.held.now.schema c.get.result.now c.in-Ok.ops c.as_slice.result.now c.in-Ok-reads_of.keys c.get.ensures c.as_slice.ensures c.in-Ok-reads_of.ensures,
)
