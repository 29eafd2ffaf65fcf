use Rattle.std.proofs.Common.{◌≡◌, List, Result, Ok, Err, IfOk, subst}
use Rattle.std.specs.FinMap as map
use Rattle.keycode.specs.Order.{bytes_cmp}
use Rattle.row_map.specs.Expect.{View}
use Rattle.row_write.specs.declared.op.RowOp.{RowOp}
use Rattle.schema_version.specs.Version.{Version}
use Rattle.script_session.specs.declared.session.ServerLease.{ServerLease}
use Rattle.script_session.specs.State.{State}
use Rattle.script_session.specs.Calls.{IsReadView}
use Rattle.typed_calls.specs.Reads.{AreReads}
use Rattle.typed_calls.specs.Writes.{IsReadFor}
use Rattle.typed_calls.proofs.writes.read_for.Goals as goal

-- the keys are those that the operations read under the schema of the lease
read_so :
    {E : Type 0} (world : State) (held : ServerLease) (ops items : List RowOp) (schema : Version) (keys : map.FinMap bytes_cmp (Unit {0})) (read : Result View E)
    → schema ≡ held.schema → items ≡ ops → AreReads schema items keys → IfOk read (λ view. IsReadView world keys view) → IfOk read (λ view. IsReadFor world held ops view)
read_so world held ops items schema keys (Ok view) of same reads is = (
  keys,
  subst (λ (s : Version). AreReads s ops keys) of (subst (λ (l : List RowOp). AreReads schema l keys) same reads),
  is,
)
read_so world held ops items schema keys (Err fault) of same reads is = is

pub returns : goal.returns
returns c =
    read_so c.args.world.now c.args.held.now c.args.ops.now c.as_slice.result.now c.get.result.now c.in_ok-keys.keys c.read.result c.get.ensures c.as_slice.ensures
    c.in_ok-keys.ensures c.read.ensures
