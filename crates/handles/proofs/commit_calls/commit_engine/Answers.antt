use Rattle.std.proofs.Common.{◌≡◌, ℕ, Some, Err, refl}
use Rattle.row_write.specs.Made.{PreparedTxn}
use Rattle.typed_calls.specs.Commit.{CommitsIn}
use Rattle.typed_calls.specs.declared.bounded.BoundedWorld.{BoundedWorld}
use Rattle.typed_calls.specs.declared.refusals.TxnRefusal.{TxnRefusal}
use Rattle.handles.specs.declared.engine.Engine.{Engine}
use Rattle.handles.specs.declared.engine.Engine.TheVariants as engine
use Rattle.handles.specs.Commits.{CommitsEngine}
use Rattle.handles.proofs.commit_calls.commit_engine.Goals as goal

-- a transaction that is refused comes back
comes_back :
    (old new : BoundedWorld) (moment : ℕ) (e : Engine) (txn it : PreparedTxn) (refusal : TxnRefusal)
    → e ≡ engine.Txn txn → CommitsIn old moment txn (Err (refusal, it)) new → CommitsEngine old moment e (Err refusal) new (Some (engine.Txn it))
comes_back old new moment e txn it refusal is commits = rw is (it, commits, refl)

pub returns-in-Err : goal.returns-in-Err
returns-in-Err c =
    comes_back c.args.bounded.now c.commit.new.bounded c.args.moment c.args.engine c.in-Txn.txn c.in-Err.txn c.in-Err.refusal c.in-Txn.is c.in-Err.ensures
