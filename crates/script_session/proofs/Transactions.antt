-- A transaction that was read and prepared, as the script's operations say it.
use Rattle.std.proofs.Common.{◌≡◌, List, Some, subst, ◌∙◌}
use Rattle.std.specs.Prelude.{◌↔◌}
use Rattle.std.specs.FinMap as map
use Rattle.keycode.specs.Order.{bytes_cmp}
use Rattle.collections.specs.Refusal.{IsRefusal, IsClear}
use Rattle.row_map.specs.Rows.{Bytes}
use Rattle.row_map.specs.Expect.{View}
use Rattle.schema_version.specs.Version.{Version}
use Rattle.row_write.specs.declared.op.RowOp.{RowOp}
use Rattle.row_write.specs.declared.fault.PrepareFault.{PrepareFault}
use Rattle.row_write.specs.declared.fault.PrepareFault.TheVariants as prepare
use Rattle.row_write.specs.Made.{PreparedTxn, expects}
use Rattle.row_write.specs.Prepare.{Condition, rank, IsPrepared}
use Rattle.row_write.specs.Reads.{IsRead}
use Rattle.script_replies.specs.Calls.{IsReadView}
use Rattle.script_replies.specs.State.{State}
use Rattle.script_session.specs.declared.session.ServerLease.{ServerLease}
use Rattle.script_session.specs.Prepare.{IsReadOf, IsPreparedFor}

module _ (w : State) (held : ServerLease) (s : Version) (ops given : List RowOp) (same : s ≡ held.schema) (named : ops ≡ given) where
  pub read_of : (keys : map.FinMap bytes_cmp (Unit {0})) (view : View) → ((key : Bytes) → (map.get keys key ≡ Some tt) ↔ IsRead s ops key) → IsReadView w keys view → IsReadOf w held.schema given view
  read_of keys view keyed read =
      let keyed_so : ((key : Bytes) → (map.get keys key ≡ Some tt) ↔ IsRead held.schema given key) =
      subst (λ (o : List RowOp). (key : Bytes) → (map.get keys key ≡ Some tt) ↔ IsRead held.schema o key) named
      (subst (λ (v : Version). (key : Bytes) → (map.get keys key ≡ Some tt) ↔ IsRead v ops key) same keyed) in
      λ key value. (
        (λ e. ((keyed_so key).0 ((read key value).0 e).0, ((read key value).0 e).1)),
        (λ q. (read key value).1 ((keyed_so key).1 q.0, q.1)),
      )

  pub refused_of : (view : View) (fault : PrepareFault) → IsRefusal rank (Condition s ops view) prepare.Memory fault → IsRefusal rank (Condition held.schema given view) prepare.Memory fault
  refused_of view fault refusal =
      subst (λ (o : List RowOp). IsRefusal rank (Condition held.schema o view) prepare.Memory fault) named
      (subst (λ (v : Version). IsRefusal rank (Condition v ops view) prepare.Memory fault) same refusal)

  pub prepared_for : (view : View) (p : PreparedTxn) → IsReadOf w held.schema given view → (p.schema ≡ s) × (p.lease ≡ held.lease) × (p.ops ≡ ops) × (p.expect ≡ expects view) → IsClear (Condition s ops view) → IsPrepared s ops view p.reported p.batch → IsPreparedFor w held given p
  prepared_for view p read holds clear so = record {
    schema = holds.0 ∙ same;
    lease_is = holds.1;
    operations = holds.2 ∙ named;
    view = view;
    read = read;
    expected = holds.3;
    clear =
        subst (λ (o : List RowOp). IsClear (Condition held.schema o view)) named
        (subst (λ (v : Version). IsClear (Condition v ops view)) same clear);
    prepared_so =
        subst (λ (o : List RowOp). IsPrepared held.schema o view p.reported p.batch) named
        (subst (λ (v : Version). IsPrepared v ops view p.reported p.batch) same so);
  }
