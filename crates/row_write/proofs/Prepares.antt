-- When a transaction is refused, and when nothing stands against it.
use Rattle.std.proofs.Common.{◌≡◌, ◌<◌, ◌≤◌, List, length, Option, Some, None, inl, inr, refl, sym, subst, ◌∙◌, arith}
use Rattle.std.specs.List.{AllByRecursion}
use Rattle.collections.specs.Refusal.{IsFirst, IsRefusal, IsClear}
use Rattle.row_map.specs.Rows.{Rows}
use Rattle.row_map.specs.Expect.{View}
use Rattle.schema_version.specs.Version.{Version}
use Rattle.row_write.specs.declared.op.RowOp.{RowOp}
use Rattle.row_write.specs.declared.fault.PrepareFault.{PrepareFault}
use Rattle.row_write.specs.declared.fault.PrepareFault.TheVariants.{NoTable, NotPublic, WrongType, TooManyOps, ViewMismatch, Memory}
use Rattle.row_write.specs.Prepare.{rank, Condition, max_ops, Encodes, IsPrepared}
use Rattle.lease.specs.declared.lease.Lease.{Lease}
use Rattle.row_map.specs.Writes.{Batch}
use Rattle.row_write.specs.declared.op.RowOutcome.{RowOutcome}
use Rattle.row_write.specs.Made.{IsSound, IsMade, expects}
use Rattle.row_write.specs.inner.IndexedColumns.{IsServed}
use Rattle.row_write.specs.inner.Checks.{ops_check, AreKnownUntil}
use Rattle.row_write.specs.inner.View.{IsMissed}
use Rattle.row_write.proofs.Decides.{ops_first, ops_sound, sound_none, fault_condition, fault_lowest}

module _ (v : Version) (served : IsServed v) (ops : List RowOp) where
  pub faulty : (o : Option PrepareFault) (fault : PrepareFault) → AreKnownUntil v ops → o ≡ ops_check v ops → o ≡ Some fault → (view : View) → IsFirst rank (Condition v ops view) fault
  faulty o fault known test is view =
      let h = ops_first v served ops fault known (sym test ∙ is) in
      (fault_condition v served ops view fault h, fault_lowest v served ops view fault h)

  pub faultless : (o : Option PrepareFault) → AreKnownUntil v ops → o ≡ ops_check v ops → o ≡ None → AllByRecursion (IsSound v) ops
  faultless o known test is = ops_sound v served ops known (sym test ∙ is)

  module _ (sound : AllByRecursion (IsSound v) ops) (view : View) where
    -- no fault of an operation
    below_four : (other : PrepareFault) → rank other < 4 → ¬ (Condition v ops view other)
    below_four NoTable lt h = sound_none v served ops NoTable sound h
    below_four (NotPublic column) lt h = sound_none v served ops (NotPublic column) sound h
    below_four WrongType lt h = sound_none v served ops WrongType sound h
    below_four TooManyOps lt h = absurd (omega arith)
    below_four ViewMismatch lt h = absurd (omega arith)
    below_four Memory lt h = h

    pub too_many : max_ops < length ops → IsFirst rank (Condition v ops view) TooManyOps
    too_many many = (many, below_four)

    below_five : length ops ≤ max_ops → (other : PrepareFault) → rank other < 5 → ¬ (Condition v ops view other)
    below_five few NoTable lt h = sound_none v served ops NoTable sound h
    below_five few (NotPublic column) lt h = sound_none v served ops (NotPublic column) sound h
    below_five few WrongType lt h = sound_none v served ops WrongType sound h
    below_five few TooManyOps lt h = absurd (omega (arith, few, h))
    below_five few ViewMismatch lt h = absurd (omega arith)
    below_five few Memory lt h = h

    pub mismatched : length ops ≤ max_ops → (fault : PrepareFault) → IsMissed ((rows : Rows) → ¬ (Encodes v ops view rows)) fault → IsRefusal rank (Condition v ops view) Memory fault
    mismatched few fault (inl memory) = (inl memory, subst (λ f. (other : PrepareFault) → rank other < rank f → ¬ (Condition v ops view other)) (sym memory) (below_five few))
    mismatched few fault (inr (is, never)) =
        subst (IsRefusal rank (Condition v ops view) Memory) (sym is) (inr never, below_five few)

    pub clear : length ops ≤ max_ops → (rows : Rows) → Encodes v ops view rows → IsClear (Condition v ops view)
    clear few rows encoded NoTable h = sound_none v served ops NoTable sound h
    clear few rows encoded (NotPublic column) h = sound_none v served ops (NotPublic column) sound h
    clear few rows encoded WrongType h = sound_none v served ops WrongType sound h
    clear few rows encoded TooManyOps h = absurd (omega (arith, few, h))
    clear few rows encoded ViewMismatch h = h rows encoded
    clear few rows encoded Memory h = h

pub first_refusal : (v : Version) (ops : List RowOp) (view : View) (fault : PrepareFault) → IsFirst rank (Condition v ops view) fault → IsRefusal rank (Condition v ops view) Memory fault
first_refusal v ops view fault (holds, lower) = (inr holds, lower)

-- what is known of a transaction that was prepared
pub made_from : (visible v : Version) (looked ops : List RowOp) (lease : Lease) (view : View) (batch : Batch) (reported : RowOutcome) → visible ≡ v → looked ≡ ops
    → AllByRecursion (IsSound visible) looked × (length looked ≤ max_ops) → (rows : Rows) × Encodes visible looked view rows → IsPrepared visible looked view reported batch
    → IsMade (record { schema = v; lease = lease; ops = ops; expect = expects view; batch = batch; reported = reported })
made_from visible v looked ops lease view batch reported same_version same_ops sound some_rows prepared =
    subst (λ (w : Version). IsMade (record { schema = w; lease = lease; ops = ops; expect = expects view; batch = batch; reported = reported })) same_version
    (subst (λ (os : List RowOp). IsMade (record { schema = visible; lease = lease; ops = os; expect = expects view; batch = batch; reported = reported })) same_ops (record {
      sound = sound.0;
      few = sound.1;
      view = view;
      keys = some_rows.1.keys;
      expected = refl;
      prepared_so = prepared;
    }))
