use Rattle.std.proofs.Common.{◌≡◌, drop, take}
use Rattle.keycode.specs.Valid.{AreValues}
use Rattle.row_write.specs.inner.Checks.{is_key_for}
use Rattle.row_write.proofs.check.is_key_for.Given as goal

abbrev pub invariant-loop-i : goal.invariant-loop-i
invariant-loop-i l = record {
  rest : is_key_for (drop l.i l.columns) (drop l.i l.key) ≡ is_key_for l.columns l.key;
  known : AreValues (take l.i l.key);
}
