use Rattle.std.proofs.Common.{◌≡◌, drop, take}
use Rattle.keycode.specs.Valid.{AreValues}
use Rattle.value_faults.specs.Faults.{wrong_from, wrong_key}
use Rattle.value_faults.specs.inner.Found.{passes}
use Rattle.value_faults.proofs.values.wrong_key.Given as goal

abbrev pub invariant-loop-i : goal.invariant-loop-i
invariant-loop-i l = record {
  rest : wrong_from (passes l.rule) l.i (drop l.i l.columns) (drop l.i l.key) ≡ wrong_key (passes l.rule) l.columns l.key;
  known : AreValues (take l.i l.key);
}
