use Rattle.std.proofs.Common.{inl, inr, arith}
use Rattle.row_write.proofs.InOrder.{set_marked}
use Rattle.row_write.proofs.places.mark.Goals as goal

pub loop-i-preserved : goal.loop-i-preserved
loop-i-preserved c = λ k marked. elim (set_marked c.loop-i.marks c.loop-i.i k marked) [
  | inl same ↦ inr (omega (arith, same, c.loop-i.auto.i), omega (arith, same))
  | inr before ↦ elim (c.loop-i.invariant k before) [
    | inl old ↦ inl old
    | inr (low, high) ↦ inr (low, omega (arith, high))
  ]
]

pub returns : goal.returns
returns c = λ k marked. elim (c.loop-i.invariant k marked) [
  | inl old ↦ inl old
  | inr (low, high) ↦ inr (low, omega (arith, high, c.loop-i.auto.i-end (omega arith)))
]
