use Rattle.std.proofs.Common.{◌≡◌, ◌∙◌, ◌+◌, drop, length, ap, sym, subst, arith}
use Rattle.std.proofs.lemmas.List.{at_drop_more}
use Rattle.byte_map.specs.Sorted.{IsSorted, changed, changed_all}
use Rattle.byte_map.proofs.Entries.{sorted_changed}
use Rattle.page_map.specs.inner.FlatPairs.{HasRoom, size, wanted}
use Rattle.page_map.proofs.InPlace.{room_left, room_one}
use Rattle.page_map.proofs.flat_pairs.FlatPairs.write_all_reserved.Goals as goal

pub write_reserved-total-requires-clause-sorted : goal.write_reserved-total-requires-clause-sorted
write_reserved-total-requires-clause-sorted c = c.loop-key.invariant.sorted

pub write_reserved-total-requires-clause-room : goal.write_reserved-total-requires-clause-room
write_reserved-total-requires-clause-room c =
    let w = c.loop-key-item.result in
    subst (λ k. HasRoom c.loop-key.self (size k w.1) 1) (sym c.as_slice.ensures)
    (room_one c.loop-key.self _ _ _ (room_left c.loop-key.self c.args.writes.now c.loop-key.key-index w (omega arith) c.loop-key-item.is c.loop-key.invariant.room))

pub loop-key-preserved : goal.loop-key-preserved
loop-key-preserved c =
    let old = c.loop-key.self.pairs in
    let w = c.loop-key-item.result in
    let writes = c.args.writes.now in
    let i = c.loop-key.key-index in
    let new : c.write_reserved-total.new.self.pairs ≡ changed old w.0 w.1 = c.write_reserved-total.ensures.written ∙ ap (λ k. changed old k w.1) c.as_slice.ensures in
    record {
      sorted = subst IsSorted (sym new) (sorted_changed old w.0 w.1 c.loop-key.invariant.sorted);
      whole =
          ap (λ l. changed_all l (drop (i + 1) writes)) new
          ∙ ap (λ v. changed_all (changed old v.0 v.1) (drop (i + 1) writes)) c.loop-key-item.is
          ∙ sym (at_drop_more (changed_all old) writes i w (omega arith))
          ∙ c.loop-key.invariant.whole;
      room = c.write_reserved-total.ensures.left _ _
          (subst (λ k. HasRoom c.loop-key.self (size k w.1 + wanted (drop (i + 1) writes)) (1 + length (drop (i + 1) writes))) (sym c.as_slice.ensures)
          (room_left c.loop-key.self writes i w (omega arith) c.loop-key-item.is c.loop-key.invariant.room));
      counted = c.write_reserved-total.ensures.counted;
      few = omega (arith, c.write_reserved-total.ensures.few, c.loop-key.invariant.few);
    }
