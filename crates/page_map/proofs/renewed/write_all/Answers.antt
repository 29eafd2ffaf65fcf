use Rattle.std.proofs.Common.{◌≡◌, ◌∙◌, ◌+◌, drop, ap, sym, subst, arith}
use Rattle.std.proofs.lemmas.List.{at_drop_more}
use Rattle.byte_map.specs.Sorted.{IsSorted, changed, changed_all}
use Rattle.byte_map.proofs.Entries.{sorted_changed}
use Rattle.page_map.proofs.renewed.write_all.Goals as goal

pub loop-key-preserved : goal.loop-key-preserved
loop-key-preserved c =
    let old = c.loop-key.pairs.pairs in
    let w = c.loop-key-item.result in
    let writes = c.args.writes.now in
    let i = c.loop-key.key-index in
    let new : c.write.new.self.pairs ≡ changed old w.0 w.1 = c.in_ok-write.ensures ∙ ap (λ k. changed old k w.1) c.as_slice.ensures in
    record {
      sorted = subst IsSorted (sym new) (sorted_changed old w.0 w.1 c.loop-key.invariant.sorted);
      whole =
          ap (λ l. changed_all l (drop (i + 1) writes)) new
          ∙ ap (λ v. changed_all (changed old v.0 v.1) (drop (i + 1) writes)) c.loop-key-item.is
          ∙ sym (at_drop_more (changed_all old) writes i w (omega arith))
          ∙ c.loop-key.invariant.whole;
    }
