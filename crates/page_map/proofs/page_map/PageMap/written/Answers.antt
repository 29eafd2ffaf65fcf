use Rattle.std.proofs.Common.{◌≡◌, ◌∙◌, ◌++◌, List, ℕ, take, drop, ap, sym, subst}
use Rattle.std.specs.FinMap as map
use Rattle.std.proofs.lemmas.List.{take-append-drop}
use Rattle.byte_map.specs.Order.{bytes_cmp}
use Rattle.byte_map.specs.Sorted.{IsSorted}
use Rattle.byte_map.specs.Writes.{written_all}
use Rattle.byte_map.proofs.Ranges.{sorted_drop}
use Rattle.byte_map.proofs.Written.{written_all-append}
use Rattle.page_map.proofs.Cuts.{sorted_prefix}
use Rattle.page_map.proofs.page_map.PageMap.written.Goals as goal

pub write_some-requires : goal.write_some-requires
write_some-requires c =
    let ws = c.loop-left.left.now in
    let n = c.count_first.result in
    subst IsSorted (sym c.split_at.ensures.front) (sorted_prefix (take n ws) (drop n ws) (subst IsSorted (sym (take-append-drop n ws)) c.loop-left.invariant.sorted))

pub loop-left-preserved : goal.loop-left-preserved
loop-left-preserved c =
    let ws = c.loop-left.left.now in
    let n = c.count_first.result in
    let here = c.split_at.result.0.now in
    let later = c.split_at.result.1.now in
    let old = c.loop-left.new in
    let cut : here ++ later ≡ ws = ap (λ l. l ++ later) c.split_at.ensures.front ∙ ap (λ l. take n ws ++ l) c.split_at.ensures.back ∙ take-append-drop n ws in
    record {
      sorted = sorted_drop ws later n c.loop-left.invariant.sorted c.split_at.ensures.back;
      whole = ap (λ (m : map.FinMap bytes_cmp (List ℕ)). written_all m later) c.in_ok-write_some.ensures.ok
          ∙ sym (written_all-append old here later)
          ∙ ap (written_all old) cut
          ∙ c.loop-left.invariant.whole;
    }
