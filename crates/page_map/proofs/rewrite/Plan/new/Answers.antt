use Rattle.std.proofs.Common.{◌≡◌, ◌∙◌, ◌+◌, ◌-◌, ◌<◌, ◌≤◌, ◌++◌, T, length, take, drop, reverse, ap, sym, subst, arith}
use Rattle.std.specs.FinMap.Entries.{below_all}
use Rattle.std.proofs.lemmas.List.{length-drop}
use Rattle.byte_map.specs.Order.{bytes_cmp}
use Rattle.byte_map.specs.Sorted.{all_below, changed_all}
use Rattle.byte_map.proofs.Ranges.{sorted_drop}
use Rattle.page_map.specs.Pages.{joined, Stands}
use Rattle.page_map.specs.inner.Plan.{made}
use Rattle.page_map.proofs.Appends.{sorted_take}
use Rattle.page_map.proofs.Placing.{first_left, some_left, step, finish}
use Rattle.page_map.proofs.rewrite.Plan.new.Goals as goal

pub count_before-count-requires : goal.count_before-count-requires
count_before-count-requires c = sorted_drop c.args.writes.now _ c.loop-done.done c.requires.writes c.split_at.ensures.back

pub loop-done-smaller : goal.loop-done-smaller
loop-done-smaller c =
    let pages = c.args.pages.now in
    let w = c.index-writes-done.result in
    let at = c.place_of-at.result in
    let here : Stands c.split_at.result.1.now 0 w = first_left c.args.writes.now _ c.loop-done.done w (omega (arith, c.loop-done-test.true)) c.index-writes-done.is c.split_at.ensures.back in
    let after : T (below_all bytes_cmp w.0 (joined (drop (at + 1) pages))) = subst (λ k. T (below_all bytes_cmp k (joined (drop (at + 1) pages)))) (c.as_slice.ensures ∙ ap (λ v. v.0) (sym c.index-writes-done.is)) c.place_of-at.ensures.after in
    let some : 0 < c.count_before-count.result = c.count_before-count.ensures.some w here after in
    let left : length c.split_at.result.1.now ≡ length c.args.writes.now - c.loop-done.done = ap length c.split_at.ensures.back ∙ length-drop c.loop-done.done c.args.writes.now in
    omega (arith, some, left, c.count_before-count.ensures.in_range, c.loop-done-test.true)

pub loop-done-preserved : goal.loop-done-preserved
loop-done-preserved c =
    let pages = c.args.pages.now in
    let writes = c.args.writes.now in
    let w = c.index-writes-done.result in
    let at = c.place_of-at.result in
    let n = c.count_before-count.result in
    let old = c.loop-done.plan in
    let new = c.add.new.self in
    let done = c.loop-done.done in
    let here : Stands c.split_at.result.1.now 0 w = first_left writes _ done w (omega (arith, c.loop-done-test.true)) c.index-writes-done.is c.split_at.ensures.back in
    let left : length c.split_at.result.1.now ≡ length writes - done = ap length c.split_at.ensures.back ∙ length-drop done writes in
    record {
      plan = c.in_ok-add.ensures.plan;
      base = c.in_ok-add.ensures.base ∙ c.loop-done.invariant.base;
      in_range = omega (arith, left, c.count_before-count.ensures.in_range, c.loop-done-test.true);
      ahead = λ lt. subst (λ r. r ≤ length pages) (sym c.in_ok-add.ensures.reach) (some_left (length pages) (at + 1) n _ done (length writes) c.count_before-count.ensures.all left lt);
      whole =
          ap (λ r. joined (made pages (reverse new.pieces.items)) ++ changed_all (joined (drop r pages)) (drop (done + n) writes)) c.in_ok-add.ensures.reach
          ∙ step pages writes c.split_at.result.1.now _ old.reach at done n w (joined (made pages (reverse old.pieces.items))) (joined (made pages (reverse new.pieces.items))) _
          c.requires.pages (sorted_drop writes _ done c.requires.writes c.split_at.ensures.back) c.place_of-at.ensures.ahead c.place_of-at.ensures.in_range c.split_at.ensures.back here c.split_at-in-loop-done.ensures.front
          (subst (λ k. T (all_below (joined (drop old.reach (take at pages))) k)) (c.as_slice.ensures ∙ ap (λ v. v.0) (sym c.index-writes-done.is)) c.place_of-at.ensures.before)
          c.count_before-count.ensures.parted
          c.in_ok-add.ensures.made
          c.loop-done.invariant.whole;
    }

pub add-requires-clause-writes : goal.add-requires-clause-writes
add-requires-clause-writes c =
    sorted_take c.split_at.result.1.now c.count_before-count.result _ (sorted_drop c.args.writes.now _ c.loop-done.done c.requires.writes c.split_at.ensures.back) c.split_at-in-loop-done.ensures.front

pub returns-clause-all : goal.returns-clause-all
returns-clause-all c =
    finish c.args.pages.now c.args.writes.now (reverse c.loop-done.plan.pieces.items) c.loop-done.plan.reach c.loop-done.done _ (omega (arith, c.loop-done-test.false)) c.loop-done.invariant.plan.reached c.loop-done.invariant.whole
