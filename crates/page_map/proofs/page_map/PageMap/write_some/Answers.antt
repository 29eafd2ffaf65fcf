use Rattle.std.proofs.Common.{◌≡◌, ◌∙◌, List, ℕ, ap, sym, subst, arith, []}
use Rattle.std.specs.FinMap as map
use Rattle.std.proofs.lemmas.Bool.Decides.{nat_tests}
use Rattle.byte_map.specs.Order.{bytes_cmp}
use Rattle.byte_map.specs.Sorted.{IsSorted, changed_all}
use Rattle.byte_map.specs.Writes.{written_all}
use Rattle.byte_map.proofs.Maps.{map_changed_all, sorted_changed_all}
use Rattle.page_map.specs.Pages.{joined}
use Rattle.page_map.proofs.Full.{none_joined}
use Rattle.page_map.proofs.page_map.PageMap.write_some.Goals as goal

pub invariant_of-self : goal.invariant_of-self
invariant_of-self c =
    let old = c.self.inside.chunks.items in
    let ws = c.args.writes.now in
    let none : joined old ≡ [] = none_joined old (grind (arith, nat_tests, c.if-is_empty.true, c.is_empty.ensures, c.self.inside.chunks.ok)) in
    let made : joined c.in_ok-chunks.chunks.items ≡ changed_all (joined old) ws = c.in_ok-chunks.ensures.written ∙ ap (λ l. changed_all l ws) (sym none) in
    record {
      sorted = subst IsSorted (sym made) (sorted_changed_all (joined old) ws c.self.invariant.sorted);
      counted = c.in_ok-chunks.ensures.counted;
      full = c.in_ok-chunks.ensures.full;
    }

pub returns-then-is_empty-clause-ok : goal.returns-then-is_empty-clause-ok
returns-then-is_empty-clause-ok c =
    let old = c.self.inside.chunks.items in
    let ws = c.args.writes.now in
    let none : joined old ≡ [] = none_joined old (grind (arith, nat_tests, c.if-is_empty.true, c.is_empty.ensures, c.self.inside.chunks.ok)) in
    let made : joined c.in_ok-chunks.chunks.items ≡ changed_all (joined old) ws = c.in_ok-chunks.ensures.written ∙ ap (λ l. changed_all l ws) (sym none) in
    ap (λ p. map.from_sorted {R = bytes_cmp} p) made ∙ map_changed_all (joined old) ws c.self.invariant.sorted ∙ ap (λ (m : map.FinMap bytes_cmp (List ℕ)). written_all m ws) c.self.view_is
