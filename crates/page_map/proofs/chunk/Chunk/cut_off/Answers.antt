use Rattle.std.proofs.Common.{◌≡◌, ◌∙◌, ◌++◌, arith, length, take, drop, sym, ap, subst}
use Rattle.page_map.specs.Empties.{empties}
use Rattle.page_map.specs.Pages.{joined}
use Rattle.page_map.proofs.Cuts.{cut_joined}
use Rattle.page_map.specs.inner.Prefix.{HasPrefix}
use Rattle.page_map.proofs.Empties.{parts_fit, walk_count}
use Rattle.page_map.proofs.Prefixes.{prefix_part}
use Rattle.page_map.proofs.chunk.Chunk.cut_off.Goals as goal

pub returns-clause-some : goal.returns-clause-some
returns-clause-some c =
    let middle = c.if-len.middle in
    let pages = c.in-Some.pages.now.items in
    let value = c.in-Some.ensures.value in
    let prefix : c.truncate.new.self.items ≡ take middle pages = c.truncate.ensures.items in
    let back : c.in-Ok.tail.items ≡ drop middle pages = c.in-Ok.ensures ∙ c.split_at.ensures.back ∙ ap (drop middle) (c.as_slice.ensures.value ∙ ap (λ v. v.items) (c.deref-2.ensures ∙ sym value)) in
    sym c.self.view_is
    ∙ ap (λ v. joined v.items) (sym value)
    ∙ cut_joined pages middle
    ∙ (λ i. joined (sym prefix i) ++ joined (sym back i))
    ∙ ap (λ l. joined c.truncate.new.self.items ++ l) (sym c.in-Ok-new.ensures.all)

pub new-requires-clause-few : goal.new-requires-clause-few
new-requires-clause-few c =
    let middle = c.if-len.middle in
    let pages = c.as_slice.result.now in
    let back : c.in-Ok.tail.items ≡ drop middle pages = c.in-Ok.ensures ∙ c.split_at.ensures.back in
    omega (arith, c.empties-all.type_inv, c.empties-all.ensures, parts_fit pages middle, ap (λ l. length (empties (joined l))) back, ap (λ l. length (empties (joined l))) c.as_slice.ensures.value, ap (λ v. length (empties (joined v.items))) c.deref-2.ensures, ap (λ l. length (empties l)) c.self.view_is)

pub overflow_sub-self : goal.overflow_sub-self
overflow_sub-self c =
    let middle = c.if-len.middle in
    let pages = c.as_slice.result.now in
    let back : c.in-Ok.tail.items ≡ drop middle pages = c.in-Ok.ensures ∙ c.split_at.ensures.back in
    omega (arith, c.empties-all.ensures, c.empties.ensures, ap (λ l. length (empties l)) c.in-Ok-new.ensures.all, parts_fit pages middle, ap (λ l. length (empties (joined l))) back, ap (λ l. length (empties (joined l))) c.as_slice.ensures.value, ap (λ v. length (empties (joined v.items))) c.deref-2.ensures, ap (λ l. length (empties l)) c.self.view_is)

pub invariant_of-self-2 : goal.invariant_of-self-2
invariant_of-self-2 c =
    let middle = c.if-len.middle in
    let pages = c.in-Some.pages.now.items in
    let value = c.in-Some.ensures.value in
    let prefix : c.truncate.new.self.items ≡ take middle pages = c.truncate.ensures.items in
    let back : c.in-Ok.tail.items ≡ drop middle pages = c.in-Ok.ensures ∙ c.split_at.ensures.back ∙ ap (drop middle) (c.as_slice.ensures.value ∙ ap (λ v. v.items) (c.deref-2.ensures ∙ sym value)) in
    let whole = ap (λ v. joined v.items) (sym value) ∙ cut_joined pages middle ∙ (λ i. joined (sym prefix i) ++ joined (sym back i)) in
    record {
      prefix = prefix_part (joined c.truncate.new.self.items) (joined c.in-Ok.tail.items) c.self.inside.prefix (subst (λ l. HasPrefix l c.self.inside.prefix) whole c.self.invariant.prefix);
      counted = omega (arith, c.empties-all.ensures, c.empties.ensures, ap (λ l. length (empties l)) c.in-Ok-new.ensures.all, walk_count (joined c.truncate.new.self.items) (joined c.in-Ok.tail.items) _ (sym whole), ap (λ l. length (empties l)) c.self.view_is);
    }
