use Rattle.std.proofs.Common.{◌∙◌, length, ap, sym, subst}
use Rattle.page_map.specs.Empties.{empties}
use Rattle.page_map.specs.inner.Prefix.{HasPrefix}
use Rattle.page_map.specs.Pages.{joined}
use Rattle.page_map.proofs.Full.{has_prefix}
use Rattle.page_map.proofs.chunk.Chunk.new.Goals as goal

pub invariant_of-result : goal.invariant_of-result
invariant_of-result c =
    let same = ap (λ v. v.items) (sym c.in_ok-new.ensures.ok) in
    record {
      prefix = subst (λ l. HasPrefix (joined l) c.first_prefix-prefix.result.now) same (has_prefix c.args.pages.items c.index.result.now _ c.index.ensures c.first_prefix-prefix.ensures.page.0 c.first_prefix-prefix.ensures.prefix);
      counted = c.count_pages-empty_count.ensures ∙ ap (λ l. length (empties (joined l))) (c.as_slice.ensures.value ∙ same);
    }
