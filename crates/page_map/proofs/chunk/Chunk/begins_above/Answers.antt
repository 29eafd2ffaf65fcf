use Rattle.std.proofs.Common.{◌∙◌, List, ℕ, sym, ap, subst}
use borrow.Author.Tests.{true-ltb}
use Rattle.std.specs.Ordering.{is_gt}
use Rattle.byte_map.specs.Sorted.{Entries}
use Rattle.page_map.specs.inner.Prefix.{HasPrefix}
use Rattle.page_map.proofs.Prefixes.{prefix_less, prefix_greater}
use Rattle.page_map.proofs.chunk.Chunk.begins_above.Goals as goal

pub returns-then-below : goal.returns-then-below
returns-then-below c = λ first stands.
    let mine = subst (λ (pairs : Entries (List ℕ)). HasPrefix pairs c.self.inside.prefix) c.self.view_is c.self.invariant.prefix first stands in
    sym (ap is_gt (prefix_less first.0 c.args.key.now c.self.inside.prefix c.args.prefix.now mine c.requires.prefix (true-ltb _ _ (sym c.if-below.true ∙ c.below.ensures))))

pub returns-then-below-2 : goal.returns-then-below-2
returns-then-below-2 c = λ first stands.
    let mine = subst (λ (pairs : Entries (List ℕ)). HasPrefix pairs c.self.inside.prefix) c.self.view_is c.self.invariant.prefix first stands in
    sym (ap is_gt (prefix_greater first.0 c.args.key.now c.self.inside.prefix c.args.prefix.now mine c.requires.prefix (true-ltb _ _ (sym c.if-below-2.true ∙ c.below-2.ensures))))
