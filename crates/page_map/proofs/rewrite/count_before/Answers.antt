use Rattle.std.proofs.Common.{List, ℕ, subst, arith}
use Rattle.page_map.specs.Pages.{Stands}
use Rattle.page_map.proofs.Changes.{parted_at}
use Rattle.page_map.proofs.rewrite.count_before.Goals as goal

pub returns-then-from-pages-clause-parted : goal.returns-then-from-pages-clause-parted
returns-then-from-pages-clause-parted c =
    let e : List ℕ × List ℕ = (c.pair.result.0.now, c.pair.result.1.now) in
    parted_at c.args.pages.now c.args.from c.index-pages-from.result e c.args.writes.now c.first_from.result (omega arith) c.index-pages-from.is
    (subst (λ p. Stands p 0 e) c.pairs.ensures.all c.pair.ensures) c.first_from.ensures
