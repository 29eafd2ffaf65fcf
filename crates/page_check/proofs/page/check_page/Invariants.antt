use Rattle.std.proofs.Common.{◌≡◌, length, option_map}
use Rattle.page_check.specs.Page.{on_page, page_of}
use Rattle.page_check.specs.inner.Counted.{added, counted}
use Rattle.page_check.proofs.page.check_page.Given as goal

-- what was counted and what is left of the page are all
abbrev pub invariant-loop-pair : goal.invariant-loop-pair
invariant-loop-pair g l =
    added l.report (counted l.schema (g.V.PairView.pairs l.view) (on_page l.low (option_map (λ b. b.now) l.to) l.walk))
    ≡ counted l.schema (g.V.PairView.pairs l.view) (page_of (g.V.PairView.pairs l.view) l.low (option_map (λ b. b.now) l.to))

abbrev pub decreases-loop-pair : goal.decreases-loop-pair
decreases-loop-pair g l = length l.walk
