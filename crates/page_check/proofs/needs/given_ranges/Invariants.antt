use Rattle.std.proofs.Common.{◌≡◌, ◌++◌, length, option_map}
use Rattle.page_check.specs.Page.{on_page, page_of}
use Rattle.page_check.specs.Needs.{given_ranges}
use Rattle.page_check.proofs.needs.given_ranges.Given as goal

-- the ranges so far and those of what is left of the page are all
abbrev pub invariant-loop-key : goal.invariant-loop-key
invariant-loop-key g l =
    l.out.items ++ given_ranges l.schema (g.V.PairView.pairs l.view) l.low (option_map (λ b. b.now) l.to) (on_page l.low (option_map (λ b. b.now) l.to) l.walk)
    ≡ given_ranges l.schema (g.V.PairView.pairs l.view) l.low (option_map (λ b. b.now) l.to) (page_of (g.V.PairView.pairs l.view) l.low (option_map (λ b. b.now) l.to))

abbrev pub decreases-loop-key : goal.decreases-loop-key
decreases-loop-key g l = length l.walk
