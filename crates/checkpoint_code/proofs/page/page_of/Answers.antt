use Rattle.std.proofs.Common.{◌≡◌, true, false, sym, ap, subst, ◌∙◌}
use Rattle.byte_map.specs.Sorted.{IsSorted}
use Rattle.checkpoint_code.specs.Page.{rise}
use Rattle.checkpoint_code.proofs.PageReads.{decides, unsorted}
use Rattle.checkpoint_code.proofs.page.page_of.Goals as goal

pub returns-then-not-rise-clause-read : goal.returns-then-not-rise-clause-read
returns-then-not-rise-clause-read c =
    let fails : rise c.in-Ok.pairs ≡ false = ap rise (sym c.as_slice.ensures) ∙ cc in
    (c.in-Ok.pairs, c.in-Ok.ensures.read.0, unsorted c.in-Ok.pairs fails)

pub returns-then-not-rise-clause-accepted : goal.returns-then-not-rise-clause-accepted
returns-then-not-rise-clause-accepted c = λ pairs known sorted spelled.
    let fails : rise c.in-Ok.pairs ≡ false = ap rise (sym c.as_slice.ensures) ∙ cc in
    absurd (unsorted c.in-Ok.pairs fails (subst IsSorted (sym (c.in-Ok.ensures.accepted pairs known spelled)) sorted))

pub returns-else-not-rise-clause-read : goal.returns-else-not-rise-clause-read
returns-else-not-rise-clause-read c =
    let passes : rise c.in-Ok.pairs ≡ true = ap rise (sym c.as_slice.ensures) ∙ cc in
    (c.in-Ok.ensures.read.0, c.in-Ok.ensures.read.1, (decides c.in-Ok.pairs).0 passes)
