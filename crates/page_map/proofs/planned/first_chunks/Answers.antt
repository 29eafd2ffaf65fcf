use Rattle.std.proofs.Common.{◌≡◌, ◌∙◌, ap, arith, [], length, reverse}
use Rattle.page_map.specs.inner.Plan.{placed}
use Rattle.page_map.specs.Pages.{joined}
use Rattle.page_map.proofs.Empties.{few_empties}
use Rattle.page_map.proofs.planned.first_chunks.Goals as goal

pub new-requires-2-clause-few : goal.new-requires-2-clause-few
new-requires-2-clause-few c =
    let made = reverse c.in_ok-plan.plan.pieces.items in
    let put : c.place.new.pages.items ≡ placed [] made = c.place.ensures ∙ ap (λ p. placed p made) (c.in_ok-reserve.ensures.items ∙ c.new-pages.ensures.items) in
    omega (
      arith,
      few_empties (joined c.place.new.pages.items),
      c.total-len.ensures,
      c.total-len.type_inv,
      c.in_ok-plan.ensures.plan.len,
      c.in_ok-plan.ensures.base,
      ap (λ p. length (joined p)) put,
    )
