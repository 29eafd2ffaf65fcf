use Rattle.std.proofs.Common.{ap, ◌∙◌, subst}
use Rattle.std.specs.Prelude.{OnOk}
use Rattle.collections.specs.Refusal.{IsClear}
use Rattle.row_page.specs.Refused.{PageCondition}
use Rattle.world.specs.Snapshot.{Taken}
use Rattle.world.proofs.snapshot.Snapshot.find_page.Goals as goal

pub returns-clause-clear : goal.returns-clause-clear
returns-clause-clear c =
    subst (λ v. OnOk c.answer_page.result (IsClear (PageCondition v c.args.query.now c.args.range.now c.args.limit)))
    (c.get.ensures ∙ ap (λ (taken : Taken). taken.version) c.self.view_is)
    c.answer_page.ensures.clear
