use Rattle.std.proofs.Common.{◌∷◌, [], ◌++◌, ◌∙◌, ap, sym}
use Rattle.audit.specs.Encoded.{stored_cell}
use Rattle.audit.proofs.Cells.{filter_map_some, filter_map_none}
use Rattle.audit.proofs.encoded_rows.stored_cells.Goals as goal
use Rattle.audit.proofs.encoded_rows.stored_cells.Goals.{in-Some+in_ok-push, in_default}

pub loop-element-preserved : goal.loop-element-preserved
loop-element-preserved g c =
    let h = stored_cell (g.V.PairView.pairs c.args.view.now) c.args.table c.args.key.now in
    let x = c.element-item.result in
    elim c.match-branch-2.branch [
      | in-Some+in_ok-push w ↦
          ap (λ v. v.items) w.cells-is ∙ w.in_ok-push.ensures.items ∙ ap (λ l. l ++ w.in-Some.cell ∷ []) c.loop-element.invariant
          ∙ sym (filter_map_some h c.args.elements.now c.loop-element.element-index x c.loop-element-test.true x w.in-Some.cell c.element-item.is (sym c.in_ok-cell.ensures ∙ w.in-Some.is))
      | in_default w ↦
          ap (λ v. v.items) w.cells-is ∙ c.loop-element.invariant
          ∙ sym (filter_map_none h c.args.elements.now c.loop-element.element-index x c.loop-element-test.true x c.element-item.is (sym c.in_ok-cell.ensures ∙ w.in_default.is))
    ]
