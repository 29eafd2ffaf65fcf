use Rattle.std.proofs.Common.{refl, sym, ◌∙◌}
use Rattle.table_faults.proofs.Parts.{in_three, found_first, found_next}
use Rattle.table_faults.proofs.names.names_cause.Goals as goal

pub returns-in-Some : goal.returns-in-Some
returns-in-Some c =
    found_first _ (in_three c.args.table.now _ _ _ c.as_slice-key.ensures c.as_slice-columns.ensures c.as_slice-indexes.ensures) c.in-Some.ensures

pub returns-in-Some-part_cause : goal.returns-in-Some-part_cause
returns-in-Some-part_cause c =
    found_next _ (in_three c.args.table.now _ _ _ c.as_slice-key.ensures c.as_slice-columns.ensures c.as_slice-indexes.ensures) (sym c.in_default.is ∙ c.part_cause.ensures)
    (found_first _ refl c.in-Some-part_cause.ensures)

pub returns : goal.returns
returns c =
    found_next _ (in_three c.args.table.now _ _ _ c.as_slice-key.ensures c.as_slice-columns.ensures c.as_slice-indexes.ensures) (sym c.in_default.is ∙ c.part_cause.ensures)
    (found_next _ refl (sym c.in_default-part_cause.is ∙ c.part_cause-2.ensures) c.part_cause-3.ensures)
