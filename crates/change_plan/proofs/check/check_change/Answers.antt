use Rattle.std.proofs.Common.{◌∙◌, ap, sym}
use Rattle.change_plan.specs.inner.Checks.{add_index_check, change_check}
use Rattle.change_plan.proofs.check.check_change.Goals as goal

pub returns-in-AddIndex : goal.returns-in-AddIndex
returns-in-AddIndex c =
    c.check_added_index.ensures
    ∙ ap (add_index_check c.args.schema.now c.args.all.now c.args.earlier.now _ _) c.as_slice.ensures
    ∙ sym (ap (change_check c.args.schema.now c.args.all.now c.args.earlier.now) c.in-AddIndex.is)

pub returns-in-DropIndex : goal.returns-in-DropIndex
returns-in-DropIndex c = c.check_dropped_index.ensures ∙ sym (ap (change_check c.args.schema.now c.args.all.now c.args.earlier.now) c.in-DropIndex.is)

pub returns-in-AddColumn : goal.returns-in-AddColumn
returns-in-AddColumn c = c.check_added_column.ensures ∙ sym (ap (change_check c.args.schema.now c.args.all.now c.args.earlier.now) c.in-AddColumn.is)

pub returns-in-DropColumn : goal.returns-in-DropColumn
returns-in-DropColumn c = c.check_dropped_column.ensures ∙ sym (ap (change_check c.args.schema.now c.args.all.now c.args.earlier.now) c.in-DropColumn.is)

pub returns-in-Abandon : goal.returns-in-Abandon
returns-in-Abandon c = c.check_abandoned.ensures ∙ sym (ap (change_check c.args.schema.now c.args.all.now c.args.earlier.now) c.in-Abandon.is)
