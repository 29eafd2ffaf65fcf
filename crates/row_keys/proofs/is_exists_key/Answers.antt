use Rattle.row_keys.proofs.Codes.{whole_key, no_table, no_values}
use Rattle.row_keys.proofs.is_exists_key.Goals as goal

pub returns-in_default : goal.returns-in_default
returns-in_default c = no_table c.args.key.now c.args.table c.args.primary.now (rw c.in_default.is at c.after_table.ensures)

pub returns-in-Some-after_values : goal.returns-in-Some-after_values
returns-in-Some-after_values c =
    whole_key c.args.key.now c.in-Some.values.now c.in-Some-after_values.end.now c.args.table c.args.primary.now c.are_four_zeros.result (rw c.in-Some.is at c.after_table.ensures) (rw c.in-Some-after_values.is at c.after_values.ensures) c.are_four_zeros.ensures

pub returns-in-None : goal.returns-in-None
returns-in-None c = no_values c.args.key.now c.in-Some.values.now c.args.table c.args.primary.now (rw c.in-Some.is at c.after_table.ensures) (rw c.in-None.is at c.after_values.ensures)
