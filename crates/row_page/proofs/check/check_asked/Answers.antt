use Rattle.std.proofs.Common.{sym, subst}
use Rattle.std.specs.Prelude.{IfErr, OnOk}
use Rattle.collections.specs.Refusal.{IsRefusal, IsClear}
use Rattle.row_query.specs.declared.fault.QueryFault.TheVariants.{Memory}
use Rattle.row_query.specs.Refused.{IsSound, rank}
use Rattle.row_page.specs.Refused.{AskedCondition}
use Rattle.row_page.proofs.Fits.{refused_with, clear_with, sound_with}
use Rattle.row_page.proofs.check.check_asked.Goals as goal

pub returns-clause-refused : goal.returns-clause-refused
returns-clause-refused c =
    subst (λ r. IfErr r (λ fault. IsRefusal rank (AskedCondition c.args.schema.now c.args.query.now c.args.range.now) Memory fault)) (sym c.with_range.ensures)
    (refused_with c.args.schema.now c.args.query.now c.args.range.now c.fault_of-asked.result c.is_range_for-fits.result (sym c.is_range_for-fits.ensures) c.fault_of-asked.ensures.refused c.fault_of-asked.ensures.clear)

pub returns-clause-clear : goal.returns-clause-clear
returns-clause-clear c =
    subst (λ r. OnOk r (IsClear (AskedCondition c.args.schema.now c.args.query.now c.args.range.now))) (sym c.with_range.ensures)
    (clear_with c.args.schema.now c.args.query.now c.args.range.now c.fault_of-asked.result c.is_range_for-fits.result (sym c.is_range_for-fits.ensures) c.fault_of-asked.ensures.clear)

pub returns-clause-sound : goal.returns-clause-sound
returns-clause-sound c =
    subst (λ r. OnOk r (IsSound c.args.schema.now c.args.query.now)) (sym c.with_range.ensures)
    (sound_with c.args.schema.now c.args.query.now c.args.range.now c.fault_of-asked.result c.is_range_for-fits.result c.fault_of-asked.ensures.clear)
