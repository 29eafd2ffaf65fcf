use Rattle.std.proofs.Common.{◌∙◌, ap, string_bytes}
use Rattle.script_views.specs.Check.{state_at}
use Rattle.script_views.proofs.Shown.{shown_element, shown_unknown}
use Rattle.script_views.proofs.element_pairs.element_pairs.Goals as goal

pub returns-in-Some : goal.returns-in-Some
returns-in-Some c =
    shown_element string_bytes c.report_text.result c.args.opened.now.world c.args.table.now c.args.name.now c.as_str.result.now c.as_str-in-Some.result.now c.get-schema.result.now c.table_number.result c.element_number-number.result
    c.in_ok-report.field-0 c.in-Some.report c.state_of.result (c.get-schema.ensures ∙ c.newest.ensures) c.table_number.ensures c.element_number-number.ensures c.in_ok-report.ensures c.in-Some.is c.as_str.ensures.value
    c.as_str-in-Some.ensures.value (c.state_of.ensures ∙ ap state_at c.find_element.ensures) c.report_text.ensures

pub returns-in-None : goal.returns-in-None
returns-in-None c =
    shown_unknown string_bytes c.unknown_text.result c.args.opened.now.world c.args.table.now c.args.name.now c.get-schema.result.now c.table_number.result c.element_number-number.result c.in_ok-report.field-0
    (c.get-schema.ensures ∙ c.newest.ensures) c.table_number.ensures c.element_number-number.ensures c.in_ok-report.ensures c.in-None.is c.unknown_text.ensures
