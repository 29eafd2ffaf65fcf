use Rattle.std.proofs.Common.{string_bytes}
use Rattle.script_views.proofs.Shown.{shown_as}
use Rattle.script_views.proofs.views.checked_view.Goals as goal

pub returns-in_ok-named_pairs-in-Some-clause-check : goal.returns-in_ok-named_pairs-in-Some-clause-check
returns-in_ok-named_pairs-in-Some-clause-check c =
    λ table name bare_table bare_name same.
    let names = c.in-Some.ensures.names table name bare_table bare_name same in
    shown_as c.args.opened.now.world c.in-Some.table.now c.in-Some.name.now table name (string_bytes c.in_ok-named_pairs-in-Some.field-0) names.0 names.1 c.in_ok-named_pairs-in-Some.ensures
