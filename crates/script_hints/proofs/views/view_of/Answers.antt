use Rattle.std.proofs.Common.{string_bytes}
use Rattle.script_hints.proofs.OpenedViews.{shown_running}
use Rattle.script_hints.proofs.views.view_of.Goals as goal

pub returns-in-Running-clause-path : goal.returns-in-Running-clause-path
returns-in-Running-clause-path c =
    shown_running string_bytes c.running_view.result c.args.session.now c.in-Running.opened c.args.line.now c.trim-line.result.now c.in-Running.is c.trim-line.ensures.trim c.running_view.ensures.path
