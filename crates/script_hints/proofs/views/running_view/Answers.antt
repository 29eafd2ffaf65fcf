use Rattle.std.proofs.Common.{string_bytes}
use Rattle.script_hints.proofs.OpenedViews.{path_after_none, path_of_some}
use Rattle.script_hints.proofs.views.running_view.Goals as goal

pub returns-in-Some-clause-path : goal.returns-in-Some-clause-path
returns-in-Some-clause-path c =
    path_of_some string_bytes c.args.opened.now c.in_ok-text.field-0 c.in-Some.text c.args.line.now c.in-Some.is c.in_ok-text.ensures.path

pub returns-in-None-clause-path : goal.returns-in-None-clause-path
returns-in-None-clause-path c =
    path_after_none string_bytes c.args.opened.now c.in_ok-text.field-0 c.view_by_words.result c.args.line.now c.in-None.is c.in_ok-text.ensures.path
