use Rattle.std.proofs.Common.{rules, string_bytes}
use Rattle.script_views.proofs.Shown.{shown_pairs}
use Rattle.script_views.proofs.views.named_pairs.Goals as goal

pub returns : goal.returns
returns c = shown_pairs string_bytes c.element_pairs.result c.args.opened.now.world _ _ c.args.table.now c.args.name.now (search rules) (search rules) c.element_pairs.ensures
