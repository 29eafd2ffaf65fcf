use Rattle.std.proofs.Common.{is_some, ap, ◌∙◌}
use Rattle.std.specs.FinMap as map
use Rattle.std.specs.List.{list_all}
use Rattle.typed_calls.proofs.ReadRows.{row_told}
use Rattle.typed_calls.proofs.read_queries.is_row_read.Goals as goal

pub returns : goal.returns
returns c =
    row_told c.args.schema.now c.args.view.now c.args.query.now c.args.key.now c.in_ok-keys.keys c.are_read.result c.requires c.in_ok-keys.ensures
    (c.are_read.ensures ∙ ap (λ es. list_all (λ e. is_some (map.get c.args.view.now e.0)) es) c.entries.ensures.all)
