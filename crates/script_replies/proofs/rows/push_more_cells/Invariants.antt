use Rattle.std.proofs.Common.{◌≡◌, ◌++◌, take}
use Rattle.std.specs.Prelude.{codes, string_bytes}
use Rattle.std.specs.List.{flat_map}
use mathlib.Core.List.{map}
use Rattle.script_replies.specs.Rows.{cell_text}
use Rattle.script_replies.proofs.rows.push_more_cells.Given as goal

abbrev pub invariant-loop-column : goal.invariant-loop-column
invariant-loop-column l = string_bytes l.out ≡ string_bytes l.fn.out ++ flat_map (λ t. codes ", " ++ t) (map (cell_text l.row) (take l.column-index l.columns))
