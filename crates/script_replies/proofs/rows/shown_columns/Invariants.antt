use Rattle.std.proofs.Common.{◌≡◌, take}
use Rattle.std.specs.Prelude.{filter}
use mathlib.Core.List.{map}
use Rattle.schema_version.specs.Version.{live}
use Rattle.script_replies.specs.Rows.{is_shown}
use Rattle.script_replies.proofs.rows.shown_columns.Given as goal

abbrev pub invariant-loop-element : goal.invariant-loop-element
invariant-loop-element l = l.columns.items ≡ map (λ e. (e.number, e.name)) (filter (is_shown l.query) (take l.element-index (live l.schema)))
