use Rattle.std.proofs.Common.{◌≡◌, take}
use mathlib.Core.List.{map}
use Rattle.schema_version.specs.Version.{live}
use Rattle.serde_json.specs.View.{view}
use Rattle.script_replies.specs.Status.{element_data}
use Rattle.script_replies.proofs.elements.elements_value.Given as goal

abbrev pub invariant-loop-element : goal.invariant-loop-element
invariant-loop-element l = map view l.values.items ≡ map (element_data l.schema) (take l.element-index (live l.schema))
