use Rattle.std.proofs.Common.{◌≡◌, ◌++◌, length}
use mathlib.Core.List.{map}
use Rattle.std.specs.Str.{IsUtf8}
use Rattle.serde_json.specs.Data.{string}
use Rattle.serde_json.specs.View.{view}
use Rattle.script_json.specs.Answer.{lines_of}
use Rattle.script_json.proofs.answer.lines_of.Given as goal

abbrev pub invariant-loop-line : goal.invariant-loop-line
invariant-loop-line l = record {
  is_text : IsUtf8 l.rest;
  so_far : map view l.lines.items ++ map string (lines_of l.rest) ≡ map string (lines_of l.text);
}

abbrev pub decreases-loop-line : goal.decreases-loop-line
decreases-loop-line l = length l.rest
