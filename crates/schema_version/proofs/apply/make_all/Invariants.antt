use Rattle.std.proofs.Common.{◌≡◌, ◌+◌, ◌≤◌, count_by, drop}
use Rattle.schema_version.specs.Names.{max_elements}
use Rattle.schema_version.specs.Moves.{is_entry}
use Rattle.schema_version.specs.Held.{all_made}
use Rattle.schema_version.proofs.apply.make_all.Given as goal

abbrev pub invariant-loop-a : goal.invariant-loop-a
invariant-loop-a l =
    record {
      so_far : all_made l.elements.entries l.next (drop l.a-index l.moves) ≡ all_made l.initial.elements.entries l.first l.moves;
      few : l.next + count_by is_entry (drop l.a-index l.moves) ≤ max_elements + 1;
    }
