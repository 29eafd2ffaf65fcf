use Rattle.std.proofs.Common.{◌≡◌, ◌+◌, ◌*◌, ◌≤◌, [], drop}
use Rattle.schema_version.specs.Version.{Version}
use Rattle.schema_version.specs.Held.{IsHeld, holding}
use Rattle.schema_version.specs.Declare.{enter_tables}
use Rattle.schema_version.proofs.declare.enter_tables.Given as goal

abbrev pub invariant-loop-i : goal.invariant-loop-i
invariant-loop-i l =
    record {
      held : IsHeld l.elements.entries l.next;
      few : l.next ≤ 1 + 48 * l.i;
      so_far : (version : Version) → enter_tables (l.i + 1) (holding version l.elements.entries l.next) (drop l.i l.tables) ≡ enter_tables 1 (holding version [] 1) l.tables;
    }
