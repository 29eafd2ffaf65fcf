use Rattle.std.proofs.Common.{◌≡◌, take}
use Rattle.std.specs.Prelude.{count_by}
use Rattle.audit.proofs.Elements.{lacks_made, gives_made}
use Rattle.audit.proofs.wanted.count_wanted.Given as goal

abbrev pub invariant-loop-made : goal.invariant-loop-made
invariant-loop-made g l = record {
  missing : l.missing ≡ count_by (lacks_made l.schema (g.V.PairView.pairs l.view) l.table l.row) (take l.made-index l.elements);
  given : l.given ≡ count_by (gives_made l.schema (g.V.PairView.pairs l.view) l.table l.row) (take l.made-index l.elements);
}
