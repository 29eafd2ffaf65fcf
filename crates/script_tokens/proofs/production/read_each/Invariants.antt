use Rattle.std.proofs.Common.{◌≡◌, ◌≤◌, length}
use Rattle.script_tokens.specs.Productions.{each, parts}
use Rattle.script_tokens.proofs.Cuts.{onto}
use Rattle.script_tokens.proofs.production.read_each.Given as goal

abbrev pub invariant-parts : goal.invariant-parts
invariant-parts g l = record {
  so_far : onto l.items.items (each g.T.Production.parsed (parts l.separator l.rest)) ≡ each g.T.Production.parsed (parts l.separator l.tokens);
  shorter : length l.rest ≤ length l.tokens;
}

abbrev pub decreases-parts : goal.decreases-parts
decreases-parts g l = length l.rest
