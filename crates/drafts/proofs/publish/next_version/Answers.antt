use Rattle.std.proofs.Common.{List, subst}
use Rattle.schema_version.specs.declared.step.Move.{Move}
use Rattle.schema_version.specs.Moves.{IsAllowed}
use Rattle.schema_version.specs.Version.{Version}
use Rattle.drafts.specs.Publish.{found_in, AreReady}
use Rattle.drafts.proofs.Ready.{all_ready}
use Rattle.drafts.proofs.publish.next_version.Goals as goal

pub returns-clause-may : goal.returns-clause-may
returns-clause-may c = record {
  few = c.if-newest-gt-MAX_VERSIONS.false;
  allowed = subst (λ (v : Version). IsAllowed v c.args.step.now) c.get.ensures c.in-Ok.ensures.allowed;
  finished =
      all_ready c.args.newest.now.schema (found_in c.args.found.now) c.args.step.now
      (subst (λ (v : Version). AreReady v (found_in c.args.found.now) c.args.step.now) c.get-2.ensures
      (subst (λ (step : List Move). AreReady c.get-2.result.now (found_in c.args.found.now) step) c.as_slice.ensures c.in_default.ensures));
}
