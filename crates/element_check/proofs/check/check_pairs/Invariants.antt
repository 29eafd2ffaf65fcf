use Rattle.std.proofs.Common.{length}
use Rattle.std.specs.List.{filter_map}
use Rattle.audit.specs.Audit.{Pair}
use Rattle.audit.specs.Encoded.{key_read}
use Rattle.element_check.specs.Check.{missing_row, missing_rows, extra_key, extra_keys}
use Rattle.element_check.specs.inner.Made.{definition_of}
use Rattle.element_check.proofs.Finds.{IsSoFar}
use Rattle.element_check.proofs.check.check_pairs.Given as goal

-- what the report has and what is found in the pairs that are left are what is found in all
abbrev pub invariant-loop-pair : goal.invariant-loop-pair
invariant-loop-pair g l = record {
  missing : IsSoFar l.most l.report.missing l.report.missing_rows (filter_map (λ (pair : Pair). missing_row l.schema (g.V.PairView.pairs l.view) (definition_of l.made) (key_read pair.0)) l.walk) (missing_rows l.schema (g.V.PairView.pairs l.view) (definition_of l.made));
  extra : IsSoFar l.most l.report.extra l.report.extra_keys (filter_map (extra_key l.schema (g.V.PairView.pairs l.view) (definition_of l.made)) l.walk) (extra_keys l.schema (g.V.PairView.pairs l.view) (definition_of l.made));
}

abbrev pub decreases-loop-pair : goal.decreases-loop-pair
decreases-loop-pair g l = length l.walk
