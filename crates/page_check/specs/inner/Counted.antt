-- Cited by private functions alone: judge_pair, add, check_page.
-- What pairs count for in turn.
use Rattle.std.specs.Prelude.{◌+◌, not, cond, List, [], ◌∷◌}
use Rattle.row_map.specs.Rows.{Pairs}
use Rattle.schema_version.specs.Version.{Version}
use Rattle.audit.specs.declared.report.CheckReport.{CheckReport}
use Rattle.audit.specs.Audit.{Pair, has_reason, is_exists_pair, missing_beside}

-- what one pair counts for
abbrev pub judged : Version → Pairs → Pair → CheckReport
judged version store pair =
    record {
      rows = cond (is_exists_pair pair) 1 0;
      missing = missing_beside version store pair;
      extra = cond (not (has_reason version store pair)) 1 0;
    }

-- the counts of both
abbrev pub added : CheckReport → CheckReport → CheckReport
added a b = record { rows = a.rows + b.rows; missing = a.missing + b.missing; extra = a.extra + b.extra }

-- what pairs count for in turn
abbrev pub counted : Version → Pairs → List Pair → CheckReport
counted version store [] = record { rows = 0; missing = 0; extra = 0 }
counted version store (pair ∷ more) = added (judged version store pair) (counted version store more)
