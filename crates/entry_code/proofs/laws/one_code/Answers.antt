use Rattle.entry_code.proofs.Codes.{entry_tells, ops_tell, step_tells, opening_tells}
use Rattle.entry_code.proofs.Asked.{query_tells, rows_tell}
use Rattle.entry_code.proofs.Planned.{changes_tell, plan_tells}
use Rattle.entry_code.proofs.RecordReaders.{schemas_tell, reorgs_tell, points_tell, drafts_tell}
use Rattle.entry_code.proofs.laws.one_code.Goals as goal

pub returns-clause-entries : goal.returns-clause-entries
returns-clause-entries c = entry_tells

pub returns-clause-ops : goal.returns-clause-ops
returns-clause-ops c = ops_tell

pub returns-clause-steps : goal.returns-clause-steps
returns-clause-steps c = step_tells

pub returns-clause-openings : goal.returns-clause-openings
returns-clause-openings c = opening_tells

pub returns-clause-queries : goal.returns-clause-queries
returns-clause-queries c = query_tells

pub returns-clause-rows : goal.returns-clause-rows
returns-clause-rows c = rows_tell

pub returns-clause-changes : goal.returns-clause-changes
returns-clause-changes c = changes_tell

pub returns-clause-plans : goal.returns-clause-plans
returns-clause-plans c = plan_tells

pub returns-clause-schemas : goal.returns-clause-schemas
returns-clause-schemas c = schemas_tell

pub returns-clause-reorgs : goal.returns-clause-reorgs
returns-clause-reorgs c = reorgs_tell

pub returns-clause-points : goal.returns-clause-points
returns-clause-points c = points_tell

pub returns-clause-drafts : goal.returns-clause-drafts
returns-clause-drafts c = drafts_tell
