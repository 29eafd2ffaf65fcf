-- Cited by publish_step, close_before, begin_at and draft_of of pieces.
use Rattle.std.proofs.Common.{subst}
use Rattle.row_map.specs.Writes.{Batch}
use Rattle.row_map.specs.declared.expect.Expect.{Expect}
use Rattle.drafts.specs.declared.record.Control.{Control}
use Rattle.drafts.specs.Made.{IsControlOf}
use Rattle.drafts.specs.Store.{Draft}
use Rattle.record_code.specs.Drafts.{AreFitPoints, IsFitDraft, draft_with}

-- the draft of which these are the control records
pub fit_by : (draft : Draft) (control : Control) (expect : Expect) (batch : Batch) → IsControlOf draft control → IsFitDraft (draft_with control expect batch) → IsFitDraft draft
fit_by draft control expect batch is fit = record { reads = subst AreFitPoints is.reads fit.reads; writes = subst AreFitPoints is.writes fit.writes }
