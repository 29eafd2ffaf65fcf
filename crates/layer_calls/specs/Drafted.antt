-- Cited by the contracts of txn, publish, close, begin, piece and of what they call.
-- Replies that are drafts of calls.
use Rattle.drafts.specs.Calls.{Call, draft_of, IsDrafted}
use Rattle.record_code.specs.Drafts.{draft_code, IsFitDraft}
use Rattle.layer_calls.specs.Given.{Replies}
use Rattle.layer_calls.specs.declared.outcome.LayerReply.{LayerReply}

-- the code of the draft of a call, with all that the theorem on drafts in bytes asks of it
pub record IsDraftOf (call : Call) (reply : LayerReply) : Type 0 where
  pub drafted : IsDrafted call
  pub fit : IsFitDraft (draft_of call)
  pub replies : Replies (draft_code (draft_of call)) reply
