use Rattle.std.proofs.Common.{inr, subst, Option}
use Rattle.row_map.specs.Rows.{Bytes}
use Rattle.drafts.specs.Txn.{IsTxnOf, IsDraftedFor}
use Rattle.drafts.specs.declared.txn.Drafted.{Drafted}
use Rattle.layer_calls.proofs.txns.draft_for.Goals as goal

pub returns-in-Ok-Draft : goal.returns-in-Ok-Draft
returns-in-Ok-Draft c =
    let drafted = subst (λ (d : Drafted). IsDraftedFor c.args.number c.args.schema c.args.ops c.in_ok-mark.mark c.args.view d) c.in-Ok-Draft.field-0-is c.in-Ok-Draft.ensures.drafted in (
      c.in-Ok-Draft.draft,
      subst (λ (mark : Option Bytes). IsTxnOf c.args.number c.args.schema c.args.ops mark c.args.view c.in-Ok-Draft.draft) c.in_ok-mark.ensures drafted,
      record { drafted = c.in_ok-draft_reply-in-Ok-Draft.ensures.made; fit = c.in_ok-draft_reply-in-Ok-Draft.ensures.fit; replies = c.in_ok-draft_reply-in-Ok-Draft.ensures.code },
    )

pub returns-in-Ok-Refused : goal.returns-in-Ok-Refused
returns-in-Ok-Refused c =
    let refused = subst (λ (d : Drafted). IsDraftedFor c.args.number c.args.schema c.args.ops c.in_ok-mark.mark c.args.view d) c.in-Ok-Refused.field-0-is c.in-Ok-Refused.ensures.drafted in
    inr (inr (c.in-Ok-Refused.op, c.in-Ok-Refused.why, refused.0, refused.1, c.row_refusal.ensures))
