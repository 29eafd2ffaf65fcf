use Rattle.std.proofs.Common.{Bor, string_bytes}
use Rattle.script_session.specs.declared.session.ServerLease.{ServerLease}
use Rattle.script_views.proofs.Shown.{explained_under}
use Rattle.script_views.proofs.explain.text_under.Goals as goal

pub returns-in-Some : goal.returns-in-Some
returns-in-Some c =
    explained_under string_bytes (λ (h : Bor ServerLease). h.now) c.selection_text.result c.args.held c.in-Some.held c.get.result.now c.args.selection c.in-Some.is c.get.ensures c.selection_text.ensures
