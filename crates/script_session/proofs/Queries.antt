-- What a query under a server's lease answers, as it is printed.
use Rattle.std.proofs.Common.{◌≡◌, ℕ, List, Result, Ok, Err, IfOk, ap, subst, ◌∙◌}
use Rattle.script_grammar.specs.declared.selection.Selection.{Selection}
use Rattle.row_map.specs.declared.shape.Row.{Row}
use Rattle.row_query.specs.declared.query.Query.{Query}
use Rattle.schema_version.specs.Version.{Version}
use Rattle.script_replies.specs.QueryRefusal.{QueryRefusal}
use Rattle.script_replies.specs.Query.{QueryStep}
use Rattle.script_replies.specs.State.{State}
use Rattle.script_session.specs.declared.session.ServerLease.{ServerLease}
use Rattle.script_names.specs.Names.{asked}
use Rattle.script_replies.specs.Rows.{shown, rows_text, refusal_name, queried_text}
use Rattle.script_session.specs.Query.{Queried}
use Rattle.script_replies.specs.Texts.{line, refused}

reported : (world : State) (held : ServerLease) (moment : ℕ) (selection : Selection) (schema : Version) (query : Query) (result : Result (List Row) QueryRefusal) (text : List ℕ) → schema ≡ held.schema → query ≡ asked schema selection
    → QueryStep world moment held.lease query result → text ≡ queried_text schema query result → Queried world held moment (asked held.schema selection) text
reported world held moment selection schema query result text same is step printed =
    subst (λ (v : Version). (r : Result (List Row) QueryRefusal) × QueryStep world moment held.lease (asked v selection) r × (text ≡ queried_text held.schema (asked v selection) r)) same
    (subst (λ (q : Query). (r : Result (List Row) QueryRefusal) × QueryStep world moment held.lease q r × (text ≡ queried_text held.schema q r)) is
    (result, step, printed ∙ ap (λ (v : Version). queried_text v query result) same))

pub rows_reported : {X E : Type 0} (bytes : X → List ℕ) (world : State) (held : ServerLease) (moment : ℕ) (selection : Selection) (schema : Version) (query : Query) (found shown_rows : List Row) (printed : Result X E) → schema ≡ held.schema
    → query ≡ asked schema selection → QueryStep world moment held.lease query (Ok found) → shown_rows ≡ found → IfOk printed (λ text. bytes text ≡ rows_text (shown schema query) shown_rows)
    → IfOk printed (λ text. Queried world held moment (asked held.schema selection) (bytes text))
rows_reported bytes world held moment selection schema query found shown_rows (Ok text) same is step rows printed =
    reported world held moment selection schema query (Ok found) (bytes text) same is step (printed ∙ ap (rows_text (shown schema query)) rows)
rows_reported bytes world held moment selection schema query found shown_rows (Err short) same is step rows printed = tt

pub refusal_reported : {X E : Type 0} (bytes : X → List ℕ) (world : State) (held : ServerLease) (moment : ℕ) (selection : Selection) (schema : Version) (query : Query) (refusal : QueryRefusal) (printed : Result X E) → schema ≡ held.schema → query ≡ asked schema selection
    → QueryStep world moment held.lease query (Err refusal) → IfOk printed (λ text. bytes text ≡ line (refused (refusal_name refusal))) → IfOk printed (λ text. Queried world held moment (asked held.schema selection) (bytes text))
refusal_reported bytes world held moment selection schema query refusal (Ok text) same is step printed = reported world held moment selection schema query (Err refusal) (bytes text) same is step printed
refusal_reported bytes world held moment selection schema query refusal (Err short) same is step printed = tt
