-- Cited by the definitions of Answer.
-- A query of a script, under its server's lease.
use Rattle.std.specs.Prelude.{◌≡◌, ℕ, List, Result}
use Rattle.row_map.specs.declared.shape.Row.{Row}
use Rattle.row_query.specs.declared.query.Query.{Query}
use Rattle.script_replies.specs.QueryRefusal.{QueryRefusal}
use Rattle.script_replies.specs.Query.{QueryStep}
use Rattle.script_replies.specs.State.{State}
use Rattle.script_replies.specs.Rows.{queried_text}
use Rattle.script_session.specs.declared.session.ServerLease.{ServerLease}

-- what the world answers under the server's lease is printed
abbrev pub Queried : State → ServerLease → ℕ → Query → List ℕ → Type 0
Queried world held moment query text = (result : Result (List Row) QueryRefusal) × QueryStep world moment held.lease query result × (text ≡ queried_text held.schema query result)
