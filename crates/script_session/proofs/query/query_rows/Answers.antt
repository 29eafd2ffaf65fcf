use Rattle.std.specs.Prelude.{string_bytes}
use Rattle.script_session.proofs.Queries.{rows_reported, refusal_reported}
use Rattle.script_session.proofs.query.query_rows.Goals as goal

pub returns-in-Ok : goal.returns-in-Ok
returns-in-Ok c =
    rows_reported string_bytes c.args.world.now c.args.held.now c.args.moment c.args.selection c.get-schema.result.now c.in_ok-query.query c.in-Ok.rows c.as_slice.result.now c.rows_text.result
    c.get-schema.ensures c.in_ok-query.ensures c.in-Ok.ensures c.as_slice.ensures c.rows_text.ensures

pub returns : goal.returns
returns c =
    refusal_reported string_bytes c.args.world.now c.args.held.now c.args.moment c.args.selection c.get-schema.result.now c.in_ok-query.query c.in-Err.refusal c.unanswered_line.result
    c.get-schema.ensures c.in_ok-query.ensures c.in-Err.ensures c.unanswered_line.ensures
