use Rattle.std.proofs.lemmas.Result.{err_from_is_err_and}
use Rattle.row_write.proofs.Keys.{encoded_reads}
use Rattle.row_write.proofs.Viewed.{missed_map}
use Rattle.row_write.proofs.read.read_marked.Goals as goal

pub returns-in_err-rows-clause-missed : goal.returns-in_err-rows-clause-missed
returns-in_err-rows-clause-missed c =
    let p = err_from_is_err_and c.from_residual.result c.from_residual.ensures.1 in
    rw (p.1, p.2) (missed_map c.in_err-rows.field-0.0 (λ never rows s. never rows s.encoded) c.in_err-rows.ensures.missed)

pub returns-clause-found : goal.returns-clause-found
returns-clause-found c = record {
  keys = λ key. (encoded_reads c.args.schema.now c.args.ops.now c.args.view.now c.in_ok-rows.rows c.in_ok-rows.ensures.found key, λ (value, at). c.in_ok-check_keys.ensures.read key value at);
  encoded = c.in_ok-rows.ensures.found;
}
