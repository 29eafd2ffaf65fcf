use Rattle.std.proofs.Common.{◌≡◌, [], sym, subst, ◌∙◌}
use Rattle.std.proofs.KnownBytes.{Appends-nil}
use Rattle.std.proofs.lemmas.Result.{err_from_is_err_and}
use Rattle.std.specs.Str.{IsUtf8}
use Rattle.script.specs.Watched.{AnsweredUntil}
use Rattle.script.proofs.UntilReports.{fault_reported_until, not_utf8_reported_until, answered_reported_until}
use Rattle.script.proofs.watched.run_watched.Goals as goal

pub returns-in_err-bytes : goal.returns-in_err-bytes
returns-in_err-bytes g c =
    let p = err_from_is_err_and c.from_residual.result c.from_residual.ensures.1 in
    ([], Appends-nil _, rw (p.1, p.2) (fault_reported_until c.args.watch.now.stops _ c.in_err-bytes.field-0.0 c.in_err-bytes.ensures.read))

pub returns-in_default : goal.returns-in_default
returns-in_default g c = ([], Appends-nil _, not_utf8_reported_until c.args.watch.now.stops _ c.in_ok-bytes.bytes.items c.in_ok-bytes.ensures.read (λ u. c.in_default.ensures.cases.0 (subst IsUtf8 (sym c.as_slice.ensures.value) u)))

pub answer_watched-requires : goal.answer_watched-requires
answer_watched-requires g c = record {
  start = c.new-session.ensures;
  few = rw (c.in-Ok.ensures.cases.0, c.as_slice.ensures.value) c.in_ok-bytes.ensures.bounded;
}

pub returns : goal.returns
returns g c =
    let a = c.answer_watched.ensures in
    let same : c.in-Ok.text.now ≡ c.in_ok-bytes.bytes.items = c.in-Ok.ensures.cases.0 ∙ c.as_slice.ensures.value in (
      a.0,
      a.1,
      answered_reported_until c.args.watch.now.stops _ c.in_ok-bytes.bytes.items a.0 _ c.in_ok-bytes.ensures.read
          (subst IsUtf8 c.as_slice.ensures.value c.in-Ok.ensures.cases.1)
          (subst (λ b. AnsweredUntil c.args.watch.now.stops b a.0 c.answer_watched.result) same a.2),
    )
