use Rattle.std.proofs.Common.{◌≡◌, string_bytes, ap, subst, ◌∙◌}
use Rattle.std.proofs.KnownBytes.{Appends-nil}
use Rattle.std.proofs.lemmas.Result.{err_from_is_err_and}
use Rattle.std.specs.Io.KnownBytes.{Appends}
use Rattle.script.specs.Script.{AppendsPrefix}
use Rattle.script.specs.Watched.{is_wrong}
use Rattle.script.proofs.watched.answer_one.Goals as goal

pub returns-in_default : goal.returns-in_default
returns-in_default g c = Appends-nil _

pub returns-in_err-write_all : goal.returns-in_err-write_all
returns-in_err-write_all g c =
    let p = err_from_is_err_and c.from_residual.result c.from_residual.ensures.1 in
    let sent : c.as_bytes.result.now ≡ string_bytes c.in-Ok.answer.text = cc (c.as_str-reply.ensures.value, c.as_bytes.ensures.value) in
    rw (p.1, p.2, c.in_err-write_all.ensures.err) record {
      reply = string_bytes c.in-Ok.answer.text;
      is_bad = c.in-Ok.answer.is_bad;
      new = c.reply_to.new.self;
      is_due = c.in-Ok.ensures;
      is_out = subst (AppendsPrefix (g.W.Write.contents c.args.writer.now) (g.W.Write.contents c.write_all.new.writer)) sent c.in_err-write_all.ensures.cut;
    }

pub returns : goal.returns
returns g c =
    let sent : c.as_bytes.result.now ≡ string_bytes c.in-Ok.answer.text = cc (c.as_str-reply.ensures.value, c.as_bytes.ensures.value) in
    let judged : c.as_bytes-2.result.now ≡ string_bytes c.in-Ok.answer.text = cc (c.as_str-reply.ensures.value, c.as_bytes-2.ensures.value) in
    record {
      reply = string_bytes c.in-Ok.answer.text;
      is_due = c.in-Ok.ensures;
      is_out = subst (Appends (g.W.Write.contents c.args.writer.now) (g.W.Write.contents c.write_all.new.writer)) sent c.in_ok-write_all.ensures.ok;
      is_judged = c.is_wrong-is_wrong.ensures ∙ ap (λ bytes. is_wrong bytes c.in-Ok.answer.is_bad) judged;
    }
