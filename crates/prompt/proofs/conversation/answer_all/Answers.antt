use Rattle.std.proofs.Common.{◌≡◌, ◌∙◌, Option, Some, ℕ, Vec, Global, ap, arith, subst, sym}
use Rattle.std.specs.Option.{option_map}
use Rattle.prompt.specs.Conversation.{IsAwaited, IsUnanswered, IsWritten}
use Rattle.prompt.proofs.Transcripts.{so_far-more, at_end, broken_in_answer, byte_few}
use Rattle.prompt.proofs.conversation.answer_all.Goals as goal

pub returns-in_default : goal.returns-in_default
returns-in_default g c =
    let P : Option (Vec ℕ Global) → Type 0 = λ o. IsAwaited (g.R.Read.remaining c.loop-lines.streams.reader) (g.R.Read.remaining c.ask.new.streams.reader) (option_map (λ (v : Vec ℕ Global). v.items) o) in
    at_end _ _ _ c.loop-lines.invariant.done c.in_ok-line.ensures.shown (subst P c.in_default.is c.in_ok-line.ensures.line) c.in_ok-line.ensures.handed

pub loop-lines-preserved : goal.loop-lines-preserved
loop-lines-preserved g c =
    let P : Option (Vec ℕ Global) → Type 0 = λ o. IsAwaited (g.R.Read.remaining c.loop-lines.streams.reader) (g.R.Read.remaining c.ask.new.streams.reader) (option_map (λ (v : Vec ℕ Global). v.items) o) in
    let whole = subst (λ l. IsWritten g.F.Files.keeps c.args.form c.loop-lines.state l c.in_ok-is_bad.is_bad c.write_answer.new.state (g.W.Write.contents c.ask.new.streams.writer) (g.W.Write.contents c.write_answer.new.streams.writer)) c.as_slice.ensures.value c.in_ok-is_bad.ensures.whole in
    let awaited = subst P c.in-Some.is c.in_ok-line.ensures.line in
    record {
      done = so_far-more c.from-bad.result c.loop-lines.invariant.done c.in_ok-line.ensures.shown (subst (λ r. IsAwaited (g.R.Read.remaining c.loop-lines.streams.reader) (g.R.Read.remaining r) (Some c.in-Some.line.items)) (sym c.write_answer.ensures.reader) awaited) whole c.from-bad.ensures;
      few = let h = byte_few c.in_ok-is_bad.is_bad c.from-bad.result c.from-bad.ensures in let k = c.loop-lines.invariant.few in omega (arith, h, k);
    }

pub returns-in_err-is_bad : goal.returns-in_err-is_bad
returns-in_err-is_bad g c =
    let P : Option (Vec ℕ Global) → Type 0 = λ o. IsAwaited (g.R.Read.remaining c.loop-lines.streams.reader) (g.R.Read.remaining c.ask.new.streams.reader) (option_map (λ (v : Vec ℕ Global). v.items) o) in
    let awaited = subst P c.in-Some.is c.in_ok-line.ensures.line in
    let at = g.W.Write.contents c.ask.new.streams.writer in
    let new = g.W.Write.contents c.write_answer.new.streams.writer in
    let fault = c.in_err-is_bad.field-0.0 in
    let cut = subst (λ l. IsUnanswered g.F.Files.keeps (c.write_answer.new.streams.writer ≡ c.ask.new.streams.writer) c.args.form c.loop-lines.state l at new fault) c.as_slice.ensures.value c.in_err-is_bad.ensures.cut in
    broken_in_answer _ at new _ c.in-Some.line.items _ c.from_residual-in_err-is_bad.result _ fault c.from_residual-in_err-is_bad.ensures.1 (λ e told. told) c.loop-lines.invariant.done c.in_ok-line.ensures.shown
    (subst (λ r. IsAwaited (g.R.Read.remaining c.loop-lines.streams.reader) (g.R.Read.remaining r) (Some c.in-Some.line.items)) (sym c.write_answer.ensures.reader) awaited) cut
    (λ k. (ap g.W.Write.contents (sym k), ap g.W.Handover.handed k ∙ c.in_ok-line.ensures.handed ∙ ap g.W.Write.contents (sym k)))
