use Rattle.std.proofs.Common.{◌∙◌, subst}
use Rattle.prompt.specs.Conversation.{AppendsPrefix}
use Rattle.prompt.proofs.Transcripts.{cut_by_writer}
use Rattle.prompt.proofs.conversation.write_answer.Goals as goal

pub returns-in_err-write-clause-cut : goal.returns-in_err-write-clause-cut
returns-in_err-write-clause-cut g c =
    let answer = c.in_ok-answer.answer in
    cut_by_writer _ c.from_residual-in_err-write.result _ c.from_residual-in_err-write.ensures.1 (λ e told. told ∙ c.in_err-write.ensures.err) (record {
      text = answer.text.items;
      bad = answer.is_bad;
      new = c.answer_line.new.state;
      answered = c.in_ok-answer.ensures;
      written = subst (AppendsPrefix (g.W.Write.contents c.args.streams.now.writer) (g.W.Write.contents c.write.new.self.writer)) c.bytes.ensures c.in_err-write.ensures.cut;
    })
