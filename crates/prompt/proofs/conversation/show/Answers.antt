use Rattle.std.proofs.Common.{refl}
use Rattle.prompt.proofs.Transcripts.{on_err, prompt_kept, prompt_whole}
use Rattle.prompt.proofs.conversation.show.Goals as goal

pub returns-clause-cut : goal.returns-clause-cut
returns-clause-cut g c =
    on_err c.flush.result (prompt_whole _ _ c.args.prompt.now (prompt_kept _ (g.W.Write.contents c.write.new.self.writer) _ c.args.prompt.now c.args.prompt.now c.in_ok-write.ensures.ok refl c.flush.ensures.kept))
