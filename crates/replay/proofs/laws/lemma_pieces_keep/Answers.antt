use Rattle.replay.proofs.Pieces.{lemma_pieces_keep}
use Rattle.replay.proofs.laws.lemma_pieces_keep.Goals as goal

pub returns : goal.returns
returns c = lemma_pieces_keep
