use Rattle.row_page.proofs.Whole.{whole}
use Rattle.row_page.proofs.laws.lemma_pages_are_whole.Goals as goal

pub returns : goal.returns
returns c = whole
