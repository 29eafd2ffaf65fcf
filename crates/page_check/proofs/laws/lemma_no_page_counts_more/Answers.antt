use Rattle.page_check.proofs.Pages.{no_page_counts_more}
use Rattle.page_check.proofs.laws.lemma_no_page_counts_more.Goals as goal

pub returns : goal.returns
returns c = no_page_counts_more
