use Rattle.page_check.proofs.Pages.{pages_are_the_audit}
use Rattle.page_check.proofs.laws.lemma_pages_are_the_audit.Goals as goal

pub returns : goal.returns
returns c = pages_are_the_audit
