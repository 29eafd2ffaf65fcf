use Rattle.std.proofs.Common.{rules, Ok, sym, subst}
use Rattle.checkpoint_code.specs.Page.{Page, IsPageAccepted}
use Rattle.saved_world.specs.Loading.{Loaded, IsAddAccepted}
use Rattle.saved_world.proofs.Adds.{loaded, page_refused_so, is_accepted}
use Rattle.saved_world.proofs.loading.Loading.add.Goals as goal

pub returns-in_err-pairs-clause-accepted : goal.returns-in_err-pairs-clause-accepted
returns-in_err-pairs-clause-accepted c = page_refused_so c.args.self.now c.args.page.now c.in_err-pairs.field-0.0 c.from_residual.result (search rules) c.in_err-pairs.ensures.accepted

pub returns-clause-accepted : goal.returns-clause-accepted
returns-clause-accepted c =
    subst (λ (old : Loaded). IsAddAccepted old c.args.page.now c.add_pairs.result (loaded c.self.inside.head c.add_pairs.new.store)) c.self.view_is
    (is_accepted c.self.inside.head c.self.inside.store c.add_pairs.new.store c.args.page.now c.as_slice.result.now c.add_pairs.new.last c.add_pairs.result
    (subst (λ (p : Page). IsPageAccepted c.args.page.now (Ok p)) (sym c.as_slice.ensures) c.in_ok-pairs.ensures.accepted) c.add_pairs.ensures.ok c.add_pairs.ensures.refused)
