use Rattle.std.proofs.Common.{rules, ◌≡◌, inr, true, false, refl, sym, ◌∙◌}
use Rattle.saved_world.specs.Follows.{follows}
use Rattle.saved_world.proofs.Adds.{unordered, none_added, all_added, no_memory}
use Rattle.saved_world.proofs.loading.add_pairs.Goals as goal

pub returns-then-not-follows-clause-refused : goal.returns-then-not-follows-clause-refused
returns-then-not-follows-clause-refused c =
    let fails : follows c.args.last.now c.args.page.now ≡ false = (search rules) in
    inr (refl, unordered c.args.store.now c.args.page.now c.args.last.now c.requires.last fails)

pub returns-in_default-clause-ok : goal.returns-in_default-clause-ok
returns-in_default-clause-ok c = none_added c.args.store.now c.args.page.now c.args.last.now c.requires.last (sym c.in_default.is ∙ c.in_ok-greatest.ensures)

pub returns-clause-ok : goal.returns-clause-ok
returns-clause-ok c =
    let passes : follows c.args.last.now c.args.page.now ≡ true = (search rules) in
    all_added c.args.store.now c.args.page.now c.put_all.new.store c.args.last.now c.in-Some.greatest c.requires.last c.requires.sorted passes (sym c.in-Some.is ∙ c.in_ok-greatest.ensures) c.in_ok-put_all.ensures.ok

pub returns-in_err-greatest-clause-refused : goal.returns-in_err-greatest-clause-refused
returns-in_err-greatest-clause-refused c =
    let passes : follows c.args.last.now c.args.page.now ≡ true = (search rules) in
    no_memory c.args.store.now c.args.page.now c.args.last.now c.from_residual.result c.requires.last c.requires.sorted passes (search rules)

pub returns-in_err-put_all-clause-refused : goal.returns-in_err-put_all-clause-refused
returns-in_err-put_all-clause-refused c =
    let passes : follows c.args.last.now c.args.page.now ≡ true = (search rules) in
    no_memory c.args.store.now c.args.page.now c.args.last.now c.from_residual-in_err-put_all.result c.requires.last c.requires.sorted passes (search rules)
