use Rattle.layer_calls.proofs.Found.{on_ok, added_first}
use Rattle.layer_calls.proofs.dues.+add_all.Goals as goal

pub returns-in_ok-add-in-len1-up-clause-added : goal.returns-in_ok-add-in-len1-up-clause-added
returns-in_ok-add-in-len1-up-clause-added t c =
    on_ok c.add_all.result
    (added_first c.args.pairs.now c.first-item.result c.args.records.now c.add.new.records c.add_all.new.records c.in-len1-up.len_at_least c.first-item.is c.in_ok-add-in-len1-up.ensures.added)
    c.add_all.ensures.added
