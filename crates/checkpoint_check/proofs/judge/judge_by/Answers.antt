use Rattle.std.proofs.Common.{rules}
use Rattle.checkpoint_check.proofs.Elements.{made_numbered}
use Rattle.checkpoint_check.proofs.judge.judge_by.Goals as goal

pub is_column_pair-requires-clause-made : goal.is_column_pair-requires-clause-made
is_column_pair-requires-clause-made g c = (made_numbered c.args.schema.now c.args.elements.now c.requires.made c.in-Some-Column.element _ c.find_element-found.ensures).1

pub is_index_pair-requires-clause-made : goal.is_index_pair-requires-clause-made
is_index_pair-requires-clause-made g c = (made_numbered c.args.schema.now c.args.elements.now c.requires.made c.in-Some-Index.element _ c.find_element-found-in-Some-Index.ensures).1

pub returns-in-Some-Column : goal.returns-in-Some-Column
returns-in-Some-Column g c =
    let e = (made_numbered c.args.schema.now c.args.elements.now c.requires.made c.in-Some-Column.element _ c.find_element-found.ensures).0 in
    search rules

pub returns-in-Some-Index : goal.returns-in-Some-Index
returns-in-Some-Index g c =
    let e = (made_numbered c.args.schema.now c.args.elements.now c.requires.made c.in-Some-Index.element _ c.find_element-found-in-Some-Index.ensures).0 in
    search rules
