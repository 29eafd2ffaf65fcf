use Rattle.page_map.proofs.page.prefix_of.Goals as goal

pub returns : goal.returns
returns c = record {
  bytes = λ k. (c.type_inv.key k).fits;
  is = λ i. (c.word.ensures i, c.word-2.ensures i, c.word-3.ensures i);
}
