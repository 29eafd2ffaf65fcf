use Rattle.page_map.proofs.Appends.{in_two}
use Rattle.page_map.proofs.cut.cut_at.Goals as goal

pub returns : goal.returns
returns c =
    in_two c.args.pairs.now.pairs _ _ c.in_ok-pages.pages.items c.in_ok-rest.rest.items c.append.new.self.items c.args.at c.len.result c.len.ensures c.in_ok-part.ensures c.in_ok-part-2.ensures c.in_ok-pages.ensures c.in_ok-rest.ensures c.in_ok-append.ensures.items
