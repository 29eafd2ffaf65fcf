use Rattle.std.proofs.Common.{List, ◌++◌, ap, ◌∙◌}
use Rattle.row_map.specs.Rows.{Bytes}
use Rattle.drafts.specs.Divide.{bounds_from}
use Rattle.drafts.proofs.Divided.{writes_are}
use Rattle.drafts.proofs.divide.divide_control.Goals as goal

pub returns : goal.returns
returns c =
    let low = c.args.range.now.0 in
    let high = c.args.range.now.1 in
    let bounds = c.new.ensures ∙ c.in_ok-push_bounds.ensures ∙ ap (λ (x : List (Bytes × Bytes)). x ++ bounds_from low c.args.keys.now high) c.new-bounds.ensures.items in
    record {
      reads = c.new-2.ensures ∙ c.in_ok-reads.ensures;
      writes = c.new-3.ensures ∙ c.in_ok-writes.ensures ∙ writes_are c.args.newest.now c.args.element.now c.args.work c.args.keys.now low high c.new.result c.requires.low c.requires.high bounds;
    }
