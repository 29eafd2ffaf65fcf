use Rattle.std.proofs.Common.{ap, sym, ◌∙◌, arith}
use Rattle.byte_map.specs.Order.{bytes_cmp}
use Rattle.byte_map.proofs.Order.{less_from}
use Rattle.byte_map.proofs.Search.{comes_last}
use Rattle.byte_map.proofs.key_map.comes_last.Goals as goal

pub returns : goal.returns
returns g c = λ t.
    let e = c.index-entries-count.result in
    comes_last c.args.entries.now c.args.key.now e c.requires (omega (arith, c.if-count-eq0.false)) c.index-entries-count.is
    (ap (λ z. bytes_cmp z.0 c.args.key.now) c.index-entries-count.is ∙ sym c.compare.ensures ∙ less_from c.compare.result (sym c.is_lt.ensures ∙ t))
