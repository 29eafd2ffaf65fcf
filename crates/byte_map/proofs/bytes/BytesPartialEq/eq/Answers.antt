use Rattle.std.proofs.Common.{◌∙◌, sym}
use Rattle.std.specs.Ordering.{is_eq}
use Rattle.std.specs.Cmp.Lexicographic.{texts_ties}
use Rattle.byte_map.specs.Order.{bytes_cmp}
use Rattle.byte_map.proofs.bytes.BytesPartialEq.eq.Goals as goal

pub returns : goal.returns
returns c =
    c.is_same.ensures
    ∙ (λ i. is_eq (bytes_cmp (c.as_slice.ensures i) (c.as_slice-2.ensures i)))
    ∙ sym (texts_ties c.args.self.now c.args.other.now)
