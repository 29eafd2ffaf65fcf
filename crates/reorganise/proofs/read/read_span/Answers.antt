use Rattle.std.proofs.Common.{sym, ap, ◌∙◌}
use Rattle.reorganise.specs.ScanRanges.{scan_range_of}
use Rattle.reorganise.proofs.KeyRanges.{reading_made}
use Rattle.reorganise.proofs.read.read_span.Goals as goal

pub invariant_of-result : goal.invariant_of-result
invariant_of-result g c =
    reading_made c.scan_range_of-scan_range.result (g.V.PairView.pairs c.args.view.now) c.as_slice-cursor.result.now c.as_slice.result.now c.args.limit c.in_ok-element.element c.args.progress.now.kind c.args.piece c.in_ok-low.low c.in_ok-high.high c.in_ok-key_range.key_range
    (c.scan_range_of-scan_range.ensures ∙ ap (λ e. scan_range_of e c.args.progress.now.kind) (sym c.in_ok-element.ensures)) (c.as_slice.ensures ∙ sym c.in_ok-high.ensures) c.in_ok-key_range.ensures.exact c.in_ok-key_range.ensures.comes
