use Rattle.std.proofs.Common.{sym, ap, subst, ◌∙◌}
use Rattle.row_map.specs.Rows.{Bytes}
use Rattle.schema_version.specs.declared.element.ElementDef.{ElementDef}
use Rattle.reorganise.specs.Pieces.{part, ComesTo}
use Rattle.reorganise.specs.ScanRanges.{scan_range_of}
use Rattle.reorganise.proofs.ReadTo.{read_to_made}
use Rattle.reorganise.proofs.read_to.read_span_to.Goals as goal

pub invariant_of-result : goal.invariant_of-result
invariant_of-result g c =
    let pairs = g.V.PairView.pairs c.args.view.now in
    read_to_made pairs c.args.span.now.cursor c.args.to.now c.args.span.now.high c.in_ok-element.element c.args.progress.now.kind c.args.piece c.in_ok-low.low c.in_ok-cursor.cursor c.in_ok-end.end c.in_ok-high.high c.in_ok-pairs.pairs
    (subst (λ (e : ElementDef). ComesTo (scan_range_of e c.args.progress.now.kind) c.args.span.now.cursor c.args.span.now.high c.args.to.now) (sym c.in_ok-element.ensures) c.requires)
    c.in_ok-cursor.ensures c.in_ok-end.ensures c.in_ok-high.ensures
    (c.in_ok-pairs.ensures ∙ ap (λ (x : Bytes). part pairs x c.as_slice-2.result.now) c.as_slice.ensures ∙ ap (part pairs c.args.span.now.cursor) c.as_slice-2.ensures)
