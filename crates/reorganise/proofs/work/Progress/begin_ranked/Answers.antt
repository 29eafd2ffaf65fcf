use Rattle.std.proofs.Common.{List, ◌≡◌, sym, ap, subst}
use Rattle.reorganise.specs.declared.work.Progress.{Progress}
use Rattle.reorganise.specs.declared.work.Span.{Span}
use Rattle.reorganise.specs.ScanRanges.{scan_range_of, start, end, items}
use Rattle.reorganise.specs.Pieces.{spans}
use Rattle.reorganise.specs.Partition.{AreJoined}
use Rattle.reorganise.proofs.EmptyValues.{spans_counted}
use Rattle.reorganise.proofs.Shares.{begun_joined, partition}
use Rattle.reorganise.proofs.work.Progress.begin_ranked.Goals as goal

pub returns-clause-begun : goal.returns-clause-begun
returns-clause-begun g c =
    let pieces = spans_counted (scan_range_of c.args.element c.args.kind) _ (g.V.PairView.pairs c.args.view.now) _ _ c.args.pieces c.in_ok-pieces.pieces c.requires.ranked c.scan_range_of-scan_range.ensures c.in_ok-low.ensures c.in_ok-high.ensures c.in_ok-pieces.ensures in
    ap (λ (ps : List Span). (let p : Progress = record { element = c.args.element; kind = c.args.kind; pieces = ps } in p)) pieces

pub returns-clause-joined : goal.returns-clause-joined
returns-clause-joined g c =
    let pairs = g.V.PairView.pairs c.args.view.now in
    let scan_range = scan_range_of c.args.element c.args.kind in
    let pieces = spans_counted scan_range _ pairs _ _ c.args.pieces c.in_ok-pieces.pieces c.requires.ranked c.scan_range_of-scan_range.ensures c.in_ok-low.ensures c.in_ok-high.ensures c.in_ok-pieces.ensures in
    subst (AreJoined (start scan_range) (end scan_range)) (sym pieces) (begun_joined scan_range pairs c.args.pieces c.requires.some)

pub returns-clause-partition : goal.returns-clause-partition
returns-clause-partition g c =
    let scan_range = scan_range_of c.args.element c.args.kind in
    partition (start scan_range) (end scan_range) c.in_ok-pieces.pieces (returns-clause-joined g c)
