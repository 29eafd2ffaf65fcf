use Rattle.std.proofs.Common.{ap, sym, subst, ◌∙◌, rules}
use Rattle.reorganise.specs.ScanRanges.{scan_range_of, ItemsAreEmpty}
use Rattle.reorganise.specs.Pieces.{begun}
use Rattle.world.proofs.Invariant.{follow_of, kept_of}
use Rattle.world.specs.State.{facts_of}
use Rattle.world.proofs.world.World.prepare_begin.Goals as goal

pub begin_ranked-requires-clause-ranked : goal.begin_ranked-requires-clause-ranked
begin_ranked-requires-clause-ranked c =
    let w = follow_of c.self.inside c.args.self.now c.self.invariant c.self.view_is in
    let kept = kept_of c.self.inside c.args.self.now c.self.invariant c.self.view_is in
    let stand = c.lemma_items_stand.ensures (facts_of c.args.self.now) c.args.number c.in-Some.found.now c.in-Some.work c.in-Some.ensures.found kept in
    subst (λ e. ItemsAreEmpty (scan_range_of e c.in-Some.work) c.self.inside.store) (sym c.in_ok-element.ensures)
    (subst (ItemsAreEmpty (scan_range_of c.in-Some.found.now c.in-Some.work)) (sym w.pairs) stand)

pub returns-clause-begins : goal.returns-clause-begins
returns-clause-begins c =
    let w = follow_of c.self.inside c.args.self.now c.self.invariant c.self.view_is in
    record {
      element = c.in-Some.found.now;
      work = c.in-Some.work;
      moment = c.if-now-gt-MAX_MOMENT.false;
      there = c.in-Some.ensures.found;
      wants = c.in-Some.ensures.wants;
      settled = search rules;
      new = search rules;
      count = search rules;
      begun_so = c.in_ok-begin_ranked.ensures.begun ∙ ap (λ e. begun e c.in-Some.work c.self.inside.store c.args.pieces) c.in_ok-element.ensures ∙ ap (λ ps. begun c.in-Some.found.now c.in-Some.work ps c.args.pieces) w.pairs;
    }
