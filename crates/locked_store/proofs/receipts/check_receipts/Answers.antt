use Rattle.std.proofs.Common.{rules, arith, ◌≡◌, ◌<◌, ◌-◌, ◌+◌, ◌∙◌, length}
use Rattle.std.specs.Prelude.{slice_get, slice_index_or, Some, true, false}
use Rattle.std.proofs.lemmas.Option.{slice_get_within}
use Rattle.rollout.specs.Receipt.{Receipt}
use Rattle.locked_store.specs.Receipts.{Stands}
use Rattle.locked_store.proofs.Marks.{at_lt, get_at, any_default, fine_more, marked_more, marks_more, first_amiss}
use Rattle.locked_store.proofs.receipts.check_receipts.Goals as goal

pub loop-receipt-preserved : goal.loop-receipt-preserved
loop-receipt-preserved c =
    let rs = c.args.receipts.now in
    let log = c.args.log.now in
    let start = c.args.start in
    let idx = c.loop-receipt.receipt-index in
    let seen = c.loop-receipt.seen.items in
    let r : Receipt = c.receipt-item.result in
    let lt : idx < length rs = search rules in
    let here : slice_get rs idx ≡ Some r = search (rules, get_at rs idx r lt, c.receipt-item.is) in
    let stands : Stands start log r = search rules in
    let inside : r.place - (start + 1) < length seen = omega (arith, slice_get_within log (r.place - (start + 1)) r.entry stands.1, c.loop-receipt.invariant.0) in
    let read : slice_index_or seen (r.place - (start + 1)) c.index.result.now ≡ false = search rules in
    let free : slice_index_or seen (r.place - (start + 1)) true ≡ false = any_default seen (r.place - (start + 1)) true c.index.result.now inside ∙ read in (
      c.loop-receipt.invariant.0,
      fine_more start log rs idx seen r here stands free c.loop-receipt.invariant.1 c.loop-receipt.invariant.3,
      marked_more start rs idx (length log) seen r here stands.0 c.loop-receipt.invariant.2,
      marks_more start rs idx seen r here inside c.loop-receipt.invariant.3,
    )

pub returns-clause-ok : goal.returns-clause-ok
returns-clause-ok c =
    let fine = c.loop-receipt.invariant.1 in
    record {
      stands = λ i r at. let lt = at_lt c.args.receipts.now i r at in (fine i r (omega arith) at).0;
      once = λ i j r q lt at bt. let l = at_lt c.args.receipts.now i r at in (fine i r (omega arith) at).1 j q lt bt;
    }
