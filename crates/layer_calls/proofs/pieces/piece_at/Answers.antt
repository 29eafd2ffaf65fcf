use Rattle.std.proofs.Common.{◌≡◌, inr, refl, subst, length, List, Some}
use Rattle.std.specs.Prelude.{slice_get}
use Rattle.std.proofs.lemmas.Option.{slice_get_read}
use Rattle.row_map.specs.Rows.{Bytes}
use Rattle.layer_calls.proofs.Spans.{gone_on, stays}
use Rattle.layer_calls.proofs.pieces.piece_at.Goals as goal

pub returns-in-Some-found : goal.returns-in-Some-found
returns-in-Some-found c =
    let here = slice_get_read c.as_slice.result.now (length c.as_slice.result.now) c.args.piece c.in-Some.bound.now refl c.in-Some.ensures.lookup.3.0 c.in-Some.ensures.lookup.1 in
    let known = subst (λ (bounds : List (Bytes × Bytes)). slice_get bounds c.args.piece ≡ Some c.in-Some.bound.now) c.as_slice.ensures here in
    gone_on c.args.reorg.now c.args.piece c.args.cursor.now c.args.to.now c.args.view.now c.in-Some.bound.now c.in_ok-progress.progress c.in_ok-found.found c.in-Some-found.read known c.in_ok-progress.ensures c.in-Some-found.is c.in_ok-found.ensures c.draft_of.result c.draft_of.ensures

pub returns : goal.returns
returns c =
    let here = slice_get_read c.as_slice.result.now (length c.as_slice.result.now) c.args.piece c.in-Some.bound.now refl c.in-Some.ensures.lookup.3.0 c.in-Some.ensures.lookup.1 in
    let known = subst (λ (bounds : List (Bytes × Bytes)). slice_get bounds c.args.piece ≡ Some c.in-Some.bound.now) c.as_slice.ensures here in
    inr (inr (inr (c.of-in-None.ensures, stays c.args.reorg.now c.args.piece c.args.cursor.now c.args.to.now c.args.view.now c.in-Some.bound.now c.in_ok-progress.progress c.in_ok-found.found known c.in_ok-progress.ensures c.in-None.is c.in_ok-found.ensures)))
