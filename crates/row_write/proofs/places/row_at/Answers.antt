use Rattle.std.proofs.Common.{sym, subst, length, ◌+◌, ◌-◌, arith}
use Rattle.std.proofs.lemmas.Result.{err_from_is_err_and}
use Rattle.row_write.specs.inner.View.{IsThere, AreCells, visible_at}
use Rattle.row_write.proofs.InOrder.{one_presence, presence_at, held_at_place}
use Rattle.row_write.proofs.Viewed.{missed_map}
use Rattle.row_write.proofs.places.row_at.Goals as goal

pub returns-in_err-there-clause-missed : goal.returns-in_err-there-clause-missed
returns-in_err-there-clause-missed c =
    let presence = presence_at c.args.view.now c.args.op.now c.args.columns.now c.entries-entries.result.now c.args.at c.index-entries-at.result c.entries-entries.ensures.all c.requires c.index-entries-at.is in
    let p = err_from_is_err_and c.from_residual.result c.from_residual.ensures.1 in
    rw (p.1, p.2) (missed_map c.in_err-there.field-0.0 (λ never there cells visible. never there (subst (λ s. IsThere s there) presence visible.0)) c.in_err-there.ensures.missed)

pub returns-in_err-cells-clause-missed : goal.returns-in_err-cells-clause-missed
returns-in_err-cells-clause-missed c =
    let presence = presence_at c.args.view.now c.args.op.now c.args.columns.now c.entries-entries.result.now c.args.at c.index-entries-at.result c.entries-entries.ensures.all c.requires c.index-entries-at.is in
    let held = held_at_place c.args.view.now c.args.op.now c.args.columns.now c.entries-entries.result.now c.args.at (c.args.at + 1 + length c.args.columns.now - (c.args.at + 1)) c.entries-entries.ensures.all (omega arith) c.requires in
    let p = err_from_is_err_and c.from_residual-in_err-cells.result c.from_residual-in_err-cells.ensures.1 in
    rw (p.1, p.2) (missed_map c.in_err-cells.field-0.0 (λ never there cells visible.
    let same = one_presence (visible_at c.args.view.now c.args.op.now 0) there c.in_ok-there.there visible.0 (subst (λ s. IsThere s c.in_ok-there.there) (sym presence) c.in_ok-there.ensures.found) in
    never (visible_at c.args.view.now c.args.op.now) held cells (subst (λ t. AreCells t (visible_at c.args.view.now c.args.op.now) c.args.columns.now cells) same visible.1)) c.in_err-cells.ensures.missed)

pub returns-clause-found : goal.returns-clause-found
returns-clause-found c =
    let presence = presence_at c.args.view.now c.args.op.now c.args.columns.now c.entries-entries.result.now c.args.at c.index-entries-at.result c.entries-entries.ensures.all c.requires c.index-entries-at.is in
    let held = held_at_place c.args.view.now c.args.op.now c.args.columns.now c.entries-entries.result.now c.args.at (c.args.at + 1 + length c.args.columns.now - (c.args.at + 1)) c.entries-entries.ensures.all (omega arith) c.requires in
    (subst (λ s. IsThere s c.in_ok-there.there) (sym presence) c.in_ok-there.ensures.found, c.in_ok-cells.ensures.found (visible_at c.args.view.now c.args.op.now) held)
