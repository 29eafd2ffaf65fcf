use Rattle.std.proofs.Common.{rules}
use Rattle.std.proofs.lemmas.Result.{err_from_is_err_and}
use Rattle.world.specs.Piece.{IsPieceOf}
use Rattle.world.specs.State.{facts_of}
use Rattle.world.proofs.PieceSteps.{moved_on, short_of}
use Rattle.world.proofs.world.World.check_current.Goals as goal

pub returns-in_err-cursor-clause-refused : goal.returns-in_err-cursor-clause-refused
returns-in_err-cursor-clause-refused c =
    let own : IsPieceOf (facts_of c.args.self.now) c.args.prepared.now c.in-Some-span_of.span.now = record { progress = c.in-Some.progress.now; here = search rules; own = c.in-Some-span_of.ensures } in
    let p = err_from_is_err_and c.from_residual.result c.from_residual.ensures.1 in
    rw p.1 (short_of c.args.self.now c.args.now c.args.prepared.now c.in-Some-span_of.span.now p.0 c.if-now-gt-MAX_MOMENT.false own p.2)

pub returns-then-not-is_key-clause-refused : goal.returns-then-not-is_key-clause-refused
returns-then-not-is_key-clause-refused c =
    let own : IsPieceOf (facts_of c.args.self.now) c.args.prepared.now c.in-Some-span_of.span.now = record { progress = c.in-Some.progress.now; here = search rules; own = c.in-Some-span_of.ensures } in
    moved_on c.args.self.now c.args.now c.args.prepared.now c.in-Some-span_of.span.now c.in_ok-cursor.cursor c.if-now-gt-MAX_MOMENT.false own c.in_ok-cursor.ensures.cases (λ same. search rules)
