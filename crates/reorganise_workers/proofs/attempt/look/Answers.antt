use Rattle.std.proofs.Common.{◌≡◌, Some, None, Option, Bool, rules}
use Rattle.std.specs.Prelude.{Result, Ok, Err}
use Rattle.schema_version.specs.declared.element.Work.{Work}
use Rattle.locked_store.specs.Piece.{piece_standing_at}
use Rattle.locked_store.specs.State.{facts_of}
use Rattle.locked_store.specs.declared.fault.WentBack.{WentBack}
use Rattle.reorganise_workers.proofs.Ends.{stays_found, stood, stood_of_another_kind, stood_ended, stood_nowhere}
use Rattle.reorganise_workers.proofs.attempt.look.Goals as goal

pub returns-then-ne-clause-attempt : goal.returns-then-ne-clause-attempt
returns-then-ne-clause-attempt g c =
    stood_of_another_kind g.L.SharedLedger.start c.args.job.now c.args.piece c.in-Ok-Some.kind c.in-Ok-Some.ended
    (stood g.L.SharedLedger.start c.args.me.now c.piece_progress.new.me c.args.job.now c.args.piece c.in-Ok-Some.field-0 (Some (c.in-Ok-Some.kind, c.in-Ok-Some.ended)) c.requires.seen c.in-Ok-Some.field-0-is c.in-Ok-Some.ensures)
    (search rules)

pub returns-then-ended-clause-attempt : goal.returns-then-ended-clause-attempt
returns-then-ended-clause-attempt g c =
    stood_ended g.L.SharedLedger.start c.args.job.now c.args.piece c.in-Ok-Some.kind c.in-Ok-Some.ended
    (stood g.L.SharedLedger.start c.args.me.now c.piece_progress.new.me c.args.job.now c.args.piece c.in-Ok-Some.field-0 (Some (c.in-Ok-Some.kind, c.in-Ok-Some.ended)) c.requires.seen c.in-Ok-Some.field-0-is c.in-Ok-Some.ensures)
    (search rules) c.if-ended.true

pub returns-in-Ok-None-clause-attempt : goal.returns-in-Ok-None-clause-attempt
returns-in-Ok-None-clause-attempt g c =
    stood_nowhere g.L.SharedLedger.start c.args.job.now c.args.piece
    (stood g.L.SharedLedger.start c.args.me.now c.piece_progress.new.me c.args.job.now c.args.piece c.in-Ok-None.field-0 None c.requires.seen c.in-Ok-None.field-0-is c.in-Ok-None.ensures)

pub returns-then-ne-clause-had : goal.returns-then-ne-clause-had
returns-then-ne-clause-had g c =
    stays_found g.L.SharedLedger.start c.args.job.now.most c.args.me.now c.piece_progress.new.me (let r : Result (Option (Work × Bool)) WentBack = Ok c.in-Ok-Some.field-0 in r)
    (λ core x. x ≡ piece_standing_at (facts_of core) c.args.job.now.element c.args.piece) c.in-Ok-Some.ensures c.requires.had

pub returns-then-ended-clause-had : goal.returns-then-ended-clause-had
returns-then-ended-clause-had g c =
    stays_found g.L.SharedLedger.start c.args.job.now.most c.args.me.now c.piece_progress.new.me (let r : Result (Option (Work × Bool)) WentBack = Ok c.in-Ok-Some.field-0 in r)
    (λ core x. x ≡ piece_standing_at (facts_of core) c.args.job.now.element c.args.piece) c.in-Ok-Some.ensures c.requires.had

pub returns-else-ended-clause-had : goal.returns-else-ended-clause-had
returns-else-ended-clause-had g c =
    stays_found g.L.SharedLedger.start c.args.job.now.most c.args.me.now c.piece_progress.new.me (let r : Result (Option (Work × Bool)) WentBack = Ok c.in-Ok-Some.field-0 in r)
    (λ core x. x ≡ piece_standing_at (facts_of core) c.args.job.now.element c.args.piece) c.in-Ok-Some.ensures c.requires.had

pub returns-in-Ok-None-clause-had : goal.returns-in-Ok-None-clause-had
returns-in-Ok-None-clause-had g c =
    stays_found g.L.SharedLedger.start c.args.job.now.most c.args.me.now c.piece_progress.new.me (let r : Result (Option (Work × Bool)) WentBack = Ok c.in-Ok-None.field-0 in r)
    (λ core x. x ≡ piece_standing_at (facts_of core) c.args.job.now.element c.args.piece) c.in-Ok-None.ensures c.requires.had

pub returns-in-Err-clause-had : goal.returns-in-Err-clause-had
returns-in-Err-clause-had g c =
    stays_found g.L.SharedLedger.start c.args.job.now.most c.args.me.now c.piece_progress.new.me (let r : Result (Option (Work × Bool)) WentBack = Err c.in-Err.field-0 in r)
    (λ core x. x ≡ piece_standing_at (facts_of core) c.args.job.now.element c.args.piece) c.in-Err.ensures c.requires.had
