use Rattle.std.proofs.Common.{subst, inl, inr, refl}
use Rattle.std.proofs.lemmas.Result.{err_from_is_err_and}
use Rattle.schema_version.specs.Moves.{IsAllowed, IsRefused}
use Rattle.world.proofs.Invariant.{follow_of}
use Rattle.world.proofs.Publications.{reported_unready, may_be, memory_is_none, short}
use Rattle.world.proofs.world.World.next_version.Goals as goal

pub returns-in_err-ready-in-Ok-clause-refused : goal.returns-in_err-ready-in-Ok-clause-refused
returns-in_err-ready-in-Ok-clause-refused c =
    let w = follow_of c.self.inside c.args.self.now c.self.invariant c.self.view_is in
    let p = err_from_is_err_and c.from_residual-in_err-ready-in-Ok.result c.from_residual-in_err-ready-in-Ok.ensures.1 in
    rw p.1 (reported_unready c.self.inside c.args.self.now c.args.now c.get.result.now c.args.step.now c.as_slice.result.now c.in_err-ready-in-Ok.field-0.0 p.0 w c.if-now-gt-MAX_MOMENT.false (c.in_ok-may_publish.ensures.ok.0 refl) c.get.ensures c.in-Ok.ensures.allowed c.as_slice.ensures c.in_err-ready-in-Ok.ensures.refused p.2)

pub returns-in_err-ready-in-Err-Memory-clause-refused : goal.returns-in_err-ready-in-Err-Memory-clause-refused
returns-in_err-ready-in-Err-Memory-clause-refused c =
    let w = follow_of c.self.inside c.args.self.now c.self.invariant c.self.view_is in
    let p = err_from_is_err_and c.from_residual-in_err-ready-in-Err-Memory.result c.from_residual-in_err-ready-in-Err-Memory.ensures.1 in
    let allowed : IsAllowed c.get.result.now c.args.step.now = elim c.in-Err-Memory.ensures.refused [ inl both ↦ both.1 | inr r ↦ absurd (memory_is_none c.get.result.now c.args.step.now (subst (IsRefused c.get.result.now c.args.step.now) c.in-Err-Memory.field-0-is r)) ] in
    rw p.1 (reported_unready c.self.inside c.args.self.now c.args.now c.get.result.now c.args.step.now c.as_slice-in-Err-Memory.result.now c.in_err-ready-in-Err-Memory.field-0.0 p.0 w c.if-now-gt-MAX_MOMENT.false (c.in_ok-may_publish.ensures.ok.0 refl) c.get.ensures allowed c.as_slice-in-Err-Memory.ensures c.in_err-ready-in-Err-Memory.ensures.refused p.2)

pub returns-in_ok-ready-in-Err-Memory-clause-refused : goal.returns-in_ok-ready-in-Err-Memory-clause-refused
returns-in_ok-ready-in-Err-Memory-clause-refused c =
    let w = follow_of c.self.inside c.args.self.now c.self.invariant c.self.view_is in
    let allowed : IsAllowed c.get.result.now c.args.step.now = elim c.in-Err-Memory.ensures.refused [ inl both ↦ both.1 | inr r ↦ absurd (memory_is_none c.get.result.now c.args.step.now (subst (IsRefused c.get.result.now c.args.step.now) c.in-Err-Memory.field-0-is r)) ] in
    short c.args.self.now c.args.now c.args.step.now
    (may_be c.self.inside c.args.self.now c.args.now c.get.result.now c.args.step.now c.as_slice-in-Err-Memory.result.now w c.if-now-gt-MAX_MOMENT.false (c.in_ok-may_publish.ensures.ok.0 refl) c.get.ensures allowed c.as_slice-in-Err-Memory.ensures c.in_ok-ready-in-Err-Memory.ensures.finished c.in_ok-ready-in-Err-Memory.ensures.room)
