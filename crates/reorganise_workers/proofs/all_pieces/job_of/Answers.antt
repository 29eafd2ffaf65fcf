use Rattle.std.proofs.Common.{◌≡◌, ℕ, Option, Bool, sym, ◌∙◌}
use Rattle.std.specs.Prelude.{Result, Ok, Err}
use Rattle.schema_version.specs.declared.element.Work.{Work}
use Rattle.locked_store.specs.Piece.{standing_at}
use Rattle.locked_store.specs.State.{facts_of}
use Rattle.locked_store.specs.declared.fault.WentBack.{WentBack}
use Rattle.reorganise_workers.proofs.Ends.{stays_found}
use Rattle.reorganise_workers.proofs.all_pieces.job_of.Goals as goal

pub returns-in-Ok-Some-clause-begun : goal.returns-in-Ok-Some-clause-begun
returns-in-Ok-Some-clause-begun g c = (
  c.in-Ok-Some.ensures.0,
  record { is_core = c.in-Ok-Some.ensures.1.0; since = c.in-Ok-Some.ensures.1.1 },
  c.in-Ok-Some.field-0-0-2,
  sym c.in-Ok-Some.ensures.1.2 ∙ c.in-Ok-Some.field-0-is,
)

pub returns-in-Ok-None-clause-refused : goal.returns-in-Ok-None-clause-refused
returns-in-Ok-None-clause-refused g c =
    (c.in-Ok-None.ensures.0, record { is_core = c.in-Ok-None.ensures.1.0; since = c.in-Ok-None.ensures.1.1 }, sym c.in-Ok-None.ensures.1.2 ∙ c.in-Ok-None.field-0-is)

pub returns-in-Ok-Some-clause-stays : goal.returns-in-Ok-Some-clause-stays
returns-in-Ok-Some-clause-stays g c = λ m has.
    stays_found g.L.SharedLedger.start m c.args.me.now c.progress.new.me (let r : Result (Option (Work × ℕ × Bool)) WentBack = Ok c.in-Ok-Some.field-0 in r)
    (λ core x. x ≡ standing_at (facts_of core) c.args.element) c.in-Ok-Some.ensures has

pub returns-in-Ok-None-clause-stays : goal.returns-in-Ok-None-clause-stays
returns-in-Ok-None-clause-stays g c = λ m has.
    stays_found g.L.SharedLedger.start m c.args.me.now c.progress.new.me (let r : Result (Option (Work × ℕ × Bool)) WentBack = Ok c.in-Ok-None.field-0 in r)
    (λ core x. x ≡ standing_at (facts_of core) c.args.element) c.in-Ok-None.ensures has

pub returns-in-Err-clause-stays : goal.returns-in-Err-clause-stays
returns-in-Err-clause-stays g c = λ m has.
    stays_found g.L.SharedLedger.start m c.args.me.now c.progress.new.me (let r : Result (Option (Work × ℕ × Bool)) WentBack = Err c.in-Err.field-0 in r)
    (λ core x. x ≡ standing_at (facts_of core) c.args.element) c.in-Err.ensures has
