use Rattle.std.proofs.Common.{◌≡◌, refl, ap, ◌∙◌}
use Rattle.checkpoint.specs.Checkpoint.{Checkpoint}
use Rattle.typed_calls.specs.Checkpoints.{bounded_at}
use Rattle.typed_calls.specs.Statuses.{out_of_memory}
use Rattle.typed_calls.proofs.Loads.{out_of_memory_alone}
use Rattle.typed_calls.proofs.checkpoints.open_at.Goals as goal

pub returns-in-Ok-clause-opens : goal.returns-in-Ok-clause-opens
returns-in-Ok-clause-opens c = (c.in-Ok.checkpoint, c.in-Ok.ensures.read, c.world_at.ensures)

pub returns-in-Ok-clause-saved : goal.returns-in-Ok-clause-saved
returns-in-Ok-clause-saved c = record {
  whole = λ limit checkpoint saved. c.world_at.ensures ∙ ap (λ (d : Checkpoint). bounded_at d c.args.furthest) (c.in-Ok.ensures.accepted.whole limit checkpoint saved);
  plain = λ limit checkpoint none saved. c.world_at.ensures ∙ ap (λ (d : Checkpoint). bounded_at d c.args.furthest) (c.in-Ok.ensures.accepted.plain limit checkpoint none saved);
}

pub returns-in-Err-clause-saved : goal.returns-in-Err-clause-saved
returns-in-Err-clause-saved c = record {
  whole = λ limit checkpoint saved.
      let short : c.load_status.result ≡ out_of_memory = c.load_status.ensures ∙ out_of_memory_alone c.in-Err.fault (c.in-Err.ensures.accepted.whole limit checkpoint saved) in rw short refl;
  plain = λ limit checkpoint none saved.
      let short : c.load_status.result ≡ out_of_memory = c.load_status.ensures ∙ out_of_memory_alone c.in-Err.fault (c.in-Err.ensures.accepted.plain limit checkpoint none saved) in rw short refl;
}
