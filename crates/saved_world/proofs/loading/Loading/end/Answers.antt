use Rattle.std.proofs.Common.{◌≡◌, IfErr, IfOk, OnOk, ap, subst, ◌∙◌}
use Rattle.collections.specs.Refusal.{IsRefusal}
use Rattle.checkpoint.specs.Checkpoint.{Checkpoint}
use Rattle.checkpoint.specs.Sound.{IsSound}
use Rattle.checkpoint_check.specs.Refusals.{Condition, rank}
use Rattle.checkpoint_check.specs.declared.fault.CheckpointFault.TheVariants.{Memory as OutOfMemory}
use Rattle.saved_world.specs.Loading.{checkpoint_in}
use Rattle.saved_world.proofs.Ends.{with_store, parts_are}
use Rattle.saved_world.proofs.loading.Loading.end.Goals as goal

pub returns-clause-ok : goal.returns-clause-ok
returns-clause-ok c =
    let same : with_store c.self.inside.head c.into_vec.result.items c.self.inside.store ≡ checkpoint_in c.args.self =
    parts_are c.self.inside.head c.into_vec.result.items c.self.inside.store c.into_vec.ensures ∙ ap checkpoint_in c.self.view_is in
    subst (λ (x : Checkpoint). IfOk c.restored.result (λ c'. c' ≡ x)) same c.restored.ensures.ok

pub returns-clause-sound : goal.returns-clause-sound
returns-clause-sound c =
    let same : with_store c.self.inside.head c.into_vec.result.items c.self.inside.store ≡ checkpoint_in c.args.self =
    parts_are c.self.inside.head c.into_vec.result.items c.self.inside.store c.into_vec.ensures ∙ ap checkpoint_in c.self.view_is in
    subst (λ (x : Checkpoint). OnOk c.restored.result (IsSound x)) same c.restored.ensures.sound

pub returns-clause-refused : goal.returns-clause-refused
returns-clause-refused c =
    let same : with_store c.self.inside.head c.into_vec.result.items c.self.inside.store ≡ checkpoint_in c.args.self =
    parts_are c.self.inside.head c.into_vec.result.items c.self.inside.store c.into_vec.ensures ∙ ap checkpoint_in c.self.view_is in
    subst (λ (x : Checkpoint). IfErr c.restored.result (λ fault. IsRefusal rank (Condition x) OutOfMemory fault)) same c.restored.ensures.refused
