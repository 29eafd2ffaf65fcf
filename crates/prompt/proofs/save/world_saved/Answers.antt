use Rattle.std.proofs.Common.{◌++◌, ◌∙◌, ap, codes, inl, inr, refl, subst, true}
use Rattle.std.specs.Fmt.{decimal}
use Rattle.std.specs.Prelude.{OnOk}
use Rattle.std.proofs.lemmas.Result.{IfOk-weaker}
use Rattle.prompt.specs.Save.{checkpoint_here}
use Rattle.prompt.proofs.save.world_saved.Goals as goal

pub returns-in-Ok-Ok : goal.returns-in-Ok-Ok
returns-in-Ok-Ok g c =
    let kept = subst (λ r. OnOk r (g.F.Files.keeps c.args.file.now (checkpoint_here c.args.world.now) true)) c.in-Ok-Ok.field-0-is c.in-Ok-Ok.ensures.kept in
    IfOk-weaker c.format.result _ _ (λ text is. inl (is ∙ ap (λ n. c.args.file.now ++ (codes " has the state after entry " ++ decimal n)) c.log_len-entries.ensures.count, kept)) c.format.ensures.ok

pub returns-in-Err : goal.returns-in-Err
returns-in-Err g c = IfOk-weaker c.unsaved_text-in-Err.result _ _ (λ text is. inr (codes "out of memory", is, inl refl)) c.unsaved_text-in-Err.ensures
