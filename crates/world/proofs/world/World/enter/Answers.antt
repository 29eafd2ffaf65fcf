use Rattle.std.proofs.Common.{◌∙◌, List, Some, sym, ap, refl, filter}
use Rattle.std.proofs.lemmas.Result.{err_from_is_err_and}
use Rattle.schema_version.specs.declared.step.Move.{Move}
use Rattle.schema_version.specs.Moves.{after_step}
use Rattle.replay.specs.Replay.{stays}
use Rattle.world.proofs.Invariant.{logged, follow_of}
use Rattle.world.proofs.Publications.{IsEntered, publish_entry, same_moves, short_step, same_room, entered_held, entered_step}
use Rattle.world.proofs.world.World.enter.Goals as goal

pub returns-in_err-next : goal.returns-in_err-next
returns-in_err-next c =
    let p = err_from_is_err_and c.from_residual.result c.from_residual.ensures.1 in
    record { step = rw p.1 (short_step c.args.self.now c.args.self.now c.args.now c.args.step.now p.0 c.requires.may refl p.2) }

pub returns-in_err-clone : goal.returns-in_err-clone
returns-in_err-clone c =
    let p = err_from_is_err_and c.from_residual-in_err-clone.result c.from_residual-in_err-clone.ensures.1 in
    record { step = rw p.1 (short_step c.args.self.now c.args.self.now c.args.now c.args.step.now p.0 c.requires.may refl p.2) }

pub returns-in_err-draft : goal.returns-in_err-draft
returns-in_err-draft c =
    let p = err_from_is_err_and c.from_residual-in_err-draft.result c.from_residual-in_err-draft.ensures.1 in
    let same = same_room c.self.inside c.make_ready.new.self c.self.inside.line c.in_err-draft.ensures.entries refl ∙ c.self.view_is in
    record { step = rw p.1 (short_step c.args.self.now _ c.args.now c.args.step.now p.0 c.requires.may same p.2) }

pub returns-in_err-version : goal.returns-in_err-version
returns-in_err-version c =
    let p = err_from_is_err_and c.from_residual-in_err-version.result c.from_residual-in_err-version.ensures.1 in
    let same = same_room c.self.inside c.make_ready.new.self c.publish.new.self c.in_ok-draft.ensures.entries c.in_err-version.ensures.err ∙ c.self.view_is in
    record { step = rw p.1 (short_step c.args.self.now _ c.args.now c.args.step.now p.0 c.requires.may same p.2) }

pub invariant_of-self-2 : goal.invariant_of-self-2
invariant_of-self-2 c =
    let w = follow_of c.self.inside c.args.self.now c.self.invariant c.self.view_is in
    let what = ap (λ (moves : List Move). publish_entry c.args.now moves) (same_moves c.args.step.now c.in_ok-clone.field-0 c.in_ok-clone.ensures.cases) in
    let entered : IsEntered c.self.inside c.args.now c.args.step.now (Some c.replace.result) c.replace.new.dest c.publish.new.self c.keep_unmoved.new.begun c.enter-receipt.new.self c.enter-receipt.result
    = record {
      before_is = ap Some c.replace.ensures.value;
      newest_is = c.replace.ensures.after ∙ c.in_ok-next.ensures ∙ c.requires.version ∙ ap (λ v. after_step v c.args.step.now) (sym w.newest);
      line_is = c.in_ok-version.ensures.ok;
      begun_is = c.keep_unmoved.ensures ∙ ap (λ (moves : List Move). filter (stays moves) c.self.inside.begun.items) c.as_slice.ensures;
      log_is = logged c.self.inside.log c.make_ready.new.self c.enter-receipt.new.self c.in_ok-draft.draft (publish_entry c.args.now c.args.step.now) c.enter-receipt.result c.in_ok-draft.ensures.entries (c.in_ok-draft.ensures.draft ∙ what)
          c.enter-receipt.ensures.entries c.enter-receipt.ensures.moment c.enter-receipt.ensures.receipt;
    } in
    entered_held c.self.inside c.args.self.now c.args.now c.args.step.now (Some c.replace.result) c.replace.new.dest c.publish.new.self c.keep_unmoved.new.begun c.enter-receipt.new.self c.enter-receipt.result c.lemma_publications_keep.ensures c.self.invariant c.self.view_is c.requires.later c.requires.may entered

pub returns : goal.returns
returns c =
    let w = follow_of c.self.inside c.args.self.now c.self.invariant c.self.view_is in
    let what = ap (λ (moves : List Move). publish_entry c.args.now moves) (same_moves c.args.step.now c.in_ok-clone.field-0 c.in_ok-clone.ensures.cases) in
    let entered : IsEntered c.self.inside c.args.now c.args.step.now (Some c.replace.result) c.replace.new.dest c.publish.new.self c.keep_unmoved.new.begun c.enter-receipt.new.self c.enter-receipt.result
    = record {
      before_is = ap Some c.replace.ensures.value;
      newest_is = c.replace.ensures.after ∙ c.in_ok-next.ensures ∙ c.requires.version ∙ ap (λ v. after_step v c.args.step.now) (sym w.newest);
      line_is = c.in_ok-version.ensures.ok;
      begun_is = c.keep_unmoved.ensures ∙ ap (λ (moves : List Move). filter (stays moves) c.self.inside.begun.items) c.as_slice.ensures;
      log_is = logged c.self.inside.log c.make_ready.new.self c.enter-receipt.new.self c.in_ok-draft.draft (publish_entry c.args.now c.args.step.now) c.enter-receipt.result c.in_ok-draft.ensures.entries (c.in_ok-draft.ensures.draft ∙ what)
          c.enter-receipt.ensures.entries c.enter-receipt.ensures.moment c.enter-receipt.ensures.receipt;
    } in
    record {
      step = entered_step c.self.inside c.args.self.now c.args.now c.in_ok-version.version c.args.step.now (Some c.replace.result) c.replace.new.dest c.publish.new.self c.keep_unmoved.new.begun c.enter-receipt.new.self c.enter-receipt.result
          c.self.invariant c.self.view_is c.requires.later c.requires.may entered c.in_ok-version.ensures.number;
    }
