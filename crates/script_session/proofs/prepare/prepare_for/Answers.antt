use Rattle.std.proofs.Common.{ap, ◌∙◌}
use Rattle.script_names.specs.Names.{resolved_all}
use Rattle.script_session.proofs.Transactions.{read_of, refused_of, prepared_for}
use Rattle.script_session.proofs.prepare.prepare_for.Goals as goal

pub returns : goal.returns
returns c =
    let same = c.in-Ok.ensures.cases in
    let named = c.in-Ok-shared_ops.ensures ∙ ap (λ v. resolved_all v c.args.operations) (c.get.ensures ∙ same) in (
      c.in-Ok-read.view,
      read_of c.args.world.now c.args.held.now _ _ _ (c.get-2.ensures ∙ same) (c.as_slice.ensures ∙ c.get-3.ensures ∙ named) _ _ c.in-Ok-reads_of.ensures c.in-Ok-read.ensures,
      refused_of c.args.world.now c.args.held.now _ _ _ same named _ _ c.in-Err.ensures.refused,
    )

pub returns-in-Ok-prepare_shared : goal.returns-in-Ok-prepare_shared
returns-in-Ok-prepare_shared c =
    let same = c.in-Ok.ensures.cases in
    let named = c.in-Ok-shared_ops.ensures ∙ ap (λ v. resolved_all v c.args.operations) (c.get.ensures ∙ same) in
    prepared_for c.args.world.now c.args.held.now _ _ _ same named _ _ (read_of c.args.world.now c.args.held.now _ _ _ (c.get-2.ensures ∙ same) (c.as_slice.ensures ∙ c.get-3.ensures ∙ named) _ _ c.in-Ok-reads_of.ensures c.in-Ok-read.ensures) c.in-Ok-prepare_shared.ensures.holds c.in-Ok-prepare_shared.ensures.clear c.in-Ok-prepare_shared.ensures.prepared
