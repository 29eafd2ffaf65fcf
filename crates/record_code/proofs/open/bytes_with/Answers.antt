use Rattle.std.proofs.Common.{[], ◌∷◌, Some, ap, ◌∙◌}
use Rattle.std.proofs.lemmas.Result.{on_ok_weaker}
use Rattle.drafts.specs.declared.record.Record.TheVariants.{Version as OfVersion}
use Rattle.drafts.specs.Store.{version_key}
use Rattle.schema_version.specs.Version.{Version}
use Rattle.record_code.proofs.Records.{first_known}
use Rattle.record_code.proofs.open.bytes_with.Goals as goal

pub returns-clause-known : goal.returns-clause-known
returns-clause-known c =
    let puts = c.in_ok-writes.ensures ∙ ap (λ (v : Version). (version_key 1, Some (OfVersion v)) ∷ []) c.in_ok-schema.ensures in
    on_ok_weaker c.control_bytes.result (λ fit. first_known c.in_ok-writes.writes c.args.schema puts fit.writes) c.control_bytes.ensures.fit
