use Rattle.std.proofs.Common.{subst, refl, Result}
use Rattle.drafts.specs.declared.record.Record.{Record}
use Rattle.drafts.specs.declared.record.Record.TheVariants.{Reorg as OfReorg}
use Rattle.record_code.specs.Read.{IsRecordAccepted}
use Rattle.record_code.specs.declared.fault.RecordFault.{RecordFault}
use Rattle.record_code.specs.declared.kind.RecordKind.TheVariants.{Reorg as AReorg}
use Rattle.layer_calls.specs.Given.{IsReorg, reorg_code}
use Rattle.layer_calls.proofs.Records.{refused_so}
use Rattle.layer_calls.proofs.given.reorg.Goals as goal

pub returns : goal.returns
returns c =
    let accepted = subst (λ (found : Result Record RecordFault). IsRecordAccepted AReorg c.args.bytes.now found) c.in-Err.is c.record_of-read.ensures.accepted in
    refused_so IsReorg reorg_code c.args.bytes.now c.no_record.result c.in-Err.fault (λ reorg known spelled. accepted (OfReorg reorg) refl known spelled) c.no_record.ensures
