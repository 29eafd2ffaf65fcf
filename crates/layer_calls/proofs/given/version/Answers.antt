use Rattle.std.proofs.Common.{subst, refl, Result}
use Rattle.drafts.specs.declared.record.Record.{Record}
use Rattle.drafts.specs.declared.record.Record.TheVariants.{Version as OfVersion}
use Rattle.record_code.specs.Read.{IsRecordRead, IsRecordAccepted}
use Rattle.record_code.specs.declared.fault.RecordFault.{RecordFault}
use Rattle.record_code.specs.declared.kind.RecordKind.TheVariants.{Version as AVersion}
use Rattle.layer_calls.specs.Given.{IsVersion, version_code}
use Rattle.layer_calls.proofs.Records.{refused_so, version_so}
use Rattle.layer_calls.proofs.given.version.Goals as goal

pub returns-in-Ok : goal.returns-in-Ok
returns-in-Ok c =
    let read = subst (λ (found : Result Record RecordFault). IsRecordRead AVersion c.args.bytes.now found) c.in-Ok.is c.record_of-read.ensures.read in
    version_so c.args.bytes.now c.in-Ok.record c.version_in.result read c.version_in.ensures.whole c.version_in.ensures.refused

pub returns : goal.returns
returns c =
    let accepted = subst (λ (found : Result Record RecordFault). IsRecordAccepted AVersion c.args.bytes.now found) c.in-Err.is c.record_of-read.ensures.accepted in
    refused_so IsVersion version_code c.args.bytes.now c.no_record.result c.in-Err.fault (λ version known spelled. accepted (OfVersion version) refl known spelled) c.no_record.ensures
