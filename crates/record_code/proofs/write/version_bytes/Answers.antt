use Rattle.std.proofs.Common.{subst}
use Rattle.std.proofs.lemmas.Result.{on_ok_weaker}
use Rattle.keycode.specs.Valid.{IsValue}
use Rattle.entry_code.specs.Parts.{IsSchema}
use Rattle.record_code.proofs.write.version_bytes.Goals as goal

pub returns-clause-known : goal.returns-clause-known
returns-clause-known c = on_ok_weaker c.schema_parts_bytes.result (λ known. (c.lemma_known.ensures, subst (IsSchema IsValue) c.in_ok-parts.ensures known)) c.schema_parts_bytes.ensures.known
