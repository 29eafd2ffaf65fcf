-- The control records of a transaction's draft have codes that tell them apart.
use Rattle.std.proofs.Common.{◌<◌, ◌^◌, Option, Some, None, Result, Ok, Err, OnOk, IfSome, subst}
use Rattle.row_map.specs.Rows.{Bytes}
use Rattle.drafts.specs.Calls.{txn_draft, mark_reads, mark_writes}
use Rattle.drafts.specs.Coded.{IsFit}
use Rattle.drafts.specs.Marked.{MarkedTxn}
use Rattle.drafts.specs.Store.{Key}
use Rattle.drafts.specs.declared.record.Record.{Record}
use Rattle.drafts.specs.declared.record.Record.TheVariants.{Version as OfVersion}
use Rattle.record_code.specs.Drafts.{AreFitPoints, IsFitDraft}
use Rattle.record_code.specs.Keys.{HasKey}
use Rattle.record_code.specs.Records.{HasRecord}

fit : (entry : Key × Option Record) → HasKey entry.0 → IfSome entry.1 HasRecord → IsFit HasKey HasRecord entry
fit entry key value = record { key = key; value = λ r e. subst (λ (o : Option Record). IfSome o HasRecord) e value }

reads_fit : (mark : Option Bytes) → AreFitPoints (mark_reads mark)
reads_fit None = tt
reads_fit (Some name) = (fit _ tt tt, tt)

writes_fit : (mark : Option Bytes) → AreFitPoints (mark_writes mark)
writes_fit None = tt
writes_fit (Some name) = (fit _ tt tt, tt)

pub txn_fit : (draft : MarkedTxn) → draft.txn.lease.version < 2 ^ 64 → HasRecord (OfVersion draft.txn.schema) → IsFitDraft (txn_draft draft.txn draft.mark)
txn_fit draft number known = record { reads = (fit _ (number, tt) known, reads_fit draft.mark); writes = writes_fit draft.mark }

pub always : {A E P : Type 0} (result : Result A E) → P → OnOk result P
always (Ok value) p = p
always (Err fault) p = tt
