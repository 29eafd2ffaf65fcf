-- Cited by the contracts of reads, txn and of what they call.
-- Transactions over a store that someone else runs: the keys that they read, and their drafts.
use Rattle.std.specs.Prelude.{◌≡◌, ℕ, ◌⊎◌, ◌↔◌, List, [], ◌∷◌, Option, Some, None, Ok, Err}
use mathlib.Core.List.{map as each}
use Rattle.std.specs.FinMap as map
use Rattle.collections.specs.Refusal.{IsRefusal}
use Rattle.entry_code.specs.Records.{points_code}
use Rattle.keycode.specs.Order.{bytes_cmp}
use Rattle.row_map.specs.Expect.{View}
use Rattle.row_map.specs.Rows.{Bytes}
use Rattle.row_map.specs.Writes.{Batch}
use Rattle.row_write.specs.Prepare.{rank, Condition, IsPrepared}
use Rattle.row_write.specs.Reads.{IsRead}
use Rattle.row_write.specs.declared.fault.PrepareFault.{PrepareFault}
use Rattle.row_write.specs.declared.fault.PrepareFault.TheVariants.{Memory}
use Rattle.row_write.specs.declared.fault.RowFault.{RowFault}
use Rattle.row_write.specs.declared.fault.RowFault.TheVariants.{Duplicate, NoRow}
use Rattle.row_write.specs.declared.op.RowOp.{RowOp}
use Rattle.row_write.specs.declared.op.RowOutcome.TheVariants.{Refused as NotDone}
use Rattle.schema_version.specs.Version.{Version}
use Rattle.drafts.specs.Calls.{Transact}
use Rattle.drafts.specs.Marked.{MarkedTxn}
use Rattle.drafts.specs.Txn.{IsTxnOf}
use Rattle.handles.specs.Prepare.{prepare_outcome}
use Rattle.handles.specs.Statuses.{duplicate, no_row, out_of_memory}
use Rattle.layer_calls.specs.Drafted.{IsDraftOf}
use Rattle.layer_calls.specs.Given.{alone, numbered, Answer}
use Rattle.layer_calls.specs.declared.outcome.LayerOutcome.{LayerOutcome}

-- ---- reads

-- these keys, each without a value
abbrev pub missing : List (Bytes × Unit {0}) → List (Bytes × Option Bytes)
missing entries = each (λ (entry : Bytes × Unit {0}). (entry.0, None)) entries

-- the code of a set of keys, which are those that the operations read
pub record AreReads (schema : Version) (ops : List RowOp) (code : Bytes) : Type 0 where
  pub keys : map.FinMap bytes_cmp (Unit {0})
  pub exact : (key : Bytes) → (map.get keys key ≡ Some tt) ↔ IsRead schema ops key
  pub spelled : code ≡ points_code (missing (map.entries keys))

abbrev pub Wants : Version → List RowOp → Answer → Type 0
Wants schema ops (Ok reply) = AreReads schema ops reply.code × (reply.number ≡ 0)
Wants schema ops (Err outcome) = outcome ≡ alone out_of_memory

-- ---- drafts

-- what a preparation that is refused is reported as
abbrev pub prepare_refusal : PrepareFault → LayerOutcome
prepare_refusal fault = record { status = (prepare_outcome fault).status; column = (prepare_outcome fault).column; number = 0; length = 0 }

abbrev pub row_refusal : ℕ → RowFault → LayerOutcome
row_refusal op Duplicate = numbered duplicate op
row_refusal op NoRow = numbered no_row op

-- the name of a mark; an empty one is none
abbrev pub mark_of : Bytes → Option Bytes
mark_of [] = None
mark_of (byte ∷ bytes) = Some (byte ∷ bytes)

-- the draft of these operations under the version on what was read; or the first refusal of their preparation, or the first operation that the rows refuse
abbrev pub Drafts : ℕ → Bytes → Version → List RowOp → View → Answer → Type 0
Drafts number mark schema ops view (Ok reply) =
    (draft : MarkedTxn) × IsTxnOf number schema ops (mark_of mark) view draft × IsDraftOf (Transact draft.txn draft.mark) reply
Drafts number mark schema ops view (Err outcome) =
    (outcome ≡ alone out_of_memory)
    ⊎ ((fault : PrepareFault) × IsRefusal rank (Condition schema ops view) Memory fault × (outcome ≡ prepare_refusal fault))
    ⊎ ((op : ℕ) × (why : RowFault) × (batch : Batch) × IsPrepared schema ops view (NotDone op why) batch × (outcome ≡ row_refusal op why))
