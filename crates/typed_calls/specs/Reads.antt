-- Cited by the contracts of read, read_again and of what they call.
-- The operations of a transaction by their code, and what they read.
use Rattle.std.specs.Prelude.{◌≡◌, ℕ, ◌⊎◌, ◌↔◌, ℤ, List, Some, Result, Ok, Err}
use Rattle.std.specs.FinMap as map
use Rattle.entry_code.specs.Code.{ops_code}
use Rattle.entry_code.specs.Known.{AreOps}
use Rattle.keycode.specs.Order.{bytes_cmp}
use Rattle.keycode.specs.Valid.{IsStorable}
use Rattle.row_map.specs.Rows.{Bytes}
use Rattle.row_map.specs.Expect.{View}
use Rattle.row_write.specs.Reads.{IsRead}
use Rattle.row_write.specs.declared.op.RowOp.{RowOp}
use Rattle.schema_version.specs.Version.{Version}
use Rattle.script_session.specs.declared.session.ServerLease.{ServerLease}
use Rattle.script_session.specs.State.{State}
use Rattle.typed_calls.specs.Bounded.{IsNoCode}
use Rattle.typed_calls.specs.Pins.{IsPinnedView}
use Rattle.typed_calls.specs.Statuses.{bad_code, out_of_memory}
use Rattle.typed_calls.specs.declared.reads.Reads.{Reads}

-- the keys are those that the operations read under the schema
abbrev pub AreReads : Version → List RowOp → map.FinMap bytes_cmp (Unit {0}) → Type 0
AreReads schema ops keys = (key : Bytes) → (map.get keys key ≡ Some tt) ↔ IsRead schema ops key

-- the bytes are the code of no operations, or memory ran out
abbrev pub IsUncoded : List ℕ → ℤ → Type 0
IsUncoded code status = ((status ≡ bad_code) × IsNoCode (AreOps IsStorable) ops_code code) ⊎ (status ≡ out_of_memory)

-- or they are the code of these operations, and the keys are those that they read
abbrev pub AreCoded : ServerLease → List ℕ → Result (List RowOp × map.FinMap bytes_cmp (Unit {0})) ℤ → Type 0
AreCoded held code (Ok (ops, keys)) = AreOps IsStorable ops × (code ≡ ops_code ops) × AreReads held.schema ops keys
AreCoded held code (Err status) = IsUncoded code status

-- these operations under this lease, and each of the keys with what was read of it before, or else with what is there
abbrev pub IsReadBy : State → ServerLease → List RowOp → map.FinMap bytes_cmp (Unit {0}) → View → Reads → Type 0
IsReadBy world held ops keys pins reads = (reads.held ≡ held) × (reads.ops ≡ ops) × IsPinnedView world keys pins reads.view

-- the bytes are the code of operations, which are read with the keys that they read; or of none, or memory ran out
abbrev pub ReadsPinned : State → View → ServerLease → List ℕ → Result Reads ℤ → Type 0
ReadsPinned world pins held code (Ok reads) =
    (ops : List RowOp) × (keys : map.FinMap bytes_cmp (Unit {0}))
    × AreOps IsStorable ops × (code ≡ ops_code ops) × AreReads held.schema ops keys × IsReadBy world held ops keys pins reads
ReadsPinned world pins held code (Err status) = IsUncoded code status

-- nothing was read before
abbrev pub ReadsFor : State → ServerLease → List ℕ → Result Reads ℤ → Type 0
ReadsFor world held code answer = ReadsPinned world map.empty held code answer
