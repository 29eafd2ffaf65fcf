-- A transaction with a mark is applied once at most.
use Rattle.reorganise.specs.declared.work.Span.{Span}
use Rattle.std.proofs.Common.{◌≡◌, ℕ, ◌+◌, List, [], ◌∷◌, ◌++◌, Option, Some, None, refl, sym, subst, ◌∙◌, ◌⊎◌, inl, inr}
use Rattle.std.specs.Prelude.{◌≢◌}
use Rattle.std.specs.FinMap as map
use Rattle.std.specs.List.{AllByRecursion}
use Rattle.byte_map.specs.Writes.{written, written_all}
use Rattle.byte_map.proofs.Written.{same_or_apart}
use Rattle.keycode.proofs.Orders.{bytes_cmp_total, bytes_cmp-IsAntisymmetric}
use Rattle.row_map.specs.Expect.{Holds}
use Rattle.row_map.specs.Rows.{Bytes}
use Rattle.row_write.specs.Made.{PreparedTxn}
use Rattle.drafts.specs.Store.{Store, Record, OfMark, Key, Control, mark_key, applied}
use Rattle.drafts.specs.Calls.{Call, Transact, Close, Begin, Divide, Piece, Publish, draft_of, step_writes, starts}
use Rattle.drafts.specs.Laws.{AreApplied, MarksAreOnce, FreshTxnsApply}
use Rattle.drafts.proofs.Opens.{none_some}
use Rattle.drafts.proofs.Records.{here, apart, put_here, zero_three, one_three, two_three}
use Rattle.drafts.proofs.StepRecords.{IsIn, written_of}

-- a write that is no mark's, or puts one
abbrev pub KeepsMark : Bytes → Key × Option Record → Type 0
KeepsMark name w = (w.0 ≢ mark_key name) ⊎ (w.1 ≡ Some OfMark)

one_kept : (name : Bytes) (c : Control) (w : Key × Option Record) → KeepsMark name w → map.get c (mark_key name) ≡ Some OfMark → map.get (written c w.0 w.1) (mark_key name) ≡ Some OfMark
one_kept name c w (inl ne) at = apart c w.0 (mark_key name) w.1 (λ e. ne (sym e)) ∙ at
one_kept name c w (inr put) at = elim (same_or_apart bytes_cmp_total bytes_cmp-IsAntisymmetric (mark_key name) w.0) [
  | inl e ↦ subst (λ (k : Key). map.get (written c w.0 w.1) k ≡ Some OfMark) (sym e) (here c w.0 w.1 ∙ put)
  | inr ne ↦ apart c w.0 (mark_key name) w.1 ne ∙ at
]

all_kept : (name : Bytes) (c : Control) (ws : List (Key × Option Record)) → AllByRecursion (KeepsMark name) ws → map.get c (mark_key name) ≡ Some OfMark → map.get (written_all c ws) (mark_key name) ≡ Some OfMark
all_kept name c [] h at = at
all_kept name c (w ∷ ws) h at = all_kept name (written c w.0 w.1) ws h.1 (one_kept name c w h.0 at)

no_mark : (name : Bytes) (kind : ℕ) (rest : List ℕ) → kind ≢ 3 → (let k : Key = kind ∷ rest in k) ≢ mark_key name
no_mark name kind rest ne e = ne cc

in_all : (name : Bytes) (ws : List (Key × Option Record)) → ((q : Key) → IsIn q ws → q ≢ mark_key name) → AllByRecursion (KeepsMark name) ws
in_all name [] h = tt
in_all name (w ∷ ws) h = (inl (h w.0 (inl refl)), in_all name ws (λ q i. h q (inr i)))

pub call_keeps : (name : Bytes) (call : Call) → AllByRecursion (KeepsMark name) (draft_of call).writes
call_keeps name (Transact txn None) = tt
call_keeps name (Transact txn (Some other)) = (inr refl, tt)
call_keeps name (Close newest) = (inl (no_mark name 0 _ zero_three), tt)
call_keeps name (Begin b) = (inl (no_mark name 1 _ one_three), (inl (no_mark name 2 _ two_three), tt))
call_keeps name (Divide d) = (inl (no_mark name 1 _ one_three), starts_keep d.progress.element.number 0 d.progress.pieces)
  where
    starts_keep : (e k : ℕ) (spans : List Span) → AllByRecursion (KeepsMark name) (starts e k spans)
    starts_keep e k [] = tt
    starts_keep e k (s ∷ ss) = (inl (no_mark name 2 _ two_three), starts_keep e (k + 1) ss)
call_keeps name (Piece w) = (inl (no_mark name 2 _ two_three), tt)
call_keeps name (Publish p) = (
  inl (no_mark name 0 _ zero_three),
  (
    inl (no_mark name 0 _ zero_three),
    in_all name (step_writes p.found p.step) (λ q i. let m = written_of p.found p.step q i in λ e. no_mark name m.of.kind (m.element ∷ m.of.rest) m.of.no_mark (m.of.is ∙ e)),
  ),
)

-- a mark that is there lets no transaction of that mark be applied
there_refuses : (store : Store) (second : PreparedTxn) (name : Bytes) (between : List Call) → map.get store.control (mark_key name) ≡ Some OfMark → ¬ (AreApplied store (between ++ Transact second (Some name) ∷ []))
there_refuses store second name [] at may = none_some (sym may.0.control.1.0 ∙ at)
there_refuses store second name (call ∷ between) at may =
    there_refuses (applied (draft_of call) store) second name between (all_kept name store.control (draft_of call).writes (call_keeps name call) at) may.1

pub marks_are_once : MarksAreOnce
marks_are_once store first second name between may =
    there_refuses (applied (draft_of (Transact first (Some name))) store) second name between (put_here store.control (mark_key name) OfMark) may.1

pub fresh_txns_apply : FreshTxnsApply
fresh_txns_apply store txn mark view expected same there missing = record {
  control = (there, missing);
  pairs = subst (λ e. Holds e store.pairs) (sym expected) (λ key missed. elim missed [
    | inl point ↦ point.2 (same key point.0 point.1)
    | inr ranged ↦ absurd ranged
  ]);
}
