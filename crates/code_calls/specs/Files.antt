-- Cited by the contracts of cagzhomul_saved_form, cagzhomul_log_record and cagzhomul_log_entry.
-- The form of saved bytes, and the records of a log file.
use Rattle.std.specs.Prelude.{◌≡◌, ◌⊎◌, ℕ, List, length}
use Rattle.digested_bytes.specs.Record.{BeginsWithRecord, HasNoRecord, IsRecord}
use Rattle.digested_bytes.specs.Whole.{HasMarker, IsWithDigest}
use Rattle.handles.specs.Calls.{laid, Refuses}
use Rattle.handles.specs.declared.outcome.Outcome.{Outcome}
use Rattle.typed_calls.specs.Statuses.{bad_code, ok, out_of_memory}

-- 0 damaged, 1 without a digest, 2 with the right one
abbrev pub HasForm : List ℕ → ℕ → Type 0
HasForm bytes form =
    ((form ≡ 0) × HasMarker bytes × ((inner : List ℕ) → IsWithDigest inner bytes → ⊥))
    ⊎ ((form ≡ 1) × (HasMarker bytes → ⊥))
    ⊎ ((form ≡ 2) × ((inner : List ℕ) × IsWithDigest inner bytes))

-- the record lies in the caller's bytes, unless memory ran out
abbrev pub ShowsRecord : ℕ → List ℕ → List ℕ → Outcome → List ℕ → Type 0
ShowsRecord place entry out outcome out' =
    ((whole : List ℕ) × IsRecord place entry whole × (outcome ≡ record { status = ok; length = length whole }) × (out' ≡ laid out whole))
    ⊎ Refuses out_of_memory out outcome out'

-- how long the entry is in the record of this place that the bytes begin with, if they do
abbrev pub FindsEntry : ℕ → List ℕ → Outcome → Type 0
FindsEntry place bytes outcome =
    ((entry rest : List ℕ) × BeginsWithRecord place entry rest bytes × (outcome ≡ record { status = ok; length = length entry }))
    ⊎ (HasNoRecord place bytes × (outcome ≡ record { status = bad_code; length = 0 }))
