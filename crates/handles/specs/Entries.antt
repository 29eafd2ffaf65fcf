-- Cited by the contracts of cagzhomul_entry, cagzhomul_repeat and of what they call.
-- The entries of a world's log, as bytes.
use Rattle.std.specs.Prelude.{◌≡◌, ℕ, ◌-◌, zero, suc, ◌⊎◌, List, length, slice_get, Option, Some, None, Result, ℤ}
use Rattle.keycode.specs.Valid.{IsStorable}
use Rattle.replay.specs.declared.entry.Entry.{Entry}
use Rattle.typed_calls.specs.State.{State, entries_before, entries_kept}
use Rattle.typed_calls.specs.Receipt.{Receipt}
use Rattle.entry_code.specs.Code.{entry_code}
use Rattle.entry_code.specs.Known.{IsEntry}
use Rattle.replica.specs.Next.{RepeatStep}
use Rattle.replica.specs.declared.fault.RepeatFault.{RepeatFault}
use Rattle.typed_calls.specs.Bounded.{Within, IsNoCode}
use Rattle.typed_calls.specs.Statuses.{ok, closed, out_of_memory, no_entry, bad_entry, not_next}
use Rattle.typed_calls.specs.declared.bounded.BoundedWorld.{BoundedWorld}
use Rattle.handles.specs.Calls.{laid, Refuses}
use Rattle.handles.specs.Replies.{repeat_status}
use Rattle.handles.specs.declared.engine.Engine.{Engine}
use Rattle.handles.specs.declared.engine.Engine.TheVariants as engine
use Rattle.handles.specs.declared.outcome.Outcome.{Outcome}

-- ---- entry

-- the entry of a place in a list, of which the first is 1
abbrev pub entry_at : List Entry → ℕ → Option Entry
entry_at log zero = None
entry_at log (suc before) = slice_get log before

-- the entry's code lies in the caller's bytes, unless there is no entry or memory ran out
abbrev pub ShowsCode : Option Entry → List ℕ → Outcome → List ℕ → Type 0
ShowsCode None out outcome out' = Refuses no_entry out outcome out'
ShowsCode (Some entry) out outcome out' =
    ((outcome ≡ record { status = ok; length = length (entry_code entry) }) × (out' ≡ laid out (entry_code entry))) ⊎ Refuses out_of_memory out outcome out'

-- places count from the first entry ever, and only those in memory are there
abbrev pub ShowsPlace : State → ℕ → List ℕ → Outcome → List ℕ → Type 0
ShowsPlace world place out outcome out' = ShowsCode (entry_at (entries_kept world) (place - entries_before world)) out outcome out'

abbrev pub ShowsEntry : Option Engine → ℕ → List ℕ → Outcome → List ℕ → Type 0
ShowsEntry None place out outcome out' = Refuses closed out outcome out'
ShowsEntry (Some (engine.World bounded)) place out outcome out' = ShowsPlace bounded.world place out outcome out'
ShowsEntry (Some other) place out outcome out' = Refuses closed out outcome out'

-- ---- repeat

-- the entry is repeated or refused
abbrev pub RepeatsWorld : State → Entry → ℤ → State → Type 0
RepeatsWorld old entry status new = (result : Result Receipt RepeatFault) × (status ≡ repeat_status result) × RepeatStep old entry result new

-- no accepted call adds an entry at a moment that is too far
abbrev pub RepeatsEntry : BoundedWorld → Entry → ℤ → BoundedWorld → Type 0
RepeatsEntry old entry status new = Within not_next (λ world s world'. RepeatsWorld world entry s world') old entry.moment status new

abbrev pub RepeatsCode : BoundedWorld → List ℕ → ℤ → BoundedWorld → Type 0
RepeatsCode old bytes status new = (entry : Entry) × IsEntry IsStorable entry × (bytes ≡ entry_code entry) × RepeatsEntry old entry status new

-- the bytes are the code of an entry; or of none, or memory ran out before they were read
abbrev pub RepeatsBytes : BoundedWorld → List ℕ → ℤ → BoundedWorld → Type 0
RepeatsBytes old bytes status new =
    ((status ≡ bad_entry) × IsNoCode (IsEntry IsStorable) entry_code bytes × (new ≡ old))
    ⊎ ((status ≡ out_of_memory) × (new ≡ old))
    ⊎ RepeatsCode old bytes status new

abbrev pub Repeats : Option Engine → List ℕ → ℤ → Option Engine → Type 0
Repeats None bytes status new = (status ≡ closed) × (new ≡ None)
Repeats (Some (engine.World bounded)) bytes status new =
    (it : BoundedWorld) × RepeatsBytes bounded bytes status it × (new ≡ Some (engine.World it))
Repeats (Some other) bytes status new = (status ≡ closed) × (new ≡ Some other)
