-- Cited by the contracts of cagzhomul_due_entry and of what it calls.
-- The entry that the act that is due would add to the log.
use Rattle.std.specs.Prelude.{◌≡◌, ℕ, ℤ, ◌⊎◌, List, Option, Some, None, Result, Ok, Err}
use Rattle.rollout.specs.Advance.{AdvanceStep}
use Rattle.rollout.specs.declared.advanced.Advanced.{Advanced}
use Rattle.rollout.specs.declared.advanced.Advanced.TheVariants.{Began, Published, Worked, Waiting, Finished}
use Rattle.rollout.specs.declared.advanced.AdvanceFault.{AdvanceFault}
use Rattle.handles.specs.Bounded.{SeenWithin}
use Rattle.handles.specs.BoundedWorld.{BoundedWorld}
use Rattle.handles.specs.Entry.{Entry}
use Rattle.handles.specs.EntryCode.{entry_code}
use Rattle.handles.specs.Handles.{Fills}
use Rattle.handles.specs.Proposals.{fork_of}
use Rattle.handles.specs.State.{State}
use Rattle.handles.specs.Statuses.{already_open, closed, out_of_memory, too_far}
use Rattle.handles.specs.declared.engine.Engine.{Engine}
use Rattle.handles.specs.declared.engine.Engine.TheVariants as engine
use Rattle.operator_calls.specs.Advances.{advance_alone, advance_outcome}
use Rattle.operator_calls.specs.declared.advances.AdvanceOutcome.{AdvanceOutcome}

-- the entry that an act added, if it did one
abbrev pub due_entry_of : Result Advanced AdvanceFault → Option Entry
due_entry_of (Ok (Began element receipt)) = Some receipt.entry
due_entry_of (Ok (Published version receipt)) = Some receipt.entry
due_entry_of (Ok (Worked element done)) = Some done.receipt.entry
due_entry_of (Ok (Waiting until)) = None
due_entry_of (Ok Finished) = None
due_entry_of (Err fault) = None

-- the code of the entry that `rollout::advance` adds to a world that goes on from here; or what it answers if it adds none, or memory ran out
abbrev pub DuesWorld : State → ℕ → ℕ → ℕ → Result (List ℕ) AdvanceOutcome → Type 0
DuesWorld world moment pieces limit (Ok code) =
    (new : State) × (advanced : Result Advanced AdvanceFault) × (entry : Entry)
    × AdvanceStep (fork_of world) moment pieces limit advanced new × (due_entry_of advanced ≡ Some entry) × (code ≡ entry_code entry)
DuesWorld world moment pieces limit (Err outcome) =
    (outcome ≡ advance_alone out_of_memory)
    ⊎ ((new : State) × (advanced : Result Advanced AdvanceFault)
    × AdvanceStep (fork_of world) moment pieces limit advanced new × (due_entry_of advanced ≡ None) × (outcome ≡ advance_outcome advanced))

-- unless the moment is too far
abbrev pub DuesBounded : BoundedWorld → ℕ → ℕ → ℕ → Result (List ℕ) AdvanceOutcome → Type 0
DuesBounded bounded moment pieces limit answer = SeenWithin (Err (advance_alone too_far)) (λ world a. DuesWorld world moment pieces limit a) bounded moment answer

-- a closed handle holds the code, unless memory ran out; after all else it is closed
abbrev pub DuesInto : Result (List ℕ) AdvanceOutcome → AdvanceOutcome → Option Engine → Type 0
DuesInto (Ok code) outcome bytes = (status : ℤ) × Fills (engine.Bytes code) status bytes × (outcome ≡ advance_alone status)
DuesInto (Err refusal) outcome bytes = (outcome ≡ refusal) × (bytes ≡ None)

abbrev pub DuesOf : Option Engine → ℕ → ℕ → ℕ → AdvanceOutcome → Option Engine → Type 0
DuesOf None moment pieces limit outcome bytes = (outcome ≡ advance_alone closed) × (bytes ≡ None)
DuesOf (Some (engine.World bounded)) moment pieces limit outcome bytes =
    (answer : Result (List ℕ) AdvanceOutcome) × DuesBounded bounded moment pieces limit answer × DuesInto answer outcome bytes
DuesOf (Some other) moment pieces limit outcome bytes = (outcome ≡ advance_alone closed) × (bytes ≡ None)

-- into a closed handle
abbrev pub Dues : Option Engine → ℕ → ℕ → ℕ → Option Engine → AdvanceOutcome → Option Engine → Type 0
Dues world moment pieces limit (Some e) outcome bytes = (outcome ≡ advance_alone already_open) × (bytes ≡ Some e)
Dues world moment pieces limit None outcome bytes = DuesOf world moment pieces limit outcome bytes
