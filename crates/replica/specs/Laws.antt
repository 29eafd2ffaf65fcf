-- Cited by the contracts of lemma_worlds_are_their_logs, lemma_accepted_calls_repeat and lemma_logs_repeat.
-- What repeating comes to.
use Rattle.std.specs.Prelude.{◌≡◌, List, [], ◌∷◌, ◌++◌, Option, Some, None, Ok, Err}
use Rattle.std.specs.List.{AllByRecursion}
use Rattle.reorganise.specs.Pieces.{IsReading}
use Rattle.row_write.specs.Made.{IsMade}
use Rattle.replay.specs.declared.entry.Entry.{Entry}
use Rattle.checkpoint.specs.Checkpoint.{Checkpoint as Opening}
use Rattle.world.specs.declared.committed.Committed.TheVariants as committed
use Rattle.world.specs.declared.entry.Receipt.{Receipt}
use Rattle.world.specs.declared.event.Event.{Event}
use Rattle.world.specs.declared.event.Event.TheVariants as event
use Rattle.world.specs.declared.event.Reply.{Reply}
use Rattle.world.specs.declared.event.Reply.TheVariants as reply
use Rattle.world.specs.Run.{Happens, Runs}
use Rattle.world.specs.State.{State, effect, opened, IsReplayed}
use Rattle.replica.specs.declared.fault.RepeatFault.TheVariants.{NotNext}
use Rattle.replica.specs.Next.{IsNext, RepeatStep}

-- ---- equal worlds

-- entries repeated in turn, none refused
abbrev pub RepeatsAll : State → List Entry → State → Type 0
RepeatsAll old [] new = new ≡ old
RepeatsAll old (entry ∷ entries) new = (receipt : Receipt) × (middle : State) × RepeatStep old entry (Ok receipt) middle × RepeatsAll middle entries new

-- a world is what its opening and its log say
abbrev pub WorldsAreTheirLogs : Type 0
WorldsAreTheirLogs = (one other : State) → IsReplayed one → IsReplayed other → one.opening ≡ other.opening → one.log ≡ other.log → one ≡ record other { cut = one.cut }

-- two worlds that were equal, and repeated the same entries, are equal
abbrev pub RepeatsAreEqual : Type 0
RepeatsAreEqual = (old one other : State) (entries : List Entry) → RepeatsAll old entries one → RepeatsAll old entries other → one ≡ other

-- ---- what was accepted is repeated

-- what is known of what was prepared
abbrev pub IsKnown : Event → Type 0
IsKnown (event.Lease moment) = Unit {0}
IsKnown (event.Commit moment prepared) = IsMade prepared
IsKnown (event.Query moment lease query) = Unit {0}
IsKnown (event.Publish moment step) = Unit {0}
IsKnown (event.Begin moment element pieces) = Unit {0}
IsKnown (event.Piece moment prepared) = IsReading prepared

-- the entry that a reply has the receipt for
abbrev pub added : Reply → Option Entry
added (reply.Lease (Ok grant)) = Some grant.receipt.entry
added (reply.Lease (Err fault)) = None
added (reply.Commit (Ok (committed.Done receipt))) = Some receipt.entry
added (reply.Commit (Ok (committed.Refused op why))) = None
added (reply.Commit (Err refusal)) = None
added (reply.Query answer) = None
added (reply.Publish (Ok done)) = Some done.1.entry
added (reply.Publish (Err fault)) = None
added (reply.Begin (Ok receipt)) = Some receipt.entry
added (reply.Begin (Err fault)) = None
added (reply.Piece (Ok done)) = Some done.receipt.entry
added (reply.Piece (Err refusal)) = None

-- an accepted call adds an entry that could be repeated where the call was made
abbrev pub AcceptedAreNext : Type 0
AcceptedAreNext = (old new : State) (event : Event) (reply : Reply) (entry : Entry) → IsKnown event → Happens old event reply new → added reply ≡ Some entry → IsNext old entry

-- it leaves what repeating the entry leaves; and a call that adds none leaves all as it was
abbrev pub left_by : State → Option Entry → State
left_by old None = old
left_by old (Some entry) = effect old entry

abbrev pub AcceptedHaveEffect : Type 0
AcceptedHaveEffect = (old new : State) (event : Event) (reply : Reply) → Happens old event reply new → new ≡ left_by old (added reply)

-- ---- whole logs

-- whatever calls were made of a world from its opening on: one that was opened alike and repeated the whole log is equal to it
abbrev pub LogsRepeat : Type 0
LogsRepeat =
    (opening : Opening) (events : List Event) (replies : List Reply) (one other : State)
    → Runs (opened opening) events replies one → RepeatsAll (opened opening) one.log other → other ≡ one

-- and none of the log's entries is refused, but when out of memory, once those before it have been repeated
abbrev pub LogsAreNeverRefused : Type 0
LogsAreNeverRefused =
    (opening : Opening) (events : List Event) (replies : List Reply) (one middle new : State) (before : List Entry) (entry : Entry) (after : List Entry)
    → AllByRecursion IsKnown events → Runs (opened opening) events replies one → one.log ≡ before ++ entry ∷ after
    → RepeatsAll (opened opening) before middle → RepeatStep middle entry (Err NotNext) new → ⊥
