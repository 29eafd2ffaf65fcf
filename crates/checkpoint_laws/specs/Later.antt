-- Cited by the contracts of checkpoints_go_on.
-- A world that goes on from the checkpoint of another.
use Rattle.std.specs.Prelude.{◌≡◌, ℕ, ◌≤◌, List, [], ◌∷◌}
use Rattle.replay.specs.declared.entry.Entry.{Entry}
use Rattle.replay.specs.declared.entry.What.{What}
use Rattle.replay.specs.Kept.{IsKept}
use Rattle.replay.specs.Headline.{MayFollow}
use Rattle.checkpoint.specs.Alike.{AreAlike, AnswerAlike}
use Rattle.checkpoint.specs.Checkpoint.{checkpoint_of}
use Rattle.world.specs.declared.entry.Receipt.{Receipt}
use Rattle.world.specs.Calls.{Appends}
use Rattle.world.specs.declared.event.Event.{Event}
use Rattle.world.specs.declared.event.Reply.{Reply}
use Rattle.world.specs.Run.{Happens, Runs}
use Rattle.world.specs.State.{State, facts_of, effect, entry_count, opened, IsReplayed}

-- two worlds that no later call tells apart
pub record AreAlikeStates (one other : State) : Type 0 where
  pub alike : AreAlike (facts_of one) (facts_of other)
  -- as many entries ever
  pub counted : entry_count other ≡ entry_count one
  pub replayed : IsReplayed one
  pub also_replayed : IsReplayed other

-- a world and one that opens from its checkpoint
abbrev pub CheckpointsOpenAlike : Type 0
CheckpointsOpenAlike = (state : State) → IsReplayed state → IsKept (facts_of state) → AreAlikeStates state (opened (checkpoint_of (entry_count state) (facts_of state)))

-- whatever a call answers in the one it may answer in the other, and they stay alike
pub record MayAnswer (other : State) (event : Event) (reply : Reply) (new : State) : Type 0 where
  pub left : State
  pub happens : Happens other event reply left
  pub alike : AreAlikeStates new left

abbrev pub CallsAnswerAlike : Type 0
CallsAnswerAlike = (one other new : State) (event : Event) (reply : Reply) → AreAlikeStates one other → Happens one event reply new → MayAnswer other event reply new

-- and so the other way round
abbrev pub AlikeBothWays : Type 0
AlikeBothWays = (one other : State) → AreAlikeStates one other → AreAlikeStates other one

-- whatever a run of calls answers
pub record MayRun (other : State) (events : List Event) (replies : List Reply) (new : State) : Type 0 where
  pub left : State
  pub runs : Runs other events replies left
  pub alike : AreAlikeStates new left

abbrev pub RunsAnswerAlike : Type 0
RunsAnswerAlike = (one other new : State) (events : List Event) (replies : List Reply) → AreAlikeStates one other → Runs one events replies new → MayRun other events replies new

-- what the one accepts may follow in the other, and they stay alike
abbrev pub AcceptedGoOn : Type 0
AcceptedGoOn =
    (one other new : State) (now : ℕ) (what : What) (receipt : Receipt) → AreAlikeStates one other → Appends one now what receipt new
    → ((facts_of other).moment ≤ now) × MayFollow (facts_of other) now what × AreAlikeStates new (effect other receipt.entry)

-- entries that were accepted in turn
abbrev pub Accepted : State → List Entry → State → Type 0
Accepted old [] new = new ≡ old
Accepted old (entry ∷ entries) new = (receipt : Receipt) × (middle : State) × Appends old entry.moment entry.what receipt middle × Accepted middle entries new

abbrev pub effects : State → List Entry → State
effects state [] = state
effects state (entry ∷ entries) = effects (effect state entry) entries

-- however many were accepted since
abbrev pub RunsGoOn : Type 0
RunsGoOn = (one other new : State) (entries : List Entry) → AreAlikeStates one other → Accepted one entries new → AreAlikeStates new (effects other entries)

-- all that an answer depends on is the same in both
pub record StatesAnswerAlike (one other : State) : Type 0 where
  pub pairs : other.pairs ≡ one.pairs
  pub facts : AnswerAlike (facts_of one) (facts_of other)

abbrev pub AlikeStatesAnswerAlike : Type 0
AlikeStatesAnswerAlike = (one other : State) → AreAlikeStates one other → StatesAnswerAlike one other
