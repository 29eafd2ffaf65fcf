-- Cited by the contracts of World::begin_reorg, World::is_settled, locked_store::Shared::begin_reorg.
-- What the begin of a reorganisation answers.
use Rattle.std.specs.Prelude.{◌≡◌, ◌≢◌, ℕ, ◌<◌, ◌≤◌, Option, Some, None, Result, Ok, Err}
use Rattle.std.specs.Option.{option_and_then}
use Rattle.lease.specs.Timeline.{earliest, max_moment}
use Rattle.collections.specs.Refusal.{IsRefusal, IsClear}
use Rattle.schema_version.specs.declared.element.ElementDef.{ElementDef}
use Rattle.schema_version.specs.Edges.{wanted_work}
use Rattle.schema_version.specs.Version.{element_at, state_of}
use Rattle.schema_version.specs.declared.element.Work.{Work}
use Rattle.reorganise.specs.declared.work.Progress.{Progress}
use Rattle.reorganise.specs.Pieces.{begun}
use Rattle.replay.specs.declared.entry.What.TheVariants.{Begin}
use Rattle.replay.specs.Replay.{Facts, progress_of}
use Rattle.replay.specs.Kept.{used_before}
use Rattle.replay.specs.Laws.{IsPieceCount}
use Rattle.world.specs.declared.entry.Receipt.{Receipt}
use Rattle.world.specs.declared.begin_reorg.BeginFault.{BeginFault}
use Rattle.world.specs.declared.begin_reorg.BeginFault.TheVariants as begin_fault
use Rattle.world.specs.Calls.{effective_moment, Appends}
use Rattle.world.specs.State.{State, facts_of}

-- what the live element of this number wants
abbrev pub wanted_at : Facts → ℕ → Option Work
wanted_at facts number = option_and_then wanted_work (element_at facts.newest number)

-- the version before the newest, where a lease on it may be in force, has the element in the same state
abbrev pub IsSettled : Facts → ℕ → ℕ → Type 0
IsSettled facts now number = state_of (used_before facts now) number ≡ state_of facts.newest number

abbrev pub begin_rank : BeginFault → ℕ
begin_rank begin_fault.MomentTooLarge = 1
begin_rank begin_fault.NotWanted = 2
begin_rank (begin_fault.StillUsed until) = 3
begin_rank begin_fault.Begun = 4
begin_rank begin_fault.BadCount = 5
begin_rank begin_fault.Memory = 6

abbrev pub BeginCondition : State → ℕ → ℕ → ℕ → BeginFault → Type 0
BeginCondition old now number pieces begin_fault.MomentTooLarge = max_moment < now
BeginCondition old now number pieces begin_fault.NotWanted = wanted_at (facts_of old) number ≡ None
BeginCondition old now number pieces (begin_fault.StillUsed until) = (until ≡ earliest (facts_of old).line) × (¬ (IsSettled (facts_of old) now number))
BeginCondition old now number pieces begin_fault.Begun = progress_of (facts_of old).progress number ≢ None
BeginCondition old now number pieces begin_fault.BadCount = ¬ (IsPieceCount pieces)
BeginCondition old now number pieces begin_fault.Memory = ⊥

-- now is the moment that counts: the pieces are fixed by the items that are present
abbrev pub BeginAt : State → ℕ → ℕ → ℕ → Result Receipt BeginFault → State → Type 0
BeginAt old now number pieces (Ok receipt) new = IsClear (BeginCondition old now number pieces) × Appends old now (Begin number pieces) receipt new
BeginAt old now number pieces (Err fault) new = IsRefusal begin_rank (BeginCondition old now number pieces) begin_fault.Memory fault × (new ≡ old)

abbrev pub BeginStep : State → ℕ → ℕ → ℕ → Result Receipt BeginFault → State → Type 0
BeginStep old moment = BeginAt old (effective_moment old moment)

-- a reorganisation that may begin, as it then stands
pub record Begins (facts : Facts) (now number pieces : ℕ) (progress : Progress) : Type 0 where
  pub element : ElementDef
  pub work : Work
  pub moment : now ≤ max_moment
  pub there : element_at facts.newest number ≡ Some element
  pub wants : wanted_work element ≡ Some work
  pub settled : IsSettled facts now number
  pub new : progress_of facts.progress number ≡ None
  pub count : IsPieceCount pieces
  pub begun_so : progress ≡ begun element work facts.pairs pieces
