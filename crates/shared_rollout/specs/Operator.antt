-- Cited by the contracts of advance, complete.
-- What an operator's calls through the lock answer.
use Rattle.std.specs.Prelude.{◌≡◌, ℕ, ◌<◌, ◌≤◌, ◌⊎◌, ◌++◌, List, [], ◌∷◌, length, All, Option, Some, None, Result, Ok, Err}
use Rattle.std.specs.List.{flat_map}
use Rattle.lease.specs.Timeline.{max_moment}
use Rattle.schema_version.specs.declared.step.Move.{Move}
use Rattle.reorganise.specs.declared.fault.ViewFault.TheVariants as view_fault
use Rattle.reorganise.specs.declared.read.Reading.{Reading}
use Rattle.locked_store.specs.BeginFault.{BeginFault}
use Rattle.locked_store.specs.BeginFault.TheVariants as begin_fault
use Rattle.locked_store.specs.PieceDone.{PieceDone}
use Rattle.locked_store.specs.Receipt.{Receipt}
use Rattle.locked_store.specs.PieceFault.{PieceFault}
use Rattle.locked_store.specs.PieceFault.TheVariants as piece_fault
use Rattle.locked_store.specs.ReadFault.{ReadFault}
use Rattle.locked_store.specs.ReadFault.TheVariants as read_fault
use Rattle.locked_store.specs.PublishFault.{PublishFault}
use Rattle.locked_store.specs.PublishFault.TheVariants as publish_fault
use Rattle.locked_store.specs.BeginReorg.{BeginStep}
use Rattle.locked_store.specs.Calls.{effective_moment}
use Rattle.locked_store.specs.Piece.{PieceStep}
use Rattle.locked_store.specs.Publish.{PublishStep}
use Rattle.locked_store.specs.State.{State, entry_count, facts_of}
use Rattle.locked_store.specs.Cores.{IsCore, IsCoreSince, WasLength}
use Rattle.locked_store.specs.Receipts.{IsLogged}
use Rattle.locked_store.specs.WorkOff.{NextStep}
use Rattle.locked_store.specs.Act.{Act}
use Rattle.locked_store.specs.Act.TheVariants as act
use Rattle.locked_store.specs.Advanced.{Advanced}
use Rattle.locked_store.specs.Advanced.TheVariants as advanced
use Rattle.locked_store.specs.Advance.{AreCounts}
use Rattle.locked_store.specs.Due.{IsDue}
use Rattle.shared_rollout.specs.declared.ask.Ask.{Ask}
use Rattle.shared_rollout.specs.declared.fault.OperatorFault.{OperatorFault}
use Rattle.shared_rollout.specs.declared.fault.OperatorFault.TheVariants as fault

-- the pieces are 1 to 64, the limit is 1 to 1,000, the tries are 1 to 1,000,000
abbrev pub AreNumbers : ℕ → ℕ → ℕ → Type 0
AreNumbers pieces limit tries = AreCounts pieces limit × (1 ≤ tries) × (tries ≤ 1000000)

abbrev pub asked : ℕ → ℕ → ℕ → ℕ → ℕ → Ask
asked moment pieces limit tries front = record { moment = moment; pieces = pieces; limit = limit; tries = tries; front = front }

-- ---- what the lock answered. Each core goes on from the start, and has at least the entries that the handle had seen

-- a call found a core, and answered so by a step of it
abbrev pub Answered : {R : Type 0} → State → ℕ → R → (State → R → State → Type 0) → Type 0
Answered start front answer step = (found : State) × (left : State) × IsCoreSince start front found × step found answer left

-- the act was due in a core
abbrev pub WasDue : State → Ask → Act → Type 0
WasDue start ask what = (core : State) × IsCoreSince start ask.front core × IsDue (facts_of core) (effective_moment core ask.moment) what

abbrev pub WasBegun : State → Ask → ℕ → Result Receipt BeginFault → Type 0
WasBegun start ask number answer = Answered start ask.front answer (λ c r d. BeginStep c ask.moment number ask.pieces r d)

abbrev pub WasPublished : State → Ask → List Move → Result (ℕ × Receipt) PublishFault → Type 0
WasPublished start ask step answer = Answered start ask.front answer (λ c r d. PublishStep c ask.moment step r d)

-- the next items of the first piece that had not ended were read, or not
abbrev pub WasLooked : State → Ask → ℕ → Result (Option Reading) ReadFault → Type 0
WasLooked start ask number answer = Answered start ask.front answer (λ c r d. NextStep c number ask.limit r × (d ≡ c))

abbrev pub WasRead : State → Ask → ℕ → Reading → Type 0
WasRead start ask number read = WasLooked start ask number (Ok (Some read))

abbrev pub WasCommitted : State → Ask → Reading → Result PieceDone (PieceFault × Reading) → Type 0
WasCommitted start ask read answer = Answered start ask.front answer (λ c r d. PieceStep c ask.moment read r d)

-- ---- an act that was done

-- the act was due in one core, and then it was done in another; its entry is in the log after all that the handle had seen
abbrev pub IsAdvanced : State → Ask → Advanced → Type 0
IsAdvanced start ask (advanced.Began number receipt) = WasDue start ask (act.Begin number) × WasBegun start ask number (Ok receipt) × IsLogged start ask.front receipt
IsAdvanced start ask (advanced.Published version receipt) =
    (step : List Move) × WasDue start ask (act.Publish step) × WasPublished start ask step (Ok (version, receipt)) × IsLogged start ask.front receipt
IsAdvanced start ask (advanced.Worked number done) =
    WasDue start ask (act.Work number) × ((read : Reading) × WasRead start ask number read × WasCommitted start ask read (Ok done)) × IsLogged start ask.front done.receipt
IsAdvanced start ask (advanced.Waiting until) = WasDue start ask (act.Wait until)
IsAdvanced start ask advanced.Finished = WasDue start ask act.Nothing

-- how many entries it added
abbrev pub entries_of : Advanced → ℕ
entries_of (advanced.Began number receipt) = 1
entries_of (advanced.Published version receipt) = 1
entries_of (advanced.Worked number done) = 1
entries_of (advanced.Waiting until) = 0
entries_of advanced.Finished = 0

abbrev pub entries_in : Result Advanced OperatorFault → ℕ
entries_in (Ok done) = entries_of done
entries_in (Err why) = 0

-- its receipt, if it added an entry
abbrev pub receipts_of : Advanced → List Receipt
receipts_of (advanced.Began number receipt) = receipt ∷ []
receipts_of (advanced.Published version receipt) = receipt ∷ []
receipts_of (advanced.Worked number done) = done.receipt ∷ []
receipts_of (advanced.Waiting until) = []
receipts_of advanced.Finished = []

-- the act was due in a core whose log has this length
abbrev pub WasDueAt : State → ℕ → ℕ → Act → Type 0
WasDueAt start front moment what = (core : State) × IsCore start core × (entry_count core ≡ front) × IsDue (facts_of core) (effective_moment core moment) what

-- the handle has then seen the log up to the entry of the act, or, if it added none, the log in which it was due
abbrev pub IsSeen : State → ℕ → Advanced → ℕ → Type 0
IsSeen start moment (advanced.Began number receipt) front = front ≡ receipt.place
IsSeen start moment (advanced.Published version receipt) front = front ≡ receipt.place
IsSeen start moment (advanced.Worked number done) front = front ≡ done.receipt.place
IsSeen start moment (advanced.Waiting until) front = WasDueAt start front moment (act.Wait until)
IsSeen start moment advanced.Finished front = WasDueAt start front moment act.Nothing

-- ---- one act after another

-- the moment of the next act: a wait moves it to what is waited for; there is none if no change is under way
abbrev pub next_of : ℕ → Advanced → Option ℕ
next_of moment (advanced.Began number receipt) = Some moment
next_of moment (advanced.Published version receipt) = Some moment
next_of moment (advanced.Worked number done) = Some moment
next_of moment (advanced.Waiting until) = Some until
next_of moment advanced.Finished = None

-- from this front and moment to the last ones each act was due and done, after all that the handle had seen by then; so the places rise
abbrev pub AreActs : State → ℕ → ℕ → ℕ → ℕ → ℕ → List Advanced → ℕ → ℕ → Type 0
AreActs start pieces limit tries front moment [] last now = (last ≡ front) × (now ≡ moment)
AreActs start pieces limit tries front moment (done ∷ more) last now =
    (seen : ℕ) × (next : ℕ) × IsAdvanced start (asked moment pieces limit tries front) done × IsSeen start moment done seen × (next_of moment done ≡ Some next)
    × AreActs start pieces limit tries seen next more last now

-- the receipts that were kept are followed by those of such acts, and then no change was under way in the log that the handle has seen
pub record HasCompleted (start : State) (pieces limit tries front moment : ℕ) (old : List Receipt) (now seen : ℕ) (new : List Receipt) : Type 0 where
  pub acts : List Advanced
  pub last : ℕ
  pub are : AreActs start pieces limit tries front moment acts last now
  pub kept : new ≡ old ++ flat_map receipts_of acts
  pub since : last ≤ seen
  pub nothing : WasDueAt start seen now act.Nothing

-- ---- an act at which others were first

-- refusals of an act that was due, from which it follows that the state has moved on
abbrev pub IsBegunElse : BeginFault → Type 0
IsBegunElse begin_fault.MomentTooLarge = ⊥
IsBegunElse begin_fault.NotWanted = Unit {0}
IsBegunElse (begin_fault.StillUsed until) = Unit {0}
IsBegunElse begin_fault.Begun = Unit {0}
IsBegunElse begin_fault.BadCount = Unit {0}
IsBegunElse begin_fault.Memory = ⊥

abbrev pub IsPublishedElse : PublishFault → Type 0
IsPublishedElse publish_fault.MomentTooLarge = ⊥
IsPublishedElse (publish_fault.TooEarly earliest) = Unit {0}
IsPublishedElse (publish_fault.Step why) = Unit {0}
IsPublishedElse (publish_fault.Unfinished element) = Unit {0}
IsPublishedElse publish_fault.VersionsSpent = ⊥
IsPublishedElse publish_fault.Memory = ⊥

abbrev pub IsReadElse : ReadFault → Type 0
IsReadElse read_fault.NotWanted = Unit {0}
IsReadElse (read_fault.View view_fault.BadPiece) = Unit {0}
IsReadElse (read_fault.View view_fault.Spent) = Unit {0}
IsReadElse (read_fault.View view_fault.BadLimit) = ⊥
IsReadElse (read_fault.View view_fault.Memory) = ⊥

abbrev pub IsWorkedElse : PieceFault → Type 0
IsWorkedElse piece_fault.MomentTooLarge = ⊥
IsWorkedElse piece_fault.NotWanted = Unit {0}
IsWorkedElse piece_fault.WrongElement = Unit {0}
IsWorkedElse (piece_fault.Moved cursor) = Unit {0}
IsWorkedElse (piece_fault.Conflict key) = Unit {0}
IsWorkedElse piece_fault.Memory = ⊥

-- the next piece was not there any more, or what was read of it was not committed, since another had moved it or written there
abbrev pub IsPieceElse : State → Ask → ℕ → Type 0
IsPieceElse start ask number =
    WasLooked start ask number (Ok None)
    ⊎ (((why : ReadFault) × WasLooked start ask number (Err why) × IsReadElse why)
    ⊎ ((read : Reading) × (why : PieceFault) × (back : Reading) × WasRead start ask number read × WasCommitted start ask read (Err (why, back)) × IsWorkedElse why))

-- the act was due in one core, and another refused it
abbrev pub WasOvertaken : State → Ask → Act → Type 0
WasOvertaken start ask (act.Begin number) = WasDue start ask (act.Begin number) × ((why : BeginFault) × WasBegun start ask number (Err why) × IsBegunElse why)
WasOvertaken start ask (act.Publish step) = WasDue start ask (act.Publish step) × ((why : PublishFault) × WasPublished start ask step (Err why) × IsPublishedElse why)
WasOvertaken start ask (act.Work number) = WasDue start ask (act.Work number) × IsPieceElse start ask number
WasOvertaken start ask (act.Wait until) = ⊥
WasOvertaken start ask act.Nothing = ⊥

abbrev pub WereOvertaken : State → Ask → ℕ → Type 0
WereOvertaken start ask times = (acts : List Act) × (length acts ≡ times) × All (WasOvertaken start ask) acts

-- ---- an act that was refused

-- the moment is too large itself, or was it in a core
abbrev pub IsTooLate : State → Ask → Type 0
IsTooLate start ask = (max_moment < ask.moment) ⊎ ((core : State) × IsCoreSince start ask.front core × (max_moment < effective_moment core ask.moment))

-- by what the handle knows afterwards: its front
abbrev pub IsRefused : State → Ask → ℕ → OperatorFault → Type 0
IsRefused start ask front fault.BadCount = ¬ (AreNumbers ask.pieces ask.limit ask.tries)
IsRefused start ask front (fault.WentBack seen) = (seen < front) × WasLength start seen
IsRefused start ask front fault.MomentTooLarge = IsTooLate start ask
IsRefused start ask front fault.VersionsSpent = (step : List Move) × WasDue start ask (act.Publish step) × WasPublished start ask step (Err publish_fault.VersionsSpent)
IsRefused start ask front (fault.Busy tries) = (tries ≡ ask.tries) × WereOvertaken start ask tries
IsRefused start ask front fault.Memory = Unit {0}

-- the receipts that were kept are followed by those of such acts, and the next act was refused so
pub record HasStopped (start : State) (pieces limit tries front moment : ℕ) (old : List Receipt) (why : OperatorFault) (seen : ℕ) (new : List Receipt) : Type 0 where
  pub acts : List Advanced
  pub last : ℕ
  pub now : ℕ
  pub are : AreActs start pieces limit tries front moment acts last now
  pub later : moment ≤ now
  pub kept : new ≡ old ++ flat_map receipts_of acts
  pub refused : IsRefused start (asked now pieces limit tries last) seen why
