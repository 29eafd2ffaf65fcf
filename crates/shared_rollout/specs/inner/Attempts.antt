-- Cited by private functions alone: of_begin, of_publish, of_look, of_read and 9 more.
-- What one attempt comes to, by what the lock answered.
use Rattle.std.specs.Prelude.{◌≡◌, ℕ, ◌+◌, ◌≤◌, ◌++◌, List, length, Option, Some, None, Result, Ok, Err}
use Rattle.std.specs.declared.alloc.AllocError.{AllocError}
use Rattle.reorganise.specs.declared.fault.ViewFault.TheVariants as view_fault
use Rattle.reorganise.specs.declared.read.Reading.{Reading}
use Rattle.locked_store.specs.BeginFault.{BeginFault}
use Rattle.locked_store.specs.BeginFault.TheVariants as begin_fault
use Rattle.locked_store.specs.PieceDone.{PieceDone}
use Rattle.locked_store.specs.Receipt.{Receipt}
use Rattle.locked_store.specs.PieceFault.{PieceFault}
use Rattle.locked_store.specs.PieceFault.TheVariants as piece_fault
use Rattle.locked_store.specs.ReadFault.{ReadFault}
use Rattle.locked_store.specs.ReadFault.TheVariants as read_fault
use Rattle.locked_store.specs.PublishFault.{PublishFault}
use Rattle.locked_store.specs.PublishFault.TheVariants as publish_fault
use Rattle.locked_store.specs.State.{State}
use Rattle.locked_store.specs.Known.{Known, own_of}
use Rattle.locked_store.specs.declared.fault.SharedFault.{SharedFault}
use Rattle.locked_store.specs.declared.fault.SharedFault.TheVariants as shared
use Rattle.locked_store.specs.Act.{Act}
use Rattle.locked_store.specs.Advanced.{Advanced}
use Rattle.locked_store.specs.Advanced.TheVariants as advanced
use Rattle.shared_rollout.specs.Operator.{IsAdvanced, IsRefused, IsSeen, WasOvertaken, entries_of, next_of, receipts_of}
use Rattle.shared_rollout.specs.declared.ask.Ask.{Ask}
use Rattle.shared_rollout.specs.declared.fault.OperatorFault.{OperatorFault}
use Rattle.shared_rollout.specs.declared.fault.OperatorFault.TheVariants as fault

-- an act, none if another was first, or a refusal
abbrev pub Attempt : Type 0
Attempt = Result (Option Advanced) OperatorFault

abbrev pub of_begin : ℕ → Result Receipt (SharedFault BeginFault) → Attempt
of_begin element (Ok receipt) = Ok (Some (advanced.Began element receipt))
of_begin element (Err (shared.WentBack seen)) = Err (fault.WentBack seen)
of_begin element (Err (shared.World begin_fault.MomentTooLarge)) = Err fault.MomentTooLarge
of_begin element (Err (shared.World begin_fault.NotWanted)) = Ok None
of_begin element (Err (shared.World (begin_fault.StillUsed until))) = Ok None
of_begin element (Err (shared.World begin_fault.Begun)) = Ok None
of_begin element (Err (shared.World begin_fault.BadCount)) = Ok None
of_begin element (Err (shared.World begin_fault.Memory)) = Err fault.Memory

abbrev pub of_publish : Result (ℕ × Receipt) (SharedFault PublishFault) → Attempt
of_publish (Ok done) = Ok (Some (advanced.Published done.0 done.1))
of_publish (Err (shared.WentBack seen)) = Err (fault.WentBack seen)
of_publish (Err (shared.World publish_fault.MomentTooLarge)) = Err fault.MomentTooLarge
of_publish (Err (shared.World (publish_fault.TooEarly earliest))) = Ok None
of_publish (Err (shared.World (publish_fault.Step why))) = Ok None
of_publish (Err (shared.World (publish_fault.Unfinished element))) = Ok None
of_publish (Err (shared.World publish_fault.VersionsSpent)) = Err fault.VersionsSpent
of_publish (Err (shared.World publish_fault.Memory)) = Err fault.Memory

abbrev pub of_look : SharedFault AllocError → OperatorFault
of_look (shared.WentBack seen) = fault.WentBack seen
of_look (shared.World why) = fault.Memory

abbrev pub of_read : SharedFault ReadFault → Attempt
of_read (shared.WentBack seen) = Err (fault.WentBack seen)
of_read (shared.World read_fault.NotWanted) = Ok None
of_read (shared.World (read_fault.View view_fault.BadPiece)) = Ok None
of_read (shared.World (read_fault.View view_fault.Spent)) = Ok None
of_read (shared.World (read_fault.View view_fault.BadLimit)) = Err fault.Memory
of_read (shared.World (read_fault.View view_fault.Memory)) = Err fault.Memory

abbrev pub of_refusal : SharedFault PieceFault → Attempt
of_refusal (shared.WentBack seen) = Err (fault.WentBack seen)
of_refusal (shared.World piece_fault.MomentTooLarge) = Err fault.MomentTooLarge
of_refusal (shared.World piece_fault.NotWanted) = Ok None
of_refusal (shared.World piece_fault.WrongElement) = Ok None
of_refusal (shared.World (piece_fault.Moved cursor)) = Ok None
of_refusal (shared.World (piece_fault.Conflict key)) = Ok None
of_refusal (shared.World piece_fault.Memory) = Err fault.Memory

abbrev pub of_commit : ℕ → Result PieceDone (SharedFault PieceFault × Reading) → Attempt
of_commit element (Ok done) = Ok (Some (advanced.Worked element done))
of_commit element (Err refusal) = of_refusal refusal.0

-- ---- what is known of an attempt, from the handle before it to the handle after it

abbrev pub Says : State → Ask → Known → Attempt → Known → Type 0
Says start ask v (Ok (Some done)) w = IsAdvanced start ask done × IsSeen start ask.moment done w.front × (w.count ≡ v.count + entries_of done)
Says start ask v (Ok None) w = ((what : Act) × WasOvertaken start ask what) × (w.count ≡ v.count)
Says start ask v (Err why) w = IsRefused start ask w.front why × (w.count ≡ v.count)

pub record Attempts (start : State) (ask : Ask) (v : Known) (attempt : Attempt) (w : Known) : Type 0 where
  pub same : own_of w ≡ own_of v
  pub rises : v.front ≤ w.front
  pub says : Says start ask v attempt w

-- ---- what is known of an act

abbrev pub ActSays : State → Ask → Known → Result Advanced OperatorFault → Known → Type 0
ActSays start ask v (Ok done) w = IsAdvanced start ask done × IsSeen start ask.moment done w.front × (w.count ≡ v.count + entries_of done)
ActSays start ask v (Err why) w = IsRefused start ask w.front why × (w.count ≡ v.count)

pub record Acts (start : State) (ask : Ask) (v : Known) (result : Result Advanced OperatorFault) (w : Known) : Type 0 where
  pub same : own_of w ≡ own_of v
  pub rises : v.front ≤ w.front
  pub says : ActSays start ask v result w

-- ---- what is kept of an act: the moment of the next one, none if no change is under way, and its receipt

pub record IsKept (start : State) (ask : Ask) (old : List Receipt) (next : Option ℕ) (front : ℕ) (new : List Receipt) : Type 0 where
  pub done : Advanced
  pub is_advanced : IsAdvanced start ask done
  pub seen : IsSeen start ask.moment done front
  pub next_is : next ≡ next_of ask.moment done
  pub kept : new ≡ old ++ receipts_of done

abbrev pub KeptSays : State → Ask → List Receipt → Result (Option ℕ) OperatorFault → ℕ → List Receipt → Type 0
KeptSays start ask old (Ok next) front new = IsKept start ask old next front new
KeptSays start ask old (Err why) front new = IsRefused start ask front why × (new ≡ old)

pub record ActsAndKeeps (start : State) (ask : Ask) (v : Known) (old : List Receipt) (answer : Result (Option ℕ) OperatorFault) (w : Known) (new : List Receipt) : Type 0 where
  pub same : own_of w ≡ own_of v
  pub rises : v.front ≤ w.front
  pub counted : w.count + length old ≡ v.count + length new
  pub says : KeptSays start ask old answer w.front new
