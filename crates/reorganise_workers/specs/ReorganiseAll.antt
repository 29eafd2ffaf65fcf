-- Cited by the contracts of reorganise_all.
-- What a call for all pieces answers.
use Rattle.std.specs.Prelude.{◌≡◌, ℕ, ◌+◌, ◌<◌, ◌≤◌, List, length, All, map, sum_by, Bool, Some, None}
use Rattle.schema_version.specs.declared.element.Work.{Work}
use Rattle.locked_store.specs.Piece.{standing_at}
use Rattle.locked_store.specs.State.{State, facts_of}
use Rattle.locked_store.specs.Receipt.{Receipt}
use Rattle.locked_store.specs.Cores.{IsCoreSince, WasLength}
use Rattle.locked_store.specs.Known.{Known, own_of, total_count, total_refused, HaveRisen, IsLeastFront, OfLast}
use Rattle.tasks.specs.Outcomes.{IsRow, held_in}
use Rattle.tasks.specs.declared.fault.TaskFault.{TaskFault}
use Rattle.tasks.specs.declared.fault.TaskFault.TheVariants as task_fault
use Rattle.reorganise_workers.specs.Ends.{IsEndOf, IsPieceReceipt, tries_of}
use Rattle.reorganise_workers.specs.declared.end.PieceEnd.{PieceEnd}
use Rattle.reorganise_workers.specs.declared.job.Job.{Job}
use Rattle.reorganise_workers.specs.declared.all_pieces.ReorganiseFault.{ReorganiseFault}
use Rattle.reorganise_workers.specs.declared.all_pieces.ReorganiseFault.TheVariants as fault

-- how many handles, items of a piece and tries there may be
abbrev pub IsCount : ℕ → ℕ → ℕ → Type 0
IsCount handles limit tries = (1 ≤ handles) × (handles ≤ 64) × (1 ≤ limit) × (limit ≤ 1000) × (1 ≤ tries) × (tries ≤ 1000000)

-- a reorganisation of the element, of this kind and so many pieces, had begun in a core behind the lock, which has at least so many entries
abbrev pub WasBegun : State → ℕ → Work → ℕ → ℕ → Type 0
WasBegun start element kind pieces front =
    (core : State) × IsCoreSince start front core × (ended : Bool) × (standing_at (facts_of core) element ≡ Some (kind, pieces, ended))

abbrev pub WasNotBegun : State → ℕ → ℕ → Type 0
WasNotBegun start element front = (core : State) × IsCoreSince start front core × (standing_at (facts_of core) element ≡ None)

-- why nothing is begun, by what a handle found whose front was here
abbrev pub WasRefused : State → ℕ → ℕ → ReorganiseFault → Type 0
WasRefused start element front fault.BadCount = ⊥
WasRefused start element front (fault.WentBack seen) = (seen < front) × WasLength start seen
WasRefused start element front fault.NotBegun = WasNotBegun start element front
WasRefused start element front fault.Memory = ⊥

-- bad numbers are refused first, then what the last handle found, and out of memory comes after
-- both
abbrev pub IsRefused : State → ℕ → ℕ → ℕ → List Known → ReorganiseFault → Type 0
IsRefused start element limit tries handles fault.BadCount = ¬ (IsCount (length handles) limit tries)
IsRefused start element limit tries handles (fault.WentBack seen) = IsCount (length handles) limit tries × OfLast handles (λ last. (seen < last.front) × WasLength start seen)
IsRefused start element limit tries handles fault.NotBegun = IsCount (length handles) limit tries × OfLast handles (λ last. WasNotBegun start element last.front)
IsRefused start element limit tries handles fault.Memory =
    IsCount (length handles) limit tries × ((kind : Work) × (pieces : ℕ) × OfLast handles (λ last. WasBegun start element kind pieces last.front))

-- a handle by all but its front
abbrev pub right : Known → (ℕ × ℕ) × (ℕ × ℕ)
right handle = (own_of handle, (handle.count, handle.refused))

-- the handles are the same, and so is what they count; a front may have risen
abbrev pub Stays : List Known → List Known → Type 0
Stays old new = (map right new ≡ map right old) × HaveRisen old new

abbrev pub asked : ℕ → ℕ → Work → ℕ → ℕ → ℕ → ℕ → ℕ → Job
asked moment element kind pieces limit tries front most =
    record { moment = moment; element = element; kind = kind; pieces = pieces; limit = limit; tries = tries; front = front; most = most }

-- one end for each piece, by rising number, as its calls answered; all handles are back, in their order, none with a lower front, and their
-- shares rose together by the receipts: a list for each handle, of pieces of this element alone; the failed tries that ends tell of are
-- different ones, each a commit that was refused meanwhile
pub record Reorganises (start : State) (job : Job) (handles : List Known) (ends : List (ℕ × PieceEnd)) (back : List Known) (receipts : List (List Receipt)) : Type 0 where
  pub each : IsRow job.pieces ends
  pub own : All (λ e. IsEndOf start job e.0 e.1) ends
  pub same : map own_of back ≡ map own_of handles
  pub risen : HaveRisen handles back
  pub counted : total_count back ≡ total_count handles + sum_by length receipts
  pub tried : total_refused handles + held_in tries_of ends ≤ total_refused back
  pub lists : length receipts ≡ length handles
  pub pieces : All (All (IsPieceReceipt start job)) receipts

-- the greatest log length that any of these handles has seen
pub record IsMostFront (handles : List Known) (front : ℕ) : Type 0 where
  pub seen : All (λ h. h.front ≤ front) handles
  pub least : (other : ℕ) → All (λ h. h.front ≤ other) handles → front ≤ other

-- so it is with the pieces of the reorganisation that the last handle found begun; the workers go on from what all handles had seen
pub record IsWorkedOff (start : State) (moment element limit tries : ℕ) (handles : List Known) (ends : List (ℕ × PieceEnd)) (back : List Known) (receipts : List (List Receipt)) : Type 0 where
  pub kind : Work
  pub pieces : ℕ
  pub begun : OfLast handles (λ last. WasBegun start element kind pieces last.front)
  pub front : ℕ
  pub least : IsLeastFront handles front
  pub most : ℕ
  pub greatest : IsMostFront handles most
  pub done : Reorganises start (asked moment element kind pieces limit tries front most) handles ends back receipts

abbrev pub to_fault : TaskFault → ReorganiseFault
to_fault task_fault.BadCount = fault.BadCount
to_fault task_fault.Memory = fault.Memory
