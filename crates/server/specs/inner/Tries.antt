-- Cited by private functions alone: held_or_new, committed_by, try_once, in_force.
-- What one try of a request comes to.
use Rattle.std.specs.Prelude.{◌≡◌, ℕ, ◌+◌, ◌<◌, ◌≤◌, List, All, Option, Some, None, true, false}
use Rattle.row_write.specs.declared.op.RowOp.{RowOp}
use Rattle.lease.specs.declared.lease.Lease.{Lease}
use Rattle.schema_version.specs.Version.{Version}
use Rattle.locked_store.specs.Receipt.{Receipt}
use Rattle.locked_store.specs.CommitFault.{CommitFault}
use Rattle.server.specs.Outcomes.{Said, IsEnd, IsFailedTry, IsAgain, IsLeaseReceipt, IsTrueOf, receipts_of}
use Rattle.server.specs.declared.request.Outcome.{Outcome}
use Rattle.server.specs.declared.request.Request.{Request}
use Rattle.server.specs.declared.tally.Last.{Last}

-- the try failed
abbrev pub HasFailed : (Said → Type 0) → ℕ → List RowOp → Type 0
HasFailed may moment ops = (fault : CommitFault) × IsFailedTry may moment ops fault

-- if all receipts of the port were of leases, they still are
abbrev pub StayLeases : (Said → Type 0) → List Receipt → List Receipt → Type 0
StayLeases may before after = All (IsLeaseReceipt may) before → All (IsLeaseReceipt may) after

-- the lease with which the next try begins, by the port's last answer: after a conflict there is one, and after its end there is none
abbrev pub IsNext : Option (Lease × Version) → Last → Type 0
IsNext (Some held) answer = IsAgain true answer
IsNext None answer = IsAgain false answer

-- no lease is taken where one is at hand
abbrev pub TakesNone : Option (Lease × Version) → List Receipt → List Receipt → Type 0
TakesNone None before after = Unit {0}
TakesNone (Some held) before after = after ≡ before

-- the lease that is at hand at this moment: the one that was, if it has not ended
abbrev pub IsLeft : ℕ → Option (Lease × Version) → Option (Lease × Version) → Type 0
IsLeft moment None left = left ≡ None
IsLeft moment (Some held) None = held.0.until ≤ moment
IsLeft moment (Some held) (Some left) = (left ≡ held) × (moment < held.0.until)

-- ---- what a try comes to: an outcome, or another try follows

-- how it ends, by the port's last answer, and the lease that is at hand then
abbrev pub EndsWith : Option Outcome → Option (Lease × Version) → Last → Type 0
EndsWith None held answer = IsNext held answer
EndsWith (Some o) held answer = IsEnd o answer

-- what is true of it
abbrev pub IsTrueOfTry : (Said → Type 0) → List Request → ℕ → List RowOp → ℕ → Option Outcome → Type 0
IsTrueOfTry may requests moment ops tries None = HasFailed may moment ops
IsTrueOfTry may requests moment ops tries (Some o) = IsTrueOf may requests moment ops tries o

-- how often the port has to be tried again, with this try
abbrev pub retries_after : ℕ → Option Outcome → ℕ
retries_after retries None = retries + 1
retries_after retries (Some o) = retries

-- how many receipts it holds
abbrev pub receipts_in : Option Outcome → ℕ
receipts_in None = 0
receipts_in (Some o) = receipts_of o
