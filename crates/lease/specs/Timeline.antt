-- Cited by the contracts of usable_when, two_usable_versions, Timeline, Timeline::new and 11 more.
-- When versions were published, and which leases hold.
use Rattle.std.specs.Prelude.{◌≡◌, ℕ, ◌+◌, ◌^◌, ◌<◌, ◌≤◌, List, [], ◌∷◌, length, ◌⊎◌}
use Rattle.std.specs.List.{All}
use Rattle.lease.specs.declared.lease.Lease.{Lease}

-- the lease length, and the moments at which the versions were published, the newest first
pub record Timeline : Type 0 where
  pub length : ℕ
  pub published : List ℕ

-- the greatest moment
abbrev pub max_moment : ℕ
max_moment = 2 ^ 62

-- a lease length
abbrev pub IsLength : ℕ → Type 0
IsLength length = (1 ≤ length) × (length ≤ 2 ^ 32)

-- the first version is published at moment 0, and each other one at least the lease length after the one before
abbrev pub IsTimeline : ℕ → List ℕ → Type 0
IsTimeline length [] = ⊥
IsTimeline length (first ∷ []) = first ≡ 0
IsTimeline length (later ∷ earlier ∷ rest) = (earlier + length ≤ later) × IsTimeline length (earlier ∷ rest)

-- a timeline within the limits
pub record IsValid (line : Timeline) : Type 0 where
  pub within : IsLength line.length
  pub in_turn : IsTimeline line.length line.published
  pub moments : All (λ moment. moment ≤ max_moment) line.published

-- version 1 at moment 0
abbrev pub opened : ℕ → Timeline
opened length = record { length = length; published = 0 ∷ [] }

-- one more version, at this moment
abbrev pub after_publication : Timeline → ℕ → Timeline
after_publication line moment = record { length = line.length; published = moment ∷ line.published }

-- the newest version's number
abbrev pub newest : Timeline → ℕ
newest line = length line.published

abbrev pub first_of : List ℕ → ℕ
first_of [] = 0
first_of (moment ∷ rest) = moment

abbrev pub last_publication : Timeline → ℕ
last_publication line = first_of line.published

-- this version stood as the newest from its publication up to this moment
abbrev pub WasNewest : List ℕ → ℕ → ℕ → ℕ → Type 0
WasNewest [] version moment now = ⊥
WasNewest (published ∷ rest) version moment now =
    ((version ≡ length (published ∷ rest)) × (published ≤ moment) × (moment ≤ now))
    ⊎ WasNewest rest version moment published

-- the lease could have been granted: on its version while that one was the newest, for the lease length
pub record IsHonest (line : Timeline) (now : ℕ) (lease : Lease) : Type 0 where
  pub in_time : WasNewest line.published lease.version lease.granted now
  pub full : lease.until ≡ lease.granted + line.length

-- the lease hasn't ended
abbrev pub IsInForce : Lease → ℕ → Type 0
IsInForce lease now = now < lease.until

-- some honest lease on the version is in force
abbrev pub IsUsable : Timeline → ℕ → ℕ → Type 0
IsUsable line version now = (lease : Lease) × (lease.version ≡ version) × IsHonest line now lease × IsInForce lease now

-- the lease that is granted at this moment: on the newest version
abbrev pub granted_at : Timeline → ℕ → Lease
granted_at line now = record { version = newest line; granted = now; until = now + line.length }

-- the first moment at which a version may be published
abbrev pub earliest : Timeline → ℕ
earliest line = last_publication line + line.length

-- the version is the newest, or the one before
abbrev pub IsLastTwo : Timeline → ℕ → Type 0
IsLastTwo line version = (version ≡ newest line) ⊎ ((1 ≤ version) × (version + 1 ≡ newest line))

-- the version is the newest, or the one before and the newest hasn't stood for the lease length
abbrev pub IsNewestOrBefore : Timeline → ℕ → ℕ → Type 0
IsNewestOrBefore line version now =
    (version ≡ newest line) ⊎ ((1 ≤ version) × (version + 1 ≡ newest line) × (now < earliest line))
