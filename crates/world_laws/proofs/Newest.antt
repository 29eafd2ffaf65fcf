-- The newest version may be used at the moment of the last entry, so the pairs agree with it.
use Rattle.std.proofs.Common.{◌≡◌, ℕ, suc, ◌+◌, List, [], ◌∷◌, length, Some, refl, ap, inl, arith, Bool, cond, eq-eqb}
use Rattle.lease.specs.Timeline.{newest as newest_number}
use Rattle.lease.proofs.Uses.{usable_from}
use Rattle.schema_version.specs.Version.{Version}
use Rattle.element_state.specs.Consistent.{IsConsistent}
use Rattle.replay.specs.Replay.{version_in}
use Rattle.world.specs.State.{State, facts_of, Agrees}
use Rattle.world_laws.specs.Recent.{IsPublishedBy}

-- the newest version stands under the number of publications
newest_there : (newest : Version) (older : List Version) (number : ℕ) → length (newest ∷ older) ≡ number → version_in (newest ∷ older) number ≡ Some newest
newest_there newest older number is = ap (λ (b : Bool). cond b (Some newest) (version_in older number)) (eq-eqb number (length older + 1) (omega (arith, is)))

pub consistent_newest : (s : State) → IsPublishedBy s (facts_of s).moment → Agrees s → IsConsistent (facts_of s).newest (facts_of s).rows s.pairs
consistent_newest s by agrees =
    agrees (newest_number (facts_of s).line) (facts_of s).newest
    (usable_from (facts_of s).line (newest_number (facts_of s).line) (facts_of s).moment by.valid by.past (inl refl))
    (newest_there (facts_of s).newest (facts_of s).older (newest_number (facts_of s).line) by.counted)
