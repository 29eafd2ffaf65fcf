-- Cited by the contracts of load.
-- What loading a checkpoint from saved bytes answers, with their digest or of earlier releases without one.
use Rattle.std.specs.Prelude.{◌≡◌, ◌⊎◌, ℕ, List, Result, Err}
use Rattle.checkpoint.specs.Checkpoint.{Checkpoint}
use Rattle.digested_bytes.specs.Whole.{HasMarker, IsWithDigest}
use Rattle.saved_world.specs.Loaded.{GivesBack, IsLoaded}
use Rattle.saved_world.specs.Saved.{IsSaved, IsSavedWhole}
use Rattle.saved_world.specs.declared.fault.LoadedFault.{LoadedFault}
use Rattle.saved_world.specs.declared.fault.LoadedFault.TheVariants.{Damaged}

-- the digest is not that of what is before it
abbrev pub IsDamaged : List ℕ → Type 0
IsDamaged bytes = HasMarker bytes × ((inner : List ℕ) → IsWithDigest inner bytes → ⊥)

-- what is loaded is that of the parts alone if there is no marker, else that of the parts before their digest
abbrev pub IsRead : List ℕ → Result Checkpoint LoadedFault → Type 0
IsRead bytes result =
    ((HasMarker bytes → ⊥) × IsLoaded bytes result)
    ⊎ ((inner : List ℕ) × IsWithDigest inner bytes × IsLoaded inner result)
    ⊎ (IsDamaged bytes × (result ≡ Err Damaged))

-- so it is with the bytes of every checkpoint; those without a digest do not begin with the marker
pub record IsReadBack (bytes : List ℕ) (result : Result Checkpoint LoadedFault) : Type 0 where
  pub whole : (limit : ℕ) (c : Checkpoint) → IsSavedWhole limit c bytes → GivesBack c result
  pub plain : (limit : ℕ) (c : Checkpoint) → (HasMarker bytes → ⊥) → IsSaved limit c bytes → GivesBack c result
