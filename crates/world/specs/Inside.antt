-- Cited by the contracts of World.
-- What the fields of a World stand for, and what is true of them.
use Rattle.std.specs.Prelude.{◌≡◌, slice_get}
use Rattle.row_map.specs.Rows.{Pairs}
use Rattle.replay.specs.Replay.{Facts}
use Rattle.replay.specs.Kept.{IsKept}
use Rattle.world.specs.declared.world.World.TheInside.{Inside}
use Rattle.world.specs.State.{State, facts_of}
use Rattle.world.specs.Whole.{Entries, whole}

abbrev pub state_with : Entries → Pairs → State
state_with entries pairs = record { opening = entries.opening; log = entries.all; cut = entries.cut; pairs = pairs }

abbrev pub state_of : Inside → State
state_of fields = state_with (whole fields.log) fields.store

-- the fields have what a log says
pub record Follow (fields : Inside) (facts : Facts) : Type 0 where
  pub moment : fields.log.moment ≡ facts.moment
  pub line : fields.line ≡ facts.line
  pub newest : fields.newest ≡ facts.newest
  pub before : fields.before ≡ slice_get facts.older 0
  pub begun : fields.begun.items ≡ facts.progress
  pub pairs : fields.store ≡ facts.pairs

-- they have what their own log says, which keeps all that the theorem rests on
pub record IsHeld (fields : Inside) : Type 0 where
  pub follow : Follow fields (facts_of (state_of fields))
  pub kept : IsKept (facts_of (state_of fields))
