-- Cited by the contracts of check.
-- A checkpoint as its parts are handed in.
use Rattle.std.specs.Prelude.{ℕ, List, Option}
use Rattle.lease.specs.Timeline.{Timeline}
use Rattle.row_map.specs.Rows.{Pairs}
use Rattle.schema_version.specs.Version.{Version}
use Rattle.reorganise.specs.declared.work.Progress.{Progress}
use Rattle.checkpoint.specs.Checkpoint.{Checkpoint}

abbrev pub given : ℕ → ℕ → Timeline → Version → Option Version → List Progress → Pairs → Checkpoint
given place moment line newest before progress pairs =
    record { place = place; moment = moment; line = line; newest = newest; before = before; progress = progress; pairs = pairs }
