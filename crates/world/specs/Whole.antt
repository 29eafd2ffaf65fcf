-- Cited by the contracts of Log, World.
-- A log as contracts see it: from where it goes on, how many of its entries are no longer in memory, and all of them.
use Rattle.std.specs.Prelude.{ℕ, ◌+◌, ◌-◌, List, [], ◌∷◌, ◌++◌, drop, length}
use Rattle.checkpoint_check.specs.Checkpoint.{Checkpoint}
use Rattle.replay.specs.declared.entry.Entry.{Entry}
use Rattle.world.specs.declared.log.Log.{Log}

pub record Entries : Type 0 where
  pub opening : Checkpoint
  pub cut : ℕ
  pub all : List Entry

abbrev pub whole : Log → Entries
whole log = record { opening = log.from.value; cut = length log.gone.entries; all = log.gone.entries ++ log.entries.items }

abbrev pub none_yet : Checkpoint → Entries
none_yet opening = record { opening = opening; cut = 0; all = [] }

abbrev pub one_more : Entries → Entry → Entries
one_more entries entry = record { opening = entries.opening; cut = entries.cut; all = entries.all ++ entry ∷ [] }

abbrev pub cut_all : Entries → Entries
cut_all entries = record { opening = entries.opening; cut = length entries.all; all = entries.all }

-- all but the last so many of those in memory are given back
abbrev pub cut_but : ℕ → Entries → Entries
cut_but keep entries = record { opening = entries.opening; cut = entries.cut + (length (drop entries.cut entries.all) - keep); all = entries.all }

-- how many entries there were ever
abbrev pub count_of : Entries → ℕ
count_of entries = entries.opening.place + length entries.all
